-- The laws of rules. Assumes nothing.
use Rattle.std.proofs.Common.{◌≡◌, ℕ, zero, suc, ◌+◌, ◌<◌, Bool, true, false, not, ◌&&◌, ◌||◌, eqb, ltb, ◌⊎◌, sym, refl, subst, inl, inr, arith}
use Rattle.std.proofs.lemmas.Bool.{cases_lt, cases_Bool, and_parts, and_from, or_cases, both_ways, ltb-true, eqb-true, not-true, not_from_false}
use Rattle.layout.specs.Layout.{nothing, box, both, Drawing, drawn_with, drawn}
use Rattle.region.specs.Firsts.{Squares, First}
use Rattle.blocks.specs.Blocks.{any_of, all_of, block, in_a_block, drawn_in, free_block}
use Rattle.blocks.proofs.Counts.{any_true, true_any, all_true}
use Rattle.rules.specs.Rules.{Region, layer, Rule, wide, apart, inside, never, squares, breaks}
use Rattle.rules.specs.Laws.{reach_of, Decided, two_boxes, ThreeBreak, Table}
use Rattle.rules.proofs.Extents.{size, low-drawn, low-region, low_wide, low-apart, low-inside}

-- the first of the numbers below n that passes a test
least : (n : ℕ) (f : ℕ → Bool) → ((i : ℕ) → i < n → f i ≡ false) ⊎ ((i : ℕ) × (i < n) × (f i ≡ true) × ((j : ℕ) → j < i → f j ≡ false))
least zero f = inl (λ i l. absurd (omega (arith, l)))
least (suc n) f =
    elim (least n f) [
      | inr w ↦ inr (w.0, omega (arith, w.1), w.2, w.3)
      | inl h ↦
          elim (cases_Bool (f n)) [
            | inl t ↦ inr (n, omega arith, t, h)
            | inr e ↦ inl (λ i l. elim (cases_lt i n) [ inl k ↦ h i k | inr k ↦ let q : i ≡ n = omega (arith, k, l) in subst (λ z. f z ≡ false) (sym q) e ])
          ]
    ]

-- a set of squares that ends below m: row by row, and in the first row that has one of them column by column
search_first : (m : ℕ) (s : Squares) → ((x y : ℕ) → s x y ≡ true → (x < m) × (y < m)) → ((x y : ℕ) → s x y ≡ false) ⊎ ((x : ℕ) × (y : ℕ) × First s x y)
search_first m s low =
    let clear : (y : ℕ) → any_of m (λ x. s x y) ≡ false → (x : ℕ) → s x y ≡ false = λ y e x. elim (cases_Bool (s x y)) [ inr g ↦ g | inl g ↦ absurd (both_ways (any_of m (λ x. s x y)) e (true_any m (λ x. s x y) x (low x y g).0 g)) ] in
    elim (least m (λ y. any_of m (λ x. s x y))) [
      | inl h ↦ inl (λ x y. elim (cases_Bool (s x y)) [ inr g ↦ g | inl g ↦ clear y (h y (low x y g).1) x ])
      | inr w ↦
          elim (least m (λ x. s x w.0)) [
            | inl h ↦ let t = any_true m (λ x. s x w.0) w.2 in absurd (both_ways (s t.0 w.0) (h t.0 t.1) t.2)
            | inr k ↦ inr (k.0, w.0, (k.2, λ u v o. elim o [ inl l ↦ clear v (w.3 v l) u | inr p ↦ subst (λ z. s u z ≡ false) (sym p.0) (k.3 u p.1) ]))
          ]
    ]

-- where some square of the first row is in the set
search_row : (m : ℕ) (s : Squares) → s m 0 ≡ true → (x : ℕ) × (y : ℕ) × First s x y
search_row m s t =
    elim (least (suc m) (λ x. s x 0)) [
      | inl h ↦ absurd (both_ways (s m 0) (h m (omega arith)) t)
      | inr k ↦ (k.0, 0, (k.2, λ u v o. elim o [ inl l ↦ absurd (omega (arith, l)) | inr p ↦ subst (λ z. s u z ≡ false) (sym p.0) (k.3 u p.1) ]))
    ]

-- a gap of 0 is asked for: all squares outside the region break the rule
gap_of_none : (d : Drawing) (m : ℕ) → ((l x y : ℕ) → d l x y ≡ true → (x < m) × (y < m)) → (r : Region) → breaks d (apart r 0) (m + reach_of r) 0 ≡ true
unfolding breaks free_block in_a_block any_of
gap_of_none d m h r =
    and_from (not (squares d r (m + reach_of r) 0)) true (not_from_false (squares d r (m + reach_of r) 0) (elim (cases_Bool (squares d r (m + reach_of r) 0)) [ inr g ↦ g | inl g ↦ let w = low-region d m h r (m + reach_of r) 0 g in absurd (omega (arith, w.0)) ])) refl

never-low : (d : Drawing) (m : ℕ) → ((l x y : ℕ) → d l x y ≡ true → (x < m) × (y < m)) → (r : Region) (x y : ℕ) → breaks d (never r) x y ≡ true → (x < m + reach_of r) × (y < m + reach_of r)
unfolding breaks
never-low d m h r x y t = low-region d m h r x y t

decide : (d : Drawing) (m : ℕ) → ((l x y : ℕ) → d l x y ≡ true → (x < m) × (y < m)) → (r : Rule) → ((x y : ℕ) → breaks d r x y ≡ false) ⊎ ((x : ℕ) × (y : ℕ) × First (breaks d r) x y)
decide d m h (wide r n) = search_first (m + reach_of r) (breaks d (wide r n)) (low_wide d m h r n)
decide d m h (apart r zero) = inr (search_row (m + reach_of r) (breaks d (apart r 0)) (gap_of_none d m h r))
decide d m h (apart r (suc n)) = search_first (m + reach_of r) (breaks d (apart r (suc n))) (low-apart d m h r n)
decide d m h (inside a b n) = search_first (m + reach_of a) (breaks d (inside a b n)) (low-inside d m h a b n)
decide d m h (never r) = search_first (m + reach_of r) (breaks d (never r)) (never-low d m h r)

pub decided : Decided
decided bodies n a r = decide (drawn bodies n a) (size bodies n a) (low-drawn bodies n a) r

-- told by trying each square as far as the drawing can extend
three : (r : Rule) (c : ℕ) → ((x y : ℕ) → breaks two_boxes r x y ≡ true → (x < 18) × (y < 18)) → breaks two_boxes r c 0 ≡ true → breaks two_boxes r c 1 ≡ true → breaks two_boxes r c 2 ≡ true → all_of 18 (λ x. all_of 18 (λ y. not (breaks two_boxes r x y) || (eqb x c && ltb y 3))) ≡ true → ThreeBreak two_boxes r c
three r c low a b e h =
    let only : (x y : ℕ) → breaks two_boxes r x y ≡ true → (x ≡ c) × (y < 3) = λ x y t.
    let w = low x y t in
    elim (or_cases (not (breaks two_boxes r x y)) (eqb x c && ltb y 3) (all_true 18 (λ y. not (breaks two_boxes r x y) || (eqb x c && ltb y 3)) (all_true 18 (λ x. all_of 18 (λ y. not (breaks two_boxes r x y) || (eqb x c && ltb y 3))) h x w.0) y w.1)) [
      | inl g ↦ absurd (both_ways (breaks two_boxes r x y) (not-true (breaks two_boxes r x y) g) t)
      | inr g ↦ let p = and_parts (eqb x c) (ltb y 3) g in (eqb-true x c p.0, ltb-true y 3 p.1)
    ] in
    (a, b, e, only, (a, λ u v o. elim (cases_Bool (breaks two_boxes r u v)) [ inr g ↦ g | inl g ↦ elim o [ inl l ↦ absurd (omega (arith, l)) | inr p ↦ let w = only u v g in absurd (omega (arith, w.0, p.1)) ] ]))

pub table : Table
unfolding breaks squares drawn drawn_with in_a_block free_block drawn_in block any_of all_of
table = (
  three (wide (layer 0) 2) 6 (low_wide two_boxes 18 (low-drawn (λ k. nothing) 0 (both (box 0 0 0 5 3) (box 0 6 0 1 3))) (layer 0) 2) refl refl refl refl,
  three (apart (layer 0) 2) 5 (low-apart two_boxes 18 (low-drawn (λ k. nothing) 0 (both (box 0 0 0 5 3) (box 0 6 0 1 3))) (layer 0) 1) refl refl refl refl,
)
