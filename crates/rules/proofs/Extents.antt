-- How far drawings, regions and the squares that break a rule extend. Assumes nothing.
use Rattle.std.proofs.Common.{◌≡◌, ℕ, zero, suc, ◌+◌, ◌-◌, ◌*◌, ◌<◌, ◌≤◌, true, false, not, ◌&&◌, eqb, ltb, leb, ◌⊎◌, inl, inr, suc-mul, arith}
use Rattle.std.proofs.lemmas.Bool.{cases_lt, cases_Bool, and_parts, or_cases, both_ways, false≢true, ltb-true, not-true, not_from_false}
use Rattle.layout.specs.Layout.{Layout, nothing, box, both, moved, turned, mirrored, row, column, cell, Drawing, shifted, in_a_row, in_a_column, drawn_with, drawn}
use Rattle.region.specs.Firsts.{Squares}
use Rattle.blocks.specs.Blocks.{in_a_block, drawn_in, free_block}
use Rattle.blocks.proofs.Counts.{near-some, all_block, in_block}
use Rattle.rules.specs.Rules.{Region, layer, and, or, without, grown, wide, apart, inside, surrounded, squares, breaks}
use Rattle.rules.specs.Laws.{reach_of}

-- a size that a layout stays below, from those of its cells
abbrev pub extent : (ℕ → ℕ) → Layout → ℕ
extent f nothing = 0
extent f (box l u v a d) = u + a + (v + d)
extent f (both a b) = extent f a + extent f b
extent f (moved r b a) = r + b + extent f a
extent f (turned s a) = s
extent f (mirrored s a) = s + extent f a
extent f (row n g a) = n * g + extent f a
extent f (column n g a) = n * g + extent f a
extent f (cell k) = f k

low-shifted : (r b m : ℕ) (d : Drawing) (l : ℕ) → ((x y : ℕ) → d l x y ≡ true → (x < m) × (y < m)) → (x y : ℕ) → shifted r b d l x y ≡ true → (x < r + m) × (y < b + m)
unfolding shifted
low-shifted r b m d l h x y t =
    let p = and_parts (leb r x) (leb b y && d l (x - r) (y - b)) t in
    let q = and_parts (leb b y) (d l (x - r) (y - b)) p.1 in
    let w = h (x - r) (y - b) q.1 in
    (omega (arith, w.0), omega (arith, w.1))

low-row : (n g m : ℕ) (d : Drawing) (l : ℕ) → ((x y : ℕ) → d l x y ≡ true → (x < m) × (y < m)) → (x y : ℕ) → in_a_row n g d l x y ≡ true → (x < n * g + m) × (y < n * g + m)
unfolding in_a_row
low-row zero g m d l h x y t = absurd (false≢true t)
low-row (suc n) g m d l h x y t =
    elim (or_cases (shifted (n * g) 0 d l x y) (in_a_row n g d l x y) t) [
      | inl e ↦ let w = low-shifted (n * g) 0 m d l h x y e in (omega (arith, w.0, suc-mul n g), omega (arith, w.1, suc-mul n g))
      | inr e ↦ let w = low-row n g m d l h x y e in (omega (arith, w.0, suc-mul n g), omega (arith, w.1, suc-mul n g))
    ]

low_column : (n g m : ℕ) (d : Drawing) (l : ℕ) → ((x y : ℕ) → d l x y ≡ true → (x < m) × (y < m)) → (x y : ℕ) → in_a_column n g d l x y ≡ true → (x < n * g + m) × (y < n * g + m)
unfolding in_a_column
low_column zero g m d l h x y t = absurd (false≢true t)
low_column (suc n) g m d l h x y t =
    elim (or_cases (shifted 0 (n * g) d l x y) (in_a_column n g d l x y) t) [
      | inl e ↦ let w = low-shifted 0 (n * g) m d l h x y e in (omega (arith, w.0, suc-mul n g), omega (arith, w.1, suc-mul n g))
      | inr e ↦ let w = low_column n g m d l h x y e in (omega (arith, w.0, suc-mul n g), omega (arith, w.1, suc-mul n g))
    ]

low-with : (c : ℕ → Drawing) (f : ℕ → ℕ) → ((k l x y : ℕ) → c k l x y ≡ true → (x < f k) × (y < f k)) → (a : Layout) (l x y : ℕ) → drawn_with c a l x y ≡ true → (x < extent f a) × (y < extent f a)
unfolding drawn_with
low-with c f h nothing l x y t = absurd (false≢true t)
low-with c f h (box m u v a d) l x y t =
    let p = and_parts (eqb l m) (leb u x && (ltb x (u + a) && (leb v y && ltb y (v + d)))) t in
    let q = and_parts (leb u x) (ltb x (u + a) && (leb v y && ltb y (v + d))) p.1 in
    let r = and_parts (ltb x (u + a)) (leb v y && ltb y (v + d)) q.1 in
    let s = and_parts (leb v y) (ltb y (v + d)) r.1 in
    (omega (arith, ltb-true x (u + a) r.0), omega (arith, ltb-true y (v + d) s.1))
low-with c f h (both a b) l x y t =
    elim (or_cases (drawn_with c a l x y) (drawn_with c b l x y) t) [
      | inl e ↦ let w = low-with c f h a l x y e in (omega (arith, w.0), omega (arith, w.1))
      | inr e ↦ let w = low-with c f h b l x y e in (omega (arith, w.0), omega (arith, w.1))
    ]
low-with c f h (moved r b a) l x y t = let w = low-shifted r b (extent f a) (drawn_with c a) l (low-with c f h a l) x y t in (omega (arith, w.0), omega (arith, w.1))
low-with c f h (turned s a) l x y t =
    let p = and_parts (ltb x s) (ltb y s && drawn_with c a l y (s - 1 - x)) t in
    let q = and_parts (ltb y s) (drawn_with c a l y (s - 1 - x)) p.1 in
    (ltb-true x s p.0, ltb-true y s q.0)
low-with c f h (mirrored s a) l x y t =
    let p = and_parts (ltb x s) (drawn_with c a l (s - 1 - x) y) t in
    let w = low-with c f h a l (s - 1 - x) y p.1 in
    (omega (arith, ltb-true x s p.0), omega (arith, w.1))
low-with c f h (row n g a) l x y t = low-row n g (extent f a) (drawn_with c a) l (low-with c f h a l) x y t
low-with c f h (column n g a) l x y t = low_column n g (extent f a) (drawn_with c a) l (low-with c f h a l) x y t
low-with c f h (cell k) l x y t = h k l x y t

-- over cell bodies, by their levels
abbrev pub size : (ℕ → Layout) → ℕ → Layout → ℕ
size bodies zero a = extent (λ k. 0) a
size bodies (suc n) a = extent (λ k. size bodies n (bodies k)) a

pub low-drawn : (bodies : ℕ → Layout) (n : ℕ) (a : Layout) (l x y : ℕ) → drawn bodies n a l x y ≡ true → (x < size bodies n a) × (y < size bodies n a)
unfolding drawn
low-drawn bodies zero a l x y t = low-with (λ k l x y. false) (λ k. 0) (λ k l x y e. absurd (false≢true e)) a l x y t
low-drawn bodies (suc n) a l x y t = low-with (λ k. drawn bodies n (bodies k)) (λ k. size bodies n (bodies k)) (λ k. low-drawn bodies n (bodies k)) a l x y t

pub low-region : (d : Drawing) (m : ℕ) → ((l x y : ℕ) → d l x y ≡ true → (x < m) × (y < m)) → (r : Region) (x y : ℕ) → squares d r x y ≡ true → (x < m + reach_of r) × (y < m + reach_of r)
unfolding squares
low-region d m h (layer l) x y t = let w = h l x y t in (omega (arith, w.0), omega (arith, w.1))
low-region d m h (and a b) x y t = let p = and_parts (squares d a x y) (squares d b x y) t in let w = low-region d m h a x y p.0 in (omega (arith, w.0), omega (arith, w.1))
low-region d m h (or a b) x y t =
    elim (or_cases (squares d a x y) (squares d b x y) t) [
      | inl e ↦ let w = low-region d m h a x y e in (omega (arith, w.0), omega (arith, w.1))
      | inr e ↦ let w = low-region d m h b x y e in (omega (arith, w.0), omega (arith, w.1))
    ]
low-region d m h (without a b) x y t = let p = and_parts (squares d a x y) (not (squares d b x y)) t in let w = low-region d m h a x y p.0 in (omega (arith, w.0), omega (arith, w.1))
low-region d m h (grown n a) x y t =
    let s = near-some n (squares d a) x y t in
    let w = low-region d m h a s.0 s.1 s.6 in
    (omega (arith, w.0, s.3), omega (arith, w.1, s.5))

-- beyond a set of squares there is a free block around each square
pub free-beyond : (n m : ℕ) (s : Squares) → ((x y : ℕ) → s x y ≡ true → (x < m) × (y < m)) → (x y : ℕ) → (m ≤ x) ⊎ (m ≤ y) → free_block (suc n) s x y ≡ true
unfolding free_block drawn_in
free-beyond n m s h x y o =
    in_block (suc n) (λ u v. not (drawn_in (suc n) s u v)) (x + suc n) (y + suc n) (x + suc n) (y + suc n) (omega arith) (omega arith) (omega arith) (omega arith)
    (all_block (suc n) (λ u v. not (drawn_in (suc n) s u v)) (x + suc n) (y + suc n) (λ u v a b c d.
    not_from_false (drawn_in (suc n) s u v) (elim (cases_Bool (drawn_in (suc n) s u v)) [
      | inr e ↦ e
      | inl e ↦
          let p = and_parts (leb (suc n) u) (leb (suc n) v && s (u - suc n) (v - suc n)) e in
          let q = and_parts (leb (suc n) v) (s (u - suc n) (v - suc n)) p.1 in
          let w = h (u - suc n) (v - suc n) q.1 in
          elim o [ inl k ↦ absurd (omega (arith, w.0, a, k)) | inr k ↦ absurd (omega (arith, w.1, c, k)) ]
    ])))

-- all rules but those that ask for a gap of 0, which every square outside breaks
pub low_wide : (d : Drawing) (m : ℕ) → ((l x y : ℕ) → d l x y ≡ true → (x < m) × (y < m)) → (r : Region) (n x y : ℕ) → breaks d (wide r n) x y ≡ true → (x < m + reach_of r) × (y < m + reach_of r)
unfolding breaks
low_wide d m h r n x y t = low-region d m h r x y (and_parts (squares d r x y) (not (in_a_block n (squares d r) x y)) t).0

pub low-apart : (d : Drawing) (m : ℕ) → ((l x y : ℕ) → d l x y ≡ true → (x < m) × (y < m)) → (r : Region) (n x y : ℕ) → breaks d (apart r (suc n)) x y ≡ true → (x < m + reach_of r) × (y < m + reach_of r)
unfolding breaks
low-apart d m h r n x y t =
    let p = and_parts (not (squares d r x y)) (not (free_block (suc n) (squares d r) x y)) t in
    let none = not-true (free_block (suc n) (squares d r) x y) p.1 in
    let far : (m + reach_of r ≤ x) ⊎ (m + reach_of r ≤ y) → ⊥ = λ o. both_ways (free_block (suc n) (squares d r) x y) none (free-beyond n (m + reach_of r) (squares d r) (low-region d m h r) x y o) in (
      elim (cases_lt x (m + reach_of r)) [ inl k ↦ k | inr k ↦ absurd (far (inl k)) ],
      elim (cases_lt y (m + reach_of r)) [ inl k ↦ k | inr k ↦ absurd (far (inr k)) ],
    )

pub low-inside : (d : Drawing) (m : ℕ) → ((l x y : ℕ) → d l x y ≡ true → (x < m) × (y < m)) → (a b : Region) (n x y : ℕ) → breaks d (inside a b n) x y ≡ true → (x < m + reach_of a) × (y < m + reach_of a)
unfolding breaks
low-inside d m h a b n x y t = low-region d m h a x y (and_parts (squares d a x y) (not (surrounded n (squares d b) x y)) t).0
