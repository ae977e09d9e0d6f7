-- Rules on a drawing that is moved as a whole. Assumes nothing.
use Rattle.std.proofs.Common.{◌≡◌, ℕ, ◌+◌, ◌-◌, ◌<◌, ◌≤◌, Bool, true, not, ◌&&◌, leb, sym, ap, ◌∙◌, subst, inl, inr, arith}
use Rattle.std.proofs.lemmas.Bool.{cases_lt, cases_Bool, and_parts, and_from, or_cases, both_ways, leb-true, le-leb}
use Rattle.layout.specs.Layout.{Drawing, shifted}
use Rattle.region.specs.Firsts.{Squares}
use Rattle.blocks.specs.Blocks.{near, block, in_a_block, drawn_in, free_block}
use Rattle.blocks.proofs.Counts.{tell_same, near-some, some_near, block_all, all_block, around, in_block}
use Rattle.rules.specs.Rules.{Region, layer, and, or, without, grown, Rule, wide, apart, inside, never, surrounded, squares, breaks}
use Rattle.rules.specs.Laws.{reach_of, reach, RulesMove}
use Rattle.rules.proofs.Surroundings.{parts, each, all}

-- a region of a drawing that begins at column p and row q begins no farther before them than it reaches
high-region : (d : Drawing) (p q : ℕ) → ((l x y : ℕ) → d l x y ≡ true → (p ≤ x) × (q ≤ y)) → (r : Region) (x y : ℕ) → squares d r x y ≡ true → (p ≤ x + reach_of r) × (q ≤ y + reach_of r)
unfolding squares
high-region d p q h (layer l) x y t = let w = h l x y t in (omega (arith, w.0), omega (arith, w.1))
high-region d p q h (and a b) x y t = let k = and_parts (squares d a x y) (squares d b x y) t in let w = high-region d p q h a x y k.0 in (omega (arith, w.0), omega (arith, w.1))
high-region d p q h (or a b) x y t =
    elim (or_cases (squares d a x y) (squares d b x y) t) [
      | inl e ↦ let w = high-region d p q h a x y e in (omega (arith, w.0), omega (arith, w.1))
      | inr e ↦ let w = high-region d p q h b x y e in (omega (arith, w.0), omega (arith, w.1))
    ]
high-region d p q h (without a b) x y t = let k = and_parts (squares d a x y) (not (squares d b x y)) t in let w = high-region d p q h a x y k.0 in (omega (arith, w.0), omega (arith, w.1))
high-region d p q h (grown n a) x y t =
    let s = near-some n (squares d a) x y t in
    let w = high-region d p q h a s.0 s.1 s.6 in
    (omega (arith, w.0, s.2), omega (arith, w.1, s.4))

high-shifted : (r b m : ℕ) (d : Drawing) → ((l x y : ℕ) → d l x y ≡ true → (m ≤ x) × (m ≤ y)) → (l x y : ℕ) → shifted r b d l x y ≡ true → (m + r ≤ x) × (m + b ≤ y)
unfolding shifted
high-shifted r b m d h l x y t =
    let p = and_parts (leb r x) (leb b y && d l (x - r) (y - b)) t in
    let q = and_parts (leb b y) (d l (x - r) (y - b)) p.1 in
    let w = h l (x - r) (y - b) q.1 in
    (omega (arith, w.0, leb-true r x p.0), omega (arith, w.1, leb-true b y q.0))

-- t is s moved
abbrev Moved : ℕ → ℕ → Squares → Squares → Type 0
Moved r b s t = (x y : ℕ) → t (x + r) (y + b) ≡ s x y

-- seen from a square far enough on
back : (r b : ℕ) (s t : Squares) → Moved r b s t → (u v : ℕ) → r ≤ u → b ≤ v → t u v ≡ s (u - r) (v - b)
back r b s t e u v k l =
    let f : u - r + r ≡ u = omega arith in
    let g : v - b + b ≡ v = omega arith in
    sym (subst (λ z. t z (v - b + b) ≡ t u v) (sym f) (ap (λ z. t u z) g)) ∙ e (u - r) (v - b)

near-moved : (n r b : ℕ) (s t : Squares) → Moved r b s t → ((u v : ℕ) → t u v ≡ true → (r ≤ u) × (b ≤ v)) → Moved r b (near n s) (near n t)
near-moved n r b s t e far x y = tell_same (near n t (x + r) (y + b)) (near n s x y)
    (λ h.
    let w = near-some n t (x + r) (y + b) h in
    let f = far w.0 w.1 w.6 in
    some_near n s x y (w.0 - r) (w.1 - b) (omega (arith, w.2)) (omega (arith, w.3, f.0)) (omega (arith, w.4)) (omega (arith, w.5, f.1)) (sym (back r b s t e w.0 w.1 f.0 f.1) ∙ w.6))
    (λ h.
    let w = near-some n s x y h in
    some_near n t (x + r) (y + b) (w.0 + r) (w.1 + b) (omega (arith, w.2)) (omega (arith, w.3)) (omega (arith, w.4)) (omega (arith, w.5)) (e w.0 w.1 ∙ w.6))

-- in a block alike, where the blocks around the moved square lie in what was moved
blocks_moved : (n r b : ℕ) (s t : Squares) → Moved r b s t → (x y : ℕ) → ((p q : ℕ) → p ≤ x + r → x + r < p + n → q ≤ y + b → y + b < q + n → block n t p q ≡ true → (r ≤ p) × (b ≤ q)) → in_a_block n t (x + r) (y + b) ≡ in_a_block n s x y
blocks_moved n r b s t e x y far = tell_same (in_a_block n t (x + r) (y + b)) (in_a_block n s x y)
    (λ h.
    let w = around n t (x + r) (y + b) h in
    let f = far w.0 w.1 w.2 w.3 w.4 w.5 w.6 in
    in_block n s x y (w.0 - r) (w.1 - b) (omega (arith, w.2)) (omega (arith, w.3, f.0)) (omega (arith, w.4)) (omega (arith, w.5, f.1))
    (all_block n s (w.0 - r) (w.1 - b) (λ u v i j k l. sym (e u v) ∙ block_all n t w.0 w.1 w.6 (u + r) (v + b) (omega (arith, i, f.0)) (omega (arith, j, f.0)) (omega (arith, k, f.1)) (omega (arith, l, f.1)))))
    (λ h.
    let w = around n s x y h in
    in_block n t (x + r) (y + b) (w.0 + r) (w.1 + b) (omega (arith, w.2)) (omega (arith, w.3)) (omega (arith, w.4)) (omega (arith, w.5))
    (all_block n t (w.0 + r) (w.1 + b) (λ u v i j k l. back r b s t e u v (omega (arith, i)) (omega (arith, k)) ∙ block_all n s w.0 w.1 w.6 (u - r) (v - b) (omega (arith, i)) (omega (arith, i, j)) (omega (arith, k)) (omega (arith, k, l)))))

within-moved : (n r b : ℕ) (s t : Squares) → Moved r b s t → ((u v : ℕ) → t u v ≡ true → (r ≤ u) × (b ≤ v)) → Moved r b (in_a_block n s) (in_a_block n t)
within-moved n r b s t e far x y = blocks_moved n r b s t e x y (λ p q i j k l h. far p q (block_all n t p q h p q (omega arith) (omega (arith, i, j)) (omega arith) (omega (arith, k, l))))

drawn_in_moved : (n r b : ℕ) (s t : Squares) → Moved r b s t → ((u v : ℕ) → t u v ≡ true → (r ≤ u) × (b ≤ v)) → Moved r b (drawn_in n s) (drawn_in n t)
unfolding drawn_in
drawn_in_moved n r b s t e far x y = tell_same (drawn_in n t (x + r) (y + b)) (drawn_in n s x y)
    (λ h.
    let p = and_parts (leb n (x + r)) (leb n (y + b) && t (x + r - n) (y + b - n)) h in
    let q = and_parts (leb n (y + b)) (t (x + r - n) (y + b - n)) p.1 in
    let f = far (x + r - n) (y + b - n) q.1 in
    let i = leb-true n (x + r) p.0 in
    let j = leb-true n (y + b) q.0 in
    let k : n ≤ x = omega (arith, f.0, i) in
    let l : n ≤ y = omega (arith, f.1, j) in
    let u : x + r - n - r ≡ x - n = omega arith in
    let v : y + b - n - b ≡ y - n = omega arith in
    let g : s (x + r - n - r) (y + b - n - b) ≡ true = sym (back r b s t e (x + r - n) (y + b - n) f.0 f.1) ∙ q.1 in
    and_from (leb n x) (leb n y && s (x - n) (y - n)) (le-leb n x k) (and_from (leb n y) (s (x - n) (y - n)) (le-leb n y l) (subst (λ z. s (x - n) z ≡ true) v (subst (λ z. s z (y + b - n - b) ≡ true) u g))))
    (λ h.
    let p = and_parts (leb n x) (leb n y && s (x - n) (y - n)) h in
    let q = and_parts (leb n y) (s (x - n) (y - n)) p.1 in
    let k = leb-true n x p.0 in
    let l = leb-true n y q.0 in
    let u : x - n + r ≡ x + r - n = omega (arith, k) in
    let v : y - n + b ≡ y + b - n = omega (arith, l) in
    let g : t (x - n + r) (y - n + b) ≡ true = e (x - n) (y - n) ∙ q.1 in
    and_from (leb n (x + r)) (leb n (y + b) && t (x + r - n) (y + b - n)) (le-leb n (x + r) (omega (arith, k))) (and_from (leb n (y + b)) (t (x + r - n) (y + b - n)) (le-leb n (y + b) (omega (arith, l))) (subst (λ z. t (x + r - n) z ≡ true) v (subst (λ z. t z (y - n + b) ≡ true) u g))))

free_moved : (n r b : ℕ) (s t : Squares) → Moved r b s t → ((u v : ℕ) → t u v ≡ true → (r ≤ u) × (b ≤ v)) → Moved r b (free_block n s) (free_block n t)
unfolding free_block
free_moved n r b s t e far x y =
    let u : x + r + n ≡ x + n + r = omega arith in
    let v : y + b + n ≡ y + n + b = omega arith in
    let g : in_a_block n (λ u v. not (drawn_in n t u v)) (x + n + r) (y + n + b) ≡ in_a_block n (λ u v. not (drawn_in n s u v)) (x + n) (y + n) = blocks_moved n r b (λ u v. not (drawn_in n s u v)) (λ u v. not (drawn_in n t u v)) (λ u v. ap not (drawn_in_moved n r b s t e far u v)) (x + n) (y + n) (λ p q i j k l h. (omega (arith, j), omega (arith, l))) in
    subst (λ z. in_a_block n (λ u v. not (drawn_in n t u v)) z (y + b + n) ≡ in_a_block n (λ u v. not (drawn_in n s u v)) (x + n) (y + n)) (sym u) (subst (λ z. in_a_block n (λ u v. not (drawn_in n t u v)) (x + n + r) z ≡ in_a_block n (λ u v. not (drawn_in n s u v)) (x + n) (y + n)) (sym v) g)

-- surrounded alike, where the square lies far enough from the edges
surrounded_moved : (n r b : ℕ) (s t : Squares) → Moved r b s t → (x y : ℕ) → n ≤ x → n ≤ y → surrounded n t (x + r) (y + b) ≡ surrounded n s x y
surrounded_moved n r b s t e x y k l =
    let at : (i j : ℕ) → t (x + r + i - n) (y + b + j - n) ≡ s (x + i - n) (y + j - n) = λ i j.
    let u : x + i - n + r ≡ x + r + i - n = omega (arith, k) in
    let v : y + j - n + b ≡ y + b + j - n = omega (arith, l) in
    subst (λ z. t (x + r + i - n) z ≡ s (x + i - n) (y + j - n)) v (subst (λ z. t z (y + j - n + b) ≡ s (x + i - n) (y + j - n)) u (e (x + i - n) (y + j - n))) in
    tell_same (surrounded n t (x + r) (y + b)) (surrounded n s x y)
    (λ h. all n s x y (λ i j a c. let w = parts n t (x + r) (y + b) i j (each n t (x + r) (y + b) h i j a c) in and_from (leb n (x + i)) (leb n (y + j) && s (x + i - n) (y + j - n)) (le-leb n (x + i) (omega (arith, k))) (and_from (leb n (y + j)) (s (x + i - n) (y + j - n)) (le-leb n (y + j) (omega (arith, l))) (sym (at i j) ∙ w.2))))
    (λ h. all n t (x + r) (y + b) (λ i j a c. let w = parts n s x y i j (each n s x y h i j a c) in and_from (leb n (x + r + i)) (leb n (y + b + j) && t (x + r + i - n) (y + b + j - n)) (le-leb n (x + r + i) (omega (arith, k))) (and_from (leb n (y + b + j)) (t (x + r + i - n) (y + b + j - n)) (le-leb n (y + b + j) (omega (arith, l))) (at i j ∙ w.2))))

layer-moved : (d : Drawing) (r b l x y : ℕ) → shifted r b d l (x + r) (y + b) ≡ d l x y
unfolding shifted
layer-moved d r b l x y =
    let u : x + r - r ≡ x = omega arith in
    let v : y + b - b ≡ y = omega arith in
    simp (u, v, le-leb r (x + r) (omega arith), le-leb b (y + b) (omega arith))

-- the moved region begins past the move
past : (d : Drawing) (m r b : ℕ) → ((l x y : ℕ) → d l x y ≡ true → (m ≤ x) × (m ≤ y)) → (k : Region) → reach_of k ≤ m → (u v : ℕ) → squares (shifted r b d) k u v ≡ true → (r ≤ u) × (b ≤ v)
past d m r b h k f u v t = let w = high-region (shifted r b d) (m + r) (m + b) (high-shifted r b m d h) k u v t in (omega (arith, w.0, f), omega (arith, w.1, f))

region_moved : (d : Drawing) (m r b : ℕ) → ((l x y : ℕ) → d l x y ≡ true → (m ≤ x) × (m ≤ y)) → (k : Region) → reach_of k ≤ m → (x y : ℕ) → squares (shifted r b d) k (x + r) (y + b) ≡ squares d k x y
unfolding squares
region_moved d m r b h (layer l) f x y = layer-moved d r b l x y
region_moved d m r b h (and a c) f x y = rw (region_moved d m r b h a (omega (arith, f)) x y, region_moved d m r b h c (omega (arith, f)) x y)
region_moved d m r b h (or a c) f x y = rw (region_moved d m r b h a (omega (arith, f)) x y, region_moved d m r b h c (omega (arith, f)) x y)
region_moved d m r b h (without a c) f x y = rw (region_moved d m r b h a (omega (arith, f)) x y, region_moved d m r b h c (omega (arith, f)) x y)
region_moved d m r b h (grown n a) f x y = near-moved n r b (squares d a) (squares (shifted r b d) a) (region_moved d m r b h a (omega (arith, f))) (past d m r b h a (omega (arith, f))) x y

inside-alike : (a a2 s s2 : Bool) → a2 ≡ a → (a ≡ true → s2 ≡ s) → (a2 && not s2) ≡ (a && not s)
inside-alike a a2 s s2 e f = elim (cases_Bool a) [ inl t ↦ rw (e, f t) | inr g ↦ rw (e, g) ]

rule_moved : (d : Drawing) (m r b : ℕ) → ((l x y : ℕ) → d l x y ≡ true → (m ≤ x) × (m ≤ y)) → (k : Rule) → reach k ≤ m → (x y : ℕ) → breaks (shifted r b d) k (x + r) (y + b) ≡ breaks d k x y
unfolding breaks
rule_moved d m r b h (wide k n) f x y =
    let i : reach_of k ≤ m = omega (arith, f) in
    rw (region_moved d m r b h k i x y, within-moved n r b (squares d k) (squares (shifted r b d) k) (region_moved d m r b h k i) (past d m r b h k i) x y)
rule_moved d m r b h (apart k n) f x y =
    let i : reach_of k ≤ m = omega (arith, f) in
    rw (region_moved d m r b h k i x y, free_moved n r b (squares d k) (squares (shifted r b d) k) (region_moved d m r b h k i) (past d m r b h k i) x y)
rule_moved d m r b h (inside a c n) f x y =
    let i : reach_of a ≤ m = omega (arith, f) in
    let j : reach_of c ≤ m = omega (arith, f) in
    inside-alike (squares d a x y) (squares (shifted r b d) a (x + r) (y + b)) (surrounded n (squares d c) x y) (surrounded n (squares (shifted r b d) c) (x + r) (y + b)) (region_moved d m r b h a i x y)
    (λ t. let w = high-region d m m h a x y t in surrounded_moved n r b (squares d c) (squares (shifted r b d) c) (region_moved d m r b h c j) x y (omega (arith, w.0, f)) (omega (arith, w.1, f)))
rule_moved d m r b h (never k) f x y = region_moved d m r b h k f x y

pub rules_move : RulesMove
rules_move d k m r b x y f clear = rule_moved d m r b (λ l u v t. (
  elim (cases_lt u m) [ inr i ↦ i | inl i ↦ absurd (both_ways (d l u v) (clear l u v (inl i)) t) ],
  elim (cases_lt v m) [ inr i ↦ i | inl i ↦ absurd (both_ways (d l u v) (clear l u v (inr i)) t) ],
)) k f x y
