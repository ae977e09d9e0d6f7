-- Some and each of the numbers below a limit. Assumes nothing.
use Rattle.std.proofs.Common.{◌≡◌, ℕ, zero, suc, ◌+◌, ◌-◌, ◌*◌, ◌<◌, ◌≤◌, Bool, true, false, ◌&&◌, leb, sym, refl, ◌∙◌, subst, inl, inr, arith}
use Rattle.std.proofs.lemmas.Bool.{cases_lt, cases_eq, cases_Bool, and_parts, and_from, and_cases, or_cases, or_left, or_right, both_ways, true≢false, false≢true, leb-true, le-leb}
use Rattle.region.specs.Firsts.{Squares}
use Rattle.blocks.specs.Blocks.{any_of, all_of, near, block, in_a_block}

pub any_true : (n : ℕ) (f : ℕ → Bool) → any_of n f ≡ true → (i : ℕ) × (i < n) × (f i ≡ true)
unfolding any_of
any_true zero f h = absurd (false≢true h)
any_true (suc n) f h = elim (or_cases (f n) (any_of n f) h) [ inl t ↦ (n, omega arith, t) | inr t ↦ let w = any_true n f t in (w.0, omega (arith, w.1), w.2) ]

pub true_any : (n : ℕ) (f : ℕ → Bool) (i : ℕ) → i < n → f i ≡ true → any_of n f ≡ true
unfolding any_of
true_any zero f i l h = absurd (omega arith)
true_any (suc n) f i l h =
    elim (cases_eq i n) [
      | inl e ↦ or_left (f n) (any_of n f) (subst (λ j. f j ≡ true) e h)
      | inr e ↦ or_right (f n) (any_of n f) (true_any n f i (elim (cases_lt i n) [ inl k ↦ k | inr k ↦ absurd (e (omega arith)) ]) h)
    ]

pub all_true : (n : ℕ) (f : ℕ → Bool) → all_of n f ≡ true → (i : ℕ) → i < n → f i ≡ true
unfolding all_of
all_true zero f h i l = absurd (omega arith)
all_true (suc n) f h i l =
    let k = and_parts (f n) (all_of n f) h in
    elim (cases_eq i n) [
      | inl e ↦ subst (λ j. f j ≡ true) (sym e) k.0
      | inr e ↦ all_true n f k.1 i (elim (cases_lt i n) [ inl q ↦ q | inr q ↦ absurd (e (omega arith)) ])
    ]

pub true_all : (n : ℕ) (f : ℕ → Bool) → ((i : ℕ) → i < n → f i ≡ true) → all_of n f ≡ true
unfolding all_of
true_all zero f h = refl
true_all (suc n) f h = and_from (f n) (all_of n f) (h n (omega arith)) (true_all n f (λ i l. h i (omega arith)))

pub all_false : (n : ℕ) (f : ℕ → Bool) → all_of n f ≡ false → (i : ℕ) × (i < n) × (f i ≡ false)
unfolding all_of
all_false zero f h = absurd (true≢false h)
all_false (suc n) f h = elim (and_cases (f n) (all_of n f) h) [ inl t ↦ (n, omega arith, t) | inr t ↦ let w = all_false n f t in (w.0, omega (arith, w.1), w.2) ]

-- two tests that tell of the same are equal
pub tell_same : (a b : Bool) → (a ≡ true → b ≡ true) → (b ≡ true → a ≡ true) → a ≡ b
tell_same a b f g = elim (cases_Bool a) [ inl t ↦ t ∙ sym (f t) | inr n ↦ elim (cases_Bool b) [ inl t ↦ absurd (both_ways a n (g t)) | inr m ↦ n ∙ sym m ] ]

-- two orders and a test
told : (a b c d : ℕ) (t : Bool) → (leb a b && (leb c d && t)) ≡ true → (a ≤ b) × (c ≤ d) × (t ≡ true)
told a b c d t h = let p = and_parts (leb a b) (leb c d && t) h in let q = and_parts (leb c d) t p.1 in (leb-true a b p.0, leb-true c d q.0, q.1)

tell : (a b c d : ℕ) (t : Bool) → a ≤ b → c ≤ d → t ≡ true → (leb a b && (leb c d && t)) ≡ true
tell a b c d t l m h = and_from (leb a b) (leb c d && t) (le-leb a b l) (and_from (leb c d) t (le-leb c d m) h)

-- near: a square at most n off
pub near-some : (n : ℕ) (s : Squares) (x y : ℕ) → near n s x y ≡ true → (u : ℕ) × (v : ℕ) × (u ≤ x + n) × (x ≤ u + n) × (v ≤ y + n) × (y ≤ v + n) × (s u v ≡ true)
unfolding near
near-some n s x y h =
    let a = any_true (2 * n + 1) (λ i. any_of (2 * n + 1) (λ j. leb n (x + i) && (leb n (y + j) && s (x + i - n) (y + j - n)))) h in
    let b = any_true (2 * n + 1) (λ j. leb n (x + a.0) && (leb n (y + j) && s (x + a.0 - n) (y + j - n))) a.2 in
    let t = told n (x + a.0) n (y + b.0) (s (x + a.0 - n) (y + b.0 - n)) b.2 in
    (x + a.0 - n, y + b.0 - n, omega (arith, a.1), omega (arith, t.0), omega (arith, b.1), omega (arith, t.1), t.2)

pub some_near : (n : ℕ) (s : Squares) (x y u v : ℕ) → u ≤ x + n → x ≤ u + n → v ≤ y + n → y ≤ v + n → s u v ≡ true → near n s x y ≡ true
unfolding near
some_near n s x y u v a b c d h =
    let e : x + (u + n - x) - n ≡ u = omega arith in
    let f : y + (v + n - y) - n ≡ v = omega arith in
    true_any (2 * n + 1) (λ i. any_of (2 * n + 1) (λ j. leb n (x + i) && (leb n (y + j) && s (x + i - n) (y + j - n)))) (u + n - x) (omega arith)
    (true_any (2 * n + 1) (λ j. leb n (x + (u + n - x)) && (leb n (y + j) && s (x + (u + n - x) - n) (y + j - n))) (v + n - y) (omega arith)
    (tell n (x + (u + n - x)) n (y + (v + n - y)) _ (omega arith) (omega arith) (subst (λ p. s p (y + (v + n - y) - n) ≡ true) (sym e) (subst (λ q. s u q ≡ true) (sym f) h))))

-- block: all squares of it
pub block_all : (n : ℕ) (s : Squares) (p q : ℕ) → block n s p q ≡ true → (u v : ℕ) → p ≤ u → u < p + n → q ≤ v → v < q + n → s u v ≡ true
unfolding block
block_all n s p q h u v a b c d =
    let e : p + (u - p) ≡ u = omega arith in
    let f : q + (v - q) ≡ v = omega arith in
    let t = all_true n _ (all_true n _ h (u - p) (omega arith)) (v - q) (omega arith) in
    subst (λ w. s u w ≡ true) f (subst (λ w. s w (q + (v - q)) ≡ true) e t)

pub all_block : (n : ℕ) (s : Squares) (p q : ℕ) → ((u v : ℕ) → p ≤ u → u < p + n → q ≤ v → v < q + n → s u v ≡ true) → block n s p q ≡ true
unfolding block
all_block n s p q h = true_all n _ (λ i k. true_all n _ (λ j l. h (p + i) (q + j) (omega arith) (omega arith) (omega arith) (omega arith)))

-- in a block: some block around
pub around : (n : ℕ) (s : Squares) (x y : ℕ) → in_a_block n s x y ≡ true → (p : ℕ) × (q : ℕ) × (p ≤ x) × (x < p + n) × (q ≤ y) × (y < q + n) × (block n s p q ≡ true)
unfolding in_a_block
around n s x y h =
    let a = any_true n (λ i. any_of n (λ j. leb i x && (leb j y && block n s (x - i) (y - j)))) h in
    let b = any_true n (λ j. leb a.0 x && (leb j y && block n s (x - a.0) (y - j))) a.2 in
    let t = told a.0 x b.0 y (block n s (x - a.0) (y - b.0)) b.2 in
    (x - a.0, y - b.0, omega arith, omega (arith, a.1, t.0), omega arith, omega (arith, b.1, t.1), t.2)

pub in_block : (n : ℕ) (s : Squares) (x y p q : ℕ) → p ≤ x → x < p + n → q ≤ y → y < q + n → block n s p q ≡ true → in_a_block n s x y ≡ true
unfolding in_a_block
in_block n s x y p q a b c d h =
    let e : x - (x - p) ≡ p = omega arith in
    let f : y - (y - q) ≡ q = omega arith in
    true_any n (λ i. any_of n (λ j. leb i x && (leb j y && block n s (x - i) (y - j)))) (x - p) (omega arith)
    (true_any n (λ j. leb (x - p) x && (leb j y && block n s (x - (x - p)) (y - j))) (y - q) (omega arith)
    (tell (x - p) x (y - q) y _ (omega arith) (omega arith) (subst (λ w. block n s w (y - (y - q)) ≡ true) (sym e) (subst (λ w. block n s p w ≡ true) (sym f) h))))
