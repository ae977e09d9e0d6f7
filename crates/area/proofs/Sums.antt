-- Sums over the first places, and over those from an edge on. Assumes nothing.
use Rattle.std.proofs.Common.{◌≡◌, ℕ, zero, suc, ◌+◌, ◌-◌, ◌*◌, ◌<◌, ◌≤◌, Bool, true, cond, leb, sym, refl, ap, ◌∙◌, inl, inr, mul-zero, mul-suc, mul-add, arith}
use Rattle.std.proofs.lemmas.Bool.{cases_lt, cases_Bool, le-leb, lt-leb}
use Rattle.scanline.specs.Lines.{differ}
use Rattle.area.specs.Areas.{sum_of, columns}

pub sum_same : (n : ℕ) (f g : ℕ → ℕ) → ((k : ℕ) → f k ≡ g k) → sum_of n f ≡ sum_of n g
unfolding sum_of
sum_same zero f g h = refl
sum_same (suc n) f g h = omega (arith, h n, sum_same n f g h)

pub sum-none : (n : ℕ) (f : ℕ → ℕ) → ((k : ℕ) → f k ≡ 0) → sum_of n f ≡ 0
unfolding sum_of
sum-none zero f h = refl
sum-none (suc n) f h = omega (arith, h n, sum-none n f h)

pub sum-add : (n : ℕ) (f g : ℕ → ℕ) → sum_of n (λ k. f k + g k) ≡ sum_of n f + sum_of n g
unfolding sum_of
sum-add zero f g = refl
sum-add (suc n) f g = omega (arith, sum-add n f g)

-- a set that lies from e on, and all from e on but that set
pub columns-turn : (m e : ℕ) (f : ℕ → Bool) → ((x : ℕ) → f x ≡ true → e ≤ x) → columns m (λ x. differ (leb e x) (f x)) + columns m f ≡ m - e
unfolding sum_of
columns-turn zero e f h = omega arith
columns-turn (suc m) e f h =
    let rest = columns-turn m e f h in
    elim (cases_lt m e) [
      | inl l ↦ elim (cases_Bool (f m)) [
        | inl t ↦ absurd (omega (arith, h m t))
        | inr z ↦ rw (lt-leb e m l, z) (omega (arith, rest))
      ]
      | inr g ↦ elim (cases_Bool (f m)) [
        | inl t ↦ rw (le-leb e m g, t) (omega (arith, rest))
        | inr z ↦ rw (le-leb e m g, z) (omega (arith, rest))
      ]
    ]

-- the same number for all places from `top` on
pub sum-from : (m top n : ℕ) → sum_of m (λ y. cond (leb top y) n 0) ≡ n * (m - top)
unfolding sum_of
sum-from zero top n = let e : zero - top ≡ 0 = omega arith in rw e (sym (mul-zero n))
sum-from (suc m) top n =
    elim (cases_lt m top) [
      | inl l ↦
          let e : suc m - top ≡ m - top = omega arith in
          rw (lt-leb top m l, e) (omega (arith, sum-from m top n))
      | inr g ↦
          let e : suc m - top ≡ suc (m - top) = omega arith in
          rw (le-leb top m g, e, mul-suc n (m - top)) (omega (arith, sum-from m top n))
    ]

-- from one place on and not from another
pub times_between : (n m top bottom : ℕ) → top ≤ bottom → bottom ≤ m → n * (m - top) ≡ n * (bottom - top) + n * (m - bottom)
times_between n m top bottom h k =
    let e : m - top ≡ (bottom - top) + (m - bottom) = omega arith in
    ap (λ v. n * v) e ∙ mul-add n (bottom - top) (m - bottom)

pub times_some : (n r : ℕ) → 0 < r → n ≤ n * r
times_some n zero h = absurd (omega arith)
times_some n (suc r) h = omega (arith, mul-suc n r)
