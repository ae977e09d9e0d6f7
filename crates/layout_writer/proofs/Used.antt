-- A node that is named has a cell. Assumes nothing.
use Rattle.std.proofs.Common.{◌≡◌, ℕ, zero, suc, ◌+◌, ◌*◌, ◌<◌, ◌≤◌, true, List, get_or, refl, ap, ◌∙◌, inl, inr, arith}
use Rattle.std.proofs.lemmas.Bool.{cases_eq, eq-eqb, le-leb}
use Rattle.layout.specs.Numbers.{sixes}
use Rattle.layout_writer.specs.Cells.{once, uses, uses_below, has_cell}

abbrev pub uses_by : List ℕ → (m n : ℕ) → ℕ
uses_by xs m n = uses (get_or xs (6 * n) 0) (get_or xs (6 * n + 1) 0) (get_or xs (6 * n + 2) 0) (get_or xs (6 * n + 3) 0) m

pub uses-more : (xs : List ℕ) (m n total u : ℕ) → total ≡ uses_below xs m n → u ≡ uses_by xs m n → total + u ≡ uses_below xs m (n + 1)
unfolding uses_below
uses-more xs m n total u e f = let z : suc n ≡ n + 1 = omega arith in ap (λ t. t + u) e ∙ ap (λ t. uses_below xs m n + t) f ∙ ap (uses_below xs m) z

uses-at : (xs : List ℕ) (m n k : ℕ) → n < k → uses_by xs m n ≤ uses_below xs m k
unfolding uses_below
uses-at xs m n zero h = absurd (omega arith)
uses-at xs m n (suc k) h = elim (cases_eq n k) [
  | inl e ↦ let same : uses_by xs m n ≡ uses_by xs m k = ap (uses_by xs m) e in omega arith
  | inr e ↦ let below = uses-at xs m n k (omega arith) in omega arith
]

once-same : (m : ℕ) → once m m ≡ 1
once-same m = simp (eq-eqb m m refl)

pub named-cell : (xs : List ℕ) (m n : ℕ) → n < sixes xs → 2 ≤ uses_by xs m n → has_cell xs m ≡ true
named-cell xs m n h u = le-leb 2 (uses_below xs m (sixes xs)) (omega (arith, uses-at xs m n (sixes xs) h))

pub names-once : (m : ℕ) → 2 ≤ 2 * once m m
names-once m = let e = once-same m in omega arith
