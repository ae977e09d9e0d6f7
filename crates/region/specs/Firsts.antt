-- The first square of a set: the least row, and in it the least column. Assumes nothing.
use Rattle.std.specs.Prelude.{◌≡◌, ℕ, ◌<◌, Bool, true, false, ◌⊎◌, Some, None, Option}

-- whether each square, at its column and row, is in the set
abbrev pub Squares : Type 0
Squares = ℕ → ℕ → Bool

abbrev pub First : Squares → ℕ → ℕ → Type 0
First s x y = (s x y ≡ true) × ((u v : ℕ) → (v < y) ⊎ ((v ≡ y) × (u < x)) → s u v ≡ false)

-- the first square, or that there is none
abbrev pub FirstOf : Squares → Option (ℕ × ℕ) → Type 0
FirstOf s None = (x y : ℕ) → s x y ≡ false
FirstOf s (Some p) = First s p.0 p.1
