-- How many squares a set has, counted one by one, and the sums that a line and a region come to. Assumes nothing: these are definitions.
use Rattle.std.specs.Prelude.{◌≡◌, ℕ, zero, suc, ◌+◌, ◌-◌, ◌*◌, ◌^◌, ◌<◌, ◌≤◌, Bool, true, cond, List, [], ◌∷◌, Some, None, Option}
use Rattle.region.specs.Firsts.{Squares}
use Rattle.scanline.specs.Bands.{edges}
use Rattle.scanline.specs.declared.band.Band.{Band}

-- the sum of a number for each of the first n places
unfoldable pub sum_of : ℕ → (ℕ → ℕ) → ℕ
sum_of zero f = 0
sum_of (suc n) f = f n + sum_of n f

-- how many of the first m columns are in a set
abbrev pub columns : ℕ → (ℕ → Bool) → ℕ
columns m f = sum_of m (λ x. cond (f x) 1 0)

-- how many of the first m columns of the first m rows are
abbrev pub squares_within : ℕ → Squares → ℕ
squares_within m s = sum_of m (λ y. columns m (λ x. s x y))

-- nothing lies at or past column m or row m
abbrev pub Ends : ℕ → Squares → Type 0
Ends m s = (x y : ℕ) → s x y ≡ true → (x < m) × (y < m)

-- the number of all squares, wherever one stops to count; none where no u64 holds it
abbrev pub Counted : Squares → Option ℕ → Type 0
Counted s (Some n) = (m : ℕ) → Ends m s → squares_within m s ≡ n
Counted s None = (m : ℕ) → Ends m s → 2 ^ 64 ≤ squares_within m s

-- the intervals of a line together
abbrev pub length_of : List ℕ → ℕ
length_of [] = 0
length_of (e ∷ []) = 0
length_of (e ∷ (f ∷ es)) = (f - e) + length_of es

-- those of each band, for all its rows
abbrev pub area_of : List Band → ℕ
area_of [] = 0
area_of (b ∷ []) = 0
area_of (b ∷ (c ∷ bs)) = length_of (edges b) * (c.from - b.from) + area_of (c ∷ bs)

-- a sum, or that no u64 holds it
abbrev pub Sums : ℕ → Option ℕ → Type 0
Sums n (Some r) = r ≡ n
Sums n None = 2 ^ 64 ≤ n
