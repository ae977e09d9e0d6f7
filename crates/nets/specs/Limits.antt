-- The limits of technologies and spots, as the code has them. Assumes nothing: these are definitions.
use Rattle.std.specs.Prelude.{ℕ}

-- the most layers
abbrev pub max_layers : ℕ
max_layers = 64

-- the most joins
abbrev pub max_joins : ℕ
max_joins = 64

-- the most spots at a time
abbrev pub max_spots : ℕ
max_spots = 16777216

-- the largest number in a spot
abbrev pub max_spot : ℕ
max_spot = 1073741824
