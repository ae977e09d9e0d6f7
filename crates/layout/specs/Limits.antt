-- The limits of a layout, as the code has them. Assumes nothing: these are definitions.
use Rattle.std.specs.Prelude.{ℕ}

-- the most nodes
abbrev pub max_nodes : ℕ
max_nodes = 256

-- the largest number in a node
abbrev pub max_number : ℕ
max_number = 65535

-- the most boxes when a layout is written out
abbrev pub max_boxes : ℕ
max_boxes = 1024
