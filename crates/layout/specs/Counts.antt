-- Counts of boxes that stop past the limit. Assumes nothing: these are definitions.
use Rattle.std.specs.Prelude.{◌≡◌, ℕ, suc, ◌<◌, ◌≤◌, min, List, length, slice_index}
use Rattle.layout.specs.Limits.{max_boxes}
use Rattle.layout.specs.Numbers.{boxes}
use Rattle.layout.specs.Pieces.{piece}

-- how many boxes each node has, or one more than the limit where it has more
abbrev pub Counted : List ℕ → List ℕ → ℕ → Type 0
Counted xs counts m = (m ≤ length counts) × ((k : ℕ) → k < m → slice_index counts k ≡ min (boxes (λ k. 0) (piece xs k)) (suc max_boxes))
