-- Why a layout is turned away, and where. Assumes nothing: these are definitions.
use Rattle.std.specs.Prelude.{◌≡◌, ℕ, ◌+◌, ◌<◌, ◌≤◌, true, false, List, length, Ok, Err, Result, slice_index}
use Rattle.layout.specs.Limits.{max_boxes, max_number}
use Rattle.layout.specs.Numbers.{sixes, all_at_most, boxes, layout_refusal}
use Rattle.layout.specs.Nodes.{orderly}
use Rattle.layout.specs.Pieces.{piece}
use Rattle.layout.specs.Refusals.{number_of}
use Rattle.layout.specs.declared.layout.Layout.{Layout}
use Rattle.layout.specs.declared.nodes.Nodes.{Nodes}
use Rattle.layout.specs.declared.refusal.Refusal.{Refusal}
use Rattle.layout.specs.declared.refusal.Refusal.TheVariants.{Nodes as NodeCount, Number, Node, Boxes, Regions, Region, Technology, Spots, Room, Circuit, Text}

-- the first number above a limit
abbrev pub FirstAbove : ℕ → List ℕ → ℕ → Type 0
FirstAbove m xs p = (p < length xs) × (m < slice_index xs p) × ((k : ℕ) → k < p → slice_index xs k ≤ m)

-- the first node of no kind, or that names itself or a later one
abbrev pub FirstLate : List ℕ → ℕ → Type 0
FirstLate xs p = (p < sixes xs) × (orderly xs p ≡ false) × ((k : ℕ) → k < p → orderly xs k ≡ true)

-- which refusal a layout meets, and where: the numbers are looked at before the nodes; the refusals of other entries never come
abbrev pub TurnedAway : List ℕ → Refusal → Type 0
TurnedAway xs (NodeCount p) = (layout_refusal xs ≡ 1) × (p ≡ length xs)
TurnedAway xs (Number p) = (layout_refusal xs ≡ 2) × FirstAbove max_number xs p
TurnedAway xs (Node p) = (layout_refusal xs ≡ 2) × (all_at_most max_number xs ≡ true) × FirstLate xs p
TurnedAway xs (Boxes p) = (layout_refusal xs ≡ 3) × (p + 1 ≡ sixes xs)
TurnedAway xs (Regions p) = ⊥
TurnedAway xs (Region p) = ⊥
TurnedAway xs (Technology p) = ⊥
TurnedAway xs (Spots p) = ⊥
TurnedAway xs (Room p) = ⊥
TurnedAway xs (Circuit p) = ⊥
TurnedAway xs (Text p) = ⊥

-- the nodes of the numbers, all in order
abbrev pub InOrder : List ℕ → Result Nodes Refusal → Type 0
InOrder xs (Ok d) = d.numbers.now ≡ xs
InOrder xs (Err e) = TurnedAway xs e × (number_of e ≤ 2)

-- the layout of the numbers, with few boxes
abbrev pub Taken : List ℕ → Result Layout Refusal → Type 0
Taken xs (Ok d) = d.nodes.numbers.now ≡ xs
Taken xs (Err e) = TurnedAway xs e

-- how many boxes there are, where the layout is taken
abbrev pub Checked : List ℕ → Result ℕ Refusal → Type 0
Checked xs (Ok n) = (layout_refusal xs ≡ 0) × (n ≤ max_boxes) × ((p : ℕ) → p + 1 ≡ sixes xs → n ≡ boxes (λ k. 0) (piece xs p))
Checked xs (Err e) = TurnedAway xs e
