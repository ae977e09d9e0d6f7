-- What the boxes of a layout are. Assumes nothing: these are definitions.
use Rattle.std.specs.Prelude.{◌≡◌, ℕ, ◌^◌, ◌≤◌, List, Ok, Err, vec_items, vec_len, Result, Vec}
use Rattle.std.specs.declared.alloc.Global.{Global}
use Rattle.std.specs.List.{AllByRecursion}
use Rattle.layout.specs.Limits.{max_boxes}
use Rattle.layout.specs.Numbers.{layout_refusal, layout_in}
use Rattle.layout.specs.Checks.{TurnedAway}
use Rattle.layout.specs.Rects.{covered, Within}
use Rattle.layout.specs.declared.rect.Rect.{Rect}
use Rattle.layout.specs.declared.refusal.Fault.{Fault}
use Rattle.layout.specs.declared.refusal.Fault.TheVariants.{Refused, Memory}

-- few boxes, none of them far out, that cover what the layout draws
abbrev pub Written : List ℕ → Result (Vec Rect Global) Fault → Type 0
Written xs (Ok v) = (layout_refusal xs ≡ 0) × (vec_len v ≤ max_boxes) × AllByRecursion (Within (2 ^ 40)) (vec_items v) × ((l x y : ℕ) → covered (vec_items v) l x y ≡ layout_in xs l x y)
Written xs (Err (Refused e)) = TurnedAway xs e
Written xs (Err Memory) = layout_refusal xs ≡ 0
