use Rattle.std.proofs.Common.{◌≡◌, ℕ, take, vec_items}
use Rattle.std.specs.List.{AllByRecursion}
use Rattle.layout.specs.Rects.{covered}
use Rattle.scanline.specs.Spans.{any_covers, Solid}
use Rattle.scanline.proofs.spans.spans_of.Given as goal

abbrev pub invariant-loop-b : goal.invariant-loop-b
invariant-loop-b l = AllByRecursion Solid (vec_items l.out) × ((x y : ℕ) → any_covers (vec_items l.out) x y ≡ covered (take l.b-index l.boxes) l.layer x y)
