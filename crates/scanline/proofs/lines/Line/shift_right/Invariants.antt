-- What `shift_right` keeps true as it goes round.
use Rattle.std.proofs.Common.{vec_items}
use Rattle.scanline.proofs.Slides.{Righting}
use Rattle.scanline.proofs.lines.Line.shift_right.Given as goal

abbrev pub invariant-loop-edge : goal.invariant-loop-edge
invariant-loop-edge l = Righting l.by l.edge-items (vec_items l.edges) l.edge-index
