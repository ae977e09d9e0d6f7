-- What `shift_left` keeps true as it goes round.
use Rattle.std.proofs.Common.{vec_items}
use Rattle.scanline.proofs.Slides.{Lefting}
use Rattle.scanline.proofs.lines.Line.shift_left.Given as goal

abbrev pub invariant-loop-edge : goal.invariant-loop-edge
invariant-loop-edge l = Lefting l.by l.edge-items (vec_items l.edges) l.edge-index
