-- What `widen` keeps true as it goes round, and why it ends.
use Rattle.std.proofs.Common.{length, vec_items}
use Rattle.scanline.proofs.Widens.{Widening}
use Rattle.scanline.proofs.lines.Line.widen.Given as goal

abbrev pub invariant-loop-rest : goal.invariant-loop-rest
invariant-loop-rest l = Widening l.by (vec_items l.self.edges) (vec_items l.edges) l.rest l.within

abbrev pub decreases-loop-rest : goal.decreases-loop-rest
decreases-loop-rest l = length l.rest
