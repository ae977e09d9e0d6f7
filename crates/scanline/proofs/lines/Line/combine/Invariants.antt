-- What `combine` keeps true as it goes round, and why it ends.
use Rattle.std.proofs.Common.{◌+◌, length, vec_items}
use Rattle.scanline.proofs.Merge.{Sofar}
use Rattle.scanline.proofs.lines.Line.combine.Given as goal

abbrev pub invariant-loop-edge : goal.invariant-loop-edge
invariant-loop-edge l = Sofar l.op (vec_items l.self.edges) (vec_items l.other.edges) (vec_items l.edges) l.a l.b l.in_a l.in_b l.within

abbrev pub decreases-loop-edge : goal.decreases-loop-edge
decreases-loop-edge l = length l.a + length l.b
