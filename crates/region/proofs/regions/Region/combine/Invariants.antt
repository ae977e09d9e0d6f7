-- What `combine` keeps true as it goes round, and why it ends.
use Rattle.std.proofs.Common.{◌+◌, length, vec_items}
use Rattle.scanline.specs.Edges.{edges_of}
use Rattle.region.proofs.Turns.{Sofar}
use Rattle.region.proofs.regions.Region.combine.Given as goal

abbrev pub invariant-loop-row : goal.invariant-loop-row
invariant-loop-row l = Sofar l.op (vec_items l.self.bands) (vec_items l.other.bands) (vec_items l.bands) l.a l.b (edges_of l.line_a) (edges_of l.line_b)

abbrev pub decreases-loop-row : goal.decreases-loop-row
decreases-loop-row l = length l.a + length l.b
