use Rattle.std.proofs.Common.{◌+◌, length, vec_items}
use Rattle.scanline.proofs.Advances.{Advancing}
use Rattle.scanline.proofs.live.advance.Given as goal

abbrev pub invariant-loop-span : goal.invariant-loop-span
invariant-loop-span l = Advancing l.row l.live-2 l.new-2 (vec_items l.out) l.live l.new

abbrev pub decreases-loop-span : goal.decreases-loop-span
decreases-loop-span l = length l.live + length l.new
