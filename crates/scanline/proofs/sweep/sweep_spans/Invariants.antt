use Rattle.std.proofs.Common.{◌+◌, ◌*◌, length, vec_items}
use Rattle.scanline.proofs.Sweeps.{Sweeping}
use Rattle.scanline.proofs.sweep.sweep_spans.Given as goal

abbrev pub invariant-loop-row : goal.invariant-loop-row
invariant-loop-row l = Sweeping l.spans (vec_items l.bands) (vec_items l.live) l.rest

abbrev pub decreases-loop-row : goal.decreases-loop-row
decreases-loop-row l = 2 * length l.rest + length (vec_items l.live)
