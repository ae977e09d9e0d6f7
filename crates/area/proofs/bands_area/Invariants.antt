use Rattle.std.proofs.Common.{length}
use Rattle.area.proofs.Areas.{Adding}
use Rattle.area.proofs.bands_area.Given as goal

abbrev pub invariant-loop-rest : goal.invariant-loop-rest
invariant-loop-rest l = Adding l.bands l.sum l.rest

abbrev pub decreases-loop-rest : goal.decreases-loop-rest
decreases-loop-rest l = length l.rest
