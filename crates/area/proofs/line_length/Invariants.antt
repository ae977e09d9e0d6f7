use Rattle.std.proofs.Common.{◌≡◌, ◌+◌, length}
use Rattle.area.specs.Areas.{length_of}
use Rattle.area.proofs.line_length.Given as goal

abbrev pub invariant-loop-rest : goal.invariant-loop-rest
invariant-loop-rest l = l.sum + length_of l.rest ≡ length_of l.edges

abbrev pub decreases-loop-rest : goal.decreases-loop-rest
decreases-loop-rest l = length l.rest
