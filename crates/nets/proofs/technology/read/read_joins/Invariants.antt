-- What the loop of `read_joins` keeps true.
use Rattle.std.proofs.Common.{◌≡◌, vec_items}
use Rattle.nets.specs.Processes.{joins_of}
use Rattle.nets.proofs.technology.read.read_joins.Given as goal

abbrev pub invariant-loop-n : goal.invariant-loop-n
invariant-loop-n l = vec_items l.joins ≡ joins_of l.numbers l.from l.n
