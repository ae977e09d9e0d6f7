-- What the loop of `read_marks` keeps true.
use Rattle.std.proofs.Common.{◌≡◌, vec_items}
use Rattle.nets.specs.Processes.{marks_of}
use Rattle.nets.proofs.technology.read.read_marks.Given as goal

abbrev pub invariant-loop-layer : goal.invariant-loop-layer
invariant-loop-layer l = vec_items l.marks ≡ marks_of l.numbers l.layer
