-- What the loop of `main` keeps true.
use Rattle.std.proofs.Common.{◌^◌, vec_items}
use Rattle.std.specs.List.{AllByRecursion}
use Rattle.layout.specs.Rects.{Within}
use Rattle.bench.proofs.main.Given as goal

abbrev pub invariant-loop-line : goal.invariant-loop-line
invariant-loop-line l =
    (goal.iterator-loop-line).can_next l.line-iterator ×
    (goal.iterator-loop-line).is_finite l.line-iterator ×
    AllByRecursion (Within (2 ^ 40)) (vec_items l.rects)
