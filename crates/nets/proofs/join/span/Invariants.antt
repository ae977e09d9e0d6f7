-- What the loop of `span` keeps true.
use Rattle.std.proofs.Common.{◌≡◌}
use Rattle.groups.specs.Names.{size, group}
use Rattle.nets.proofs.Joins.{Spanning}
use Rattle.nets.proofs.join.span.Given as goal

abbrev pub invariant-loop-bridge : goal.invariant-loop-bridge
invariant-loop-bridge l =
    (size l.groups ≡ size l.initial.groups)
    × Spanning l.tiles l.bridges l.join (group l.initial.groups) l.bridge-index (group l.groups)
