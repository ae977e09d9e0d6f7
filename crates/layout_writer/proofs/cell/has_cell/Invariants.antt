-- What the loop of `has_cell` keeps: the uses by the first nodes.
use Rattle.std.proofs.Common.{◌≡◌, ◌*◌, ◌≤◌}
use Rattle.layout_writer.specs.Cells.{uses_below}
use Rattle.layout_writer.proofs.cell.has_cell.Given as goal

abbrev pub invariant-loop-n : goal.invariant-loop-n
invariant-loop-n l = (l.total ≡ uses_below l.nodes.numbers.now l.m l.n) × (l.total ≤ 2 * l.n)
