-- What the walk over the tiles keeps true.
use Rattle.std.proofs.Common.{◌≡◌, ◌+◌, ◌-◌, length}
use Rattle.groups.specs.Names.{size, group}
use Rattle.tiles.proofs.Links.{Walked}
use Rattle.tiles.proofs.link.link_tiles.Given as goal

abbrev pub invariant-loop-i : goal.invariant-loop-i
invariant-loop-i l = (size l.groups ≡ length l.tiles) × Walked l.tiles l.i l.j (group l.groups)

abbrev pub decreases-loop-i : goal.decreases-loop-i
decreases-loop-i l = (length l.tiles + length l.tiles) - (l.i + l.j)
