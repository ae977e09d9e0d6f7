-- What the loop of `number_spots` keeps true.
use Rattle.std.proofs.Common.{◌≡◌, length}
use Rattle.groups.specs.Names.{size, group, Alike}
use Rattle.groups.specs.Numbers.{seen, count}
use Rattle.groups.proofs.Numbers.{Going}
use Rattle.nets.specs.Spots.{tile_of_spot}
use Rattle.nets.proofs.spot.number_spots.Given as goal

abbrev pub invariant-loop-i : goal.invariant-loop-i
invariant-loop-i l =
    (size l.groups ≡ size l.initial.groups)
    × (length (seen l.given) ≡ length l.tiles)
    × Alike (group l.initial.groups) (group l.groups)
    × Going (group l.initial.groups) (tile_of_spot l.tiles l.spots) l.i (seen l.given) (count l.given) l.numbers
