-- What the loop of `roots_of` keeps true.
use Rattle.std.proofs.Common.{◌≡◌, vec_items}
use Rattle.groups.specs.Names.{size, group, Alike}
use Rattle.devices.proofs.Pieces.{Rooted}
use Rattle.devices.proofs.piece.roots_of.Given as goal

abbrev pub invariant-loop-i : goal.invariant-loop-i
invariant-loop-i l = (size l.groups ≡ size l.initial.groups) × Alike (group l.initial.groups) (group l.groups) × Rooted (group l.initial.groups) l.i (vec_items l.roots)
