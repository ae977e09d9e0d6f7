-- What the loop of `find` keeps true.
use Rattle.std.proofs.Common.{◌≡◌, ◌<◌, vec_items, vec_len}
use Rattle.groups.specs.Roots.{root}
use Rattle.groups.specs.Names.{Alike}
use Rattle.groups.proofs.forest.Groups.find.Given as goal

abbrev pub invariant-loop-at : goal.invariant-loop-at
invariant-loop-at l =
    (l.at < vec_len l.self.parents)
    × (vec_len l.self.parents ≡ vec_len l.initial.self.parents)
    × Alike (root (vec_items l.initial.self.parents)) (root (vec_items l.self.parents))
    × (root (vec_items l.initial.self.parents) l.at ≡ root (vec_items l.initial.self.parents) l.i)

abbrev pub decreases-loop-at : goal.decreases-loop-at
decreases-loop-at l = l.at
