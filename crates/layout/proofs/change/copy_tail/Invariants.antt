-- What `copy_tail` keeps true as it goes round, and why it ends.
use Rattle.std.proofs.Common.{◌≡◌, ◌++◌, take, drop, vec_items}
use Rattle.layout.specs.Rects.{copies}
use Rattle.layout.proofs.change.copy_tail.Given as goal

abbrev pub invariant-loop-k : goal.invariant-loop-k
invariant-loop-k l =
    (take l.end (vec_items l.out) ≡ vec_items l.initial.out)
    × (vec_items l.out ≡ take l.start (vec_items l.initial.out) ++ copies l.k l.right l.below (drop l.start (vec_items l.initial.out)))
