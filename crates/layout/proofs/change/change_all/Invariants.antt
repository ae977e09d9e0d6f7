-- What `change_all` keeps true as it goes round, and why it ends.
use Rattle.std.proofs.Common.{◌≡◌, ◌++◌, map, take, drop}
use Rattle.layout.specs.Changes.{change_rect}
use Rattle.layout.proofs.change.change_all.Given as goal

abbrev pub invariant-loop-q : goal.invariant-loop-q
invariant-loop-q l = l.rects ≡ map (change_rect l.by) (take l.q-index l.initial.rects) ++ drop l.q-index l.initial.rects
