-- The tiles so far, and those of what is left, are all.
use Rattle.std.proofs.Common.{◌≡◌, ◌++◌, length, vec_items}
use Rattle.tiles.specs.Cuts.{line_tiles}
use Rattle.tiles.proofs.cut.add_line.Given as goal

abbrev pub invariant-loop-rest : goal.invariant-loop-rest
invariant-loop-rest l = vec_items l.tiles ++ line_tiles l.layer l.top l.bottom l.rest ≡ vec_items l.initial.tiles ++ line_tiles l.layer l.top l.bottom l.edges

abbrev pub decreases-loop-rest : goal.decreases-loop-rest
decreases-loop-rest l = length l.rest
