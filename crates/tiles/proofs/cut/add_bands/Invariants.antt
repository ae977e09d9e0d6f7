-- The tiles so far, and those of what is left, are all.
use Rattle.std.proofs.Common.{◌≡◌, ◌++◌, length, vec_items}
use Rattle.tiles.specs.Cuts.{band_tiles}
use Rattle.tiles.proofs.cut.add_bands.Given as goal

abbrev pub invariant-loop-rest : goal.invariant-loop-rest
invariant-loop-rest l = vec_items l.tiles ++ band_tiles l.layer l.rest ≡ vec_items l.initial.tiles ++ band_tiles l.layer l.bands

abbrev pub decreases-loop-rest : goal.decreases-loop-rest
decreases-loop-rest l = length l.rest
