-- What `shift_up` keeps true as it goes round.
use Rattle.std.proofs.Common.{vec_items}
use Rattle.region.proofs.Moves.{Rising}
use Rattle.region.proofs.regions.Region.shift_up.Given as goal

abbrev pub invariant-loop-band : goal.invariant-loop-band
invariant-loop-band l = Rising l.by l.band-items (vec_items l.bands) l.band-index
