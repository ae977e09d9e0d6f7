-- What `shift_down` keeps true as it goes round.
use Rattle.std.proofs.Common.{vec_items}
use Rattle.region.proofs.Moves.{Moving}
use Rattle.region.proofs.regions.Region.shift_down.Given as goal

abbrev pub invariant-loop-band : goal.invariant-loop-band
invariant-loop-band l = Moving l.by l.band-items (vec_items l.bands) l.band-index
