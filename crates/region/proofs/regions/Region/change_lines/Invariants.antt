-- What `change_lines` keeps true as it goes round.
use Rattle.std.proofs.Common.{Ok, vec_items}
use Rattle.std.specs.Fn.{FnReturnsAt}
use Rattle.region.specs.Shifts.{Lined}
use Rattle.region.proofs.Lifts.{Lifting}
use Rattle.region.proofs.regions.Region.change_lines.Given as goal

abbrev pub invariant-loop-band : goal.invariant-loop-band
invariant-loop-band g l = Lifting (Lined (λ a b. FnReturnsAt g.F.Fn l.change a (Ok b))) l.band-items (vec_items l.bands) l.band-index
