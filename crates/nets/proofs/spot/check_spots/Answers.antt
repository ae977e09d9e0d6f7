-- Why `check_spots` meets its contract.
use Rattle.std.proofs.Common.{refl}
use Rattle.nets.proofs.Spots.{too_many, not-threes, too_large, none-large}
use Rattle.nets.proofs.spot.check_spots.Goals as goal

pub returns-then-asked-gt-MAX_SPOTS : goal.returns-then-asked-gt-MAX_SPOTS
returns-then-asked-gt-MAX_SPOTS c = (_, refl, too_many c.args.spots.now c.args.asked c.if-asked-gt-MAX_SPOTS.true)

pub returns-then-spots-asked : goal.returns-then-spots-asked
returns-then-spots-asked c = (_, refl, not-threes c.args.spots.now c.args.asked c.if-spots-asked.true)

pub returns-in-Some : goal.returns-in-Some
returns-in-Some c = (_, refl, too_large c.args.spots.now c.args.asked c.if-spots-asked.false c.if-asked-gt-MAX_SPOTS.false c.in-Some.place c.in-Some.ensures)

pub returns-in-None : goal.returns-in-None
returns-in-None c = none-large c.args.spots.now c.args.asked c.if-spots-asked.false c.if-asked-gt-MAX_SPOTS.false c.in-None.ensures
