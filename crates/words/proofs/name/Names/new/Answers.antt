-- proofs/name/Names/new/Answers.antt
-- What `new` needs beyond what the search finds.
use Rattle.std.proofs.Common.{refl}
use Rattle.words.specs.Places.{place_below}
use Rattle.words.proofs.name.Names.new.Goals as goal

pub invariant_of-result : goal.invariant_of-result
unfolding place_below
invariant_of-result c = rw (c.new.ensures.empty, c.new-2.ensures.items) (tt, λ w. refl)
