-- What `laws_stand` needs beyond what the search finds.
use Rattle.layout.proofs.Laws.{box-moved, quarters, mirror_twice}
use Rattle.layout.proofs.law.laws_stand.Goals as goal

pub returns : goal.returns
returns c = record { box_moved = box-moved; quarters = quarters; mirror_twice = mirror_twice }
