-- What `contains` needs beyond what the search finds.
use Rattle.std.proofs.Common.{arith}
use Rattle.std.proofs.lemmas.Bool.Decides.{nat_tests}
use Rattle.layout.specs.Rects.{in_rect}
use Rattle.layout.proofs.rect.Rect.contains.Goals as goal

pub returns-then-self-y : goal.returns-then-self-y
unfolding in_rect
returns-then-self-y c = grind (arith, nat_tests)

pub returns-else-self-y : goal.returns-else-self-y
unfolding in_rect
returns-else-self-y c = grind (arith, nat_tests)
