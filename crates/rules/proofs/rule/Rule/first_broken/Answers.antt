-- What `first_broken` needs beyond what the search finds.
use Rattle.rules.proofs.Linkings.{first-same}
use Rattle.rules.proofs.rule.Rule.first_broken.Goals as goal

pub returns : goal.returns
returns c d m s = first-same _ _ c.first.result (c.in_ok-region.ensures d m s) c.first.ensures
