-- What `widen_left` needs beyond what the search finds.
use Rattle.std.proofs.lemmas.Result.{IfOk-weaker}
use Rattle.region.proofs.Doubles.{back-left}
use Rattle.region.proofs.regions.Region.widen_left.Goals as goal

pub returns : goal.returns
returns c = IfOk-weaker c.shift_left.result _ _ (λ v h. back-left _ _ _ _ c.in_ok-wide.ensures h) c.shift_left.ensures
