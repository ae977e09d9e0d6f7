-- What `widen_up` needs beyond what the search finds.
use Rattle.std.proofs.lemmas.Result.{IfOk-weaker}
use Rattle.region.proofs.Doubles.{back-up}
use Rattle.region.proofs.regions.Region.widen_up.Goals as goal

pub returns : goal.returns
returns c = IfOk-weaker c.shift_up.result _ _ (λ v h. back-up _ _ _ _ c.in_ok-wide.ensures h) c.shift_up.ensures
