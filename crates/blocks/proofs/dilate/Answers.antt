-- What `dilate` needs beyond what the search finds.
use Rattle.std.proofs.lemmas.Result.{IfOk-weaker}
use Rattle.blocks.proofs.Dilations.{dilated}
use Rattle.blocks.proofs.dilate.Goals as goal

pub returns : goal.returns
returns c = IfOk-weaker c.widen_down.result _ _ (λ v h. dilated _ _ _ _ c.in_ok-wide.ensures h) c.widen_down.ensures
