-- What `grow` needs beyond what the search finds.
use Rattle.std.proofs.lemmas.Result.{IfOk-weaker}
use Rattle.blocks.proofs.Dilations.{grown}
use Rattle.blocks.proofs.grow.Goals as goal

pub returns : goal.returns
returns c = IfOk-weaker c.shift_back.result _ _ (λ v h. grown c.args.by _ _ _ c.in_ok-wide.ensures h) c.shift_back.ensures
