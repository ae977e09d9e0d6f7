-- What `corners` needs beyond what the search finds.
use Rattle.std.proofs.lemmas.Result.{IfOk-weaker}
use Rattle.blocks.proofs.Dilations.{settled_not}
use Rattle.blocks.proofs.Corner.{corner}
use Rattle.blocks.proofs.corners.Goals as goal

pub returns : goal.returns
returns c =
    IfOk-weaker c.shift_back.result _ _
    (λ v h m f s. corner m c.args.by _ _ _ _ _ s c.in_ok-outside.ensures (c.in_ok-reached.ensures m f (settled_not m _ _ s c.in_ok-outside.ensures)) c.in_ok-ends.ensures h)
    c.shift_back.ensures
