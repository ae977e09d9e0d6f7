-- What `shift_right` needs beyond what the search finds.
use Rattle.std.proofs.Common.{rules}
use Rattle.std.proofs.lemmas.Result.{IfOk-weaker}
use Rattle.scanline.specs.Lines.{MovedRight}
use Rattle.region.proofs.Lifts.{lined, right-none}
use Rattle.region.proofs.regions.Region.shift_right.Goals as goal

pub returns : goal.returns
returns c =
    IfOk-weaker c.change_lines.result _ _
    (λ v h. record { holds = λ x y l. (lined (MovedRight c.args.by) _ (right-none c.args.by) (λ a b k. search rules) _ _ (h y)).holds x l })
    c.change_lines.ensures
