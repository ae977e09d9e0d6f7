-- What `draw_all` needs beyond what the search finds.
use Rattle.std.proofs.Common.{ap, ◌∙◌, arith}
use Rattle.text.specs.Plans.{finished, plan_of}
use Rattle.text.proofs.Plans.{say-next, say-all}
use Rattle.text.proofs.plan.draw_all.Goals as goal

pub loop-s-preserved : goal.loop-s-preserved
loop-s-preserved c = say-next c.args.said.now (plan_of c.loop-s.plan) c.loop-s.s-index c.loop-s.invariant _ (plan_of c.say.new.self) (omega arith) c.in_ok-say.ensures

pub returns : goal.returns
returns c = c.in_ok-finish.ensures ∙ ap finished (say-all c.args.said.now (plan_of c.loop-s.plan) c.loop-s.s-index c.loop-s.invariant (omega arith))
