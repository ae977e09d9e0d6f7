-- What `draw_all` keeps true as it goes round, and why it ends.
use Rattle.std.proofs.Common.{◌≡◌, drop}
use Rattle.text.specs.Plans.{blank, all_said, plan_of}
use Rattle.text.proofs.plan.draw_all.Given as goal

abbrev pub invariant-loop-s : goal.invariant-loop-s
invariant-loop-s l = all_said (plan_of l.plan) (drop l.s-index l.said) ≡ all_said blank l.said
