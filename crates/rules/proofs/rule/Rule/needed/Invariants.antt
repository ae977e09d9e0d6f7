-- What `needed` keeps true as it goes round.
use Rattle.rules.proofs.Marks.{Marking}
use Rattle.rules.proofs.rule.Rule.needed.Given as goal

abbrev pub invariant-loop-n : goal.invariant-loop-n
invariant-loop-n l = Marking l.self l.n l.need
