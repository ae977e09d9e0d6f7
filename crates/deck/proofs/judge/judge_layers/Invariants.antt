use Rattle.std.proofs.Common.{take, vec_items}
use Rattle.deck.specs.Readings.{AllBreaking}
use Rattle.deck.proofs.judge.judge_layers.Given as goal

abbrev pub invariant-loop-rule : goal.invariant-loop-rule
invariant-loop-rule l = AllBreaking l.layers (take l.rule-index l.rules) (vec_items l.regions)
