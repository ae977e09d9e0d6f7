-- What the loop of `mark_deck` keeps true.
use Rattle.std.proofs.Common.{take}
use Rattle.deck.specs.Readings.{AllMarked}
use Rattle.deck.proofs.read.mark_deck.Given as goal

abbrev pub invariant-loop-rule : goal.invariant-loop-rule
invariant-loop-rule l = AllMarked (take l.rule-index l.rules) l.wanted
