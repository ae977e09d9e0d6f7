use Rattle.std.proofs.Common.{map, take, vec_items}
use Rattle.rule_text.specs.Rules.{rule_of}
use Rattle.deck.specs.Decks.{Each}
use Rattle.deck.specs.Readings.{Held}
use Rattle.deck.proofs.read.read_deck.Given as goal

abbrev pub invariant-loop-place : goal.invariant-loop-place
invariant-loop-place l = Each Held (map rule_of (take l.place l.deck)) (vec_items l.rules)
