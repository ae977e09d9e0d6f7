-- What `read_rules` keeps true as it goes round.
use Rattle.std.proofs.Common.{[], map, vec_items}
use Rattle.words.specs.LinesLeft.{lines_left}
use Rattle.words.proofs.Listings.{Listing}
use Rattle.rule_text.specs.Rules.{rule_of}
use Rattle.rule_text.specs.RuleTexts.{lined}
use Rattle.rule_text.proofs.reader.read_rules.Given as goal

abbrev pub invariant-loop-line : goal.invariant-loop-line
invariant-loop-line l = Listing lined [] l.text (lines_left l.line-iterator.iter) l.line-iterator.count (map rule_of (vec_items l.rules))
