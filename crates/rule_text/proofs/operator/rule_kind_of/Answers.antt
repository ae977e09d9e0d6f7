-- What `rule_kind_of` needs beyond what the search finds.
use Rattle.std.proofs.Common.{codes, sym, ap, rules}
use Rattle.std.proofs.lemmas.Slice.Eq.{text_from_reads}
use Rattle.rule_text.specs.Operators.{rule_kind_of}
use Rattle.rule_text.proofs.operator.rule_kind_of.Goals as goal

pub returns-in-inside : goal.returns-in-inside
returns-in-inside c = sym (ap rule_kind_of (text_from_reads c.args.word.now (codes "inside") (search rules) (search rules)))
