-- What `operator_of` needs beyond what the search finds.
use Rattle.std.proofs.Common.{codes, sym, ap, rules}
use Rattle.std.proofs.lemmas.Slice.Eq.{text_from_reads}
use Rattle.rule_text.specs.Operators.{operator_of}
use Rattle.rule_text.proofs.operator.operator_of.Goals as goal

pub returns-in-without : goal.returns-in-without
returns-in-without c = sym (ap operator_of (text_from_reads c.args.word.now (codes "without") (search rules) (search rules)))
