-- What `message_of` needs beyond what the search finds.
use Rattle.std.proofs.Common.{arith}
use Rattle.rule_text.proofs.Rules.{message-some}
use Rattle.rule_text.proofs.rule.message_of.Goals as goal

pub returns : goal.returns
returns c = message-some c.args.text.now c.args.words.now c.in-Some-Some.first.now c.in-Some-Some.last.now _ _ c.in-Some-Some.ensures.cases.0 c.in-Some-Some.ensures'.cases.0 c.min-start.result c.min-end.result (omega (arith, c.min-end.ensures, c.saturating_add.ensures)) c.min-start.ensures
