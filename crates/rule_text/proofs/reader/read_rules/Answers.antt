-- What `read_rules` needs beyond what the search finds.
use Rattle.std.proofs.Common.{map, vec_items}
use Rattle.std.proofs.lemmas.Result.{err_from_is_err_and}
use Rattle.words.proofs.Listings.{list-next, list_all}
use Rattle.rule_text.specs.Rules.{rule_of}
use Rattle.rule_text.proofs.RuleTexts.{stopped}
use Rattle.rule_text.proofs.reader.read_rules.Goals as goal

pub loop-line-preserved : goal.loop-line-preserved
loop-line-preserved c = let steps = c.in-Some.ensures.steps in list-next _ _ _ _ _ _ c.loop-line.invariant _ _ steps.0 _ steps.1 _ steps.2 _ c.in_ok-read_line.ensures

pub returns-in_err-read_line : goal.returns-in_err-read_line
returns-in_err-read_line c =
    let steps = c.in-Some.ensures.steps in
    let p = err_from_is_err_and c.from_residual.result c.from_residual.ensures.1 in
    rw (p.1, p.2) (stopped _ _ _ _ c.loop-line.invariant _ _ steps.0 _ steps.1 (map rule_of (vec_items c.read_line.new.rules)) c.in_err-read_line.field-0.0 c.in_err-read_line.ensures)

pub returns : goal.returns
returns c = list_all _ _ _ _ _ _ c.loop-line.invariant c.in-None.ensures.steps.0.0
