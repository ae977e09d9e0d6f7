-- Why `mark_deck` meets its contract.
use Rattle.std.proofs.Common.{take, subst}
use Rattle.std.proofs.lemmas.List.{take_all}
use Rattle.std.proofs.ByRecursion.{All-weaker, All-more}
use Rattle.deck.specs.Readings.{Marks, AllMarked}
use Rattle.deck.proofs.read.mark_deck.Goals as goal

pub loop-rule-preserved : goal.loop-rule-preserved
loop-rule-preserved c =
    let before = c.loop-rule.wanted in
    let after = c.mark_layers.new.wanted in
    let m = c.mark_layers.ensures in
    All-more (Marks after) c.args.rules.now c.loop-rule.rule-index c.rule-item.result c.loop-rule-test.true
    (All-weaker (Marks before) (Marks after) (λ r h i l k e. m.keeps l (h i l k e)) (take c.loop-rule.rule-index c.args.rules.now) c.loop-rule.invariant) (subst (Marks after) c.rule-item.is m.marks)

pub returns : goal.returns
returns c = subst (λ rs. AllMarked rs c.loop-rule.wanted) (take_all c.loop-rule.rule-index c.args.rules.now c.loop-rule-test.false) c.loop-rule.invariant
