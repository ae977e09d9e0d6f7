-- Why `judge_layers` meets its contract.
use Rattle.std.proofs.Common.{◌+◌, take, vec_items, sym, subst}
use Rattle.std.proofs.lemmas.List.{take_all}
use Rattle.rules.specs.Values.{Breaking}
use Rattle.deck.specs.Decks.{Each}
use Rattle.deck.specs.Readings.{AllBreaking}
use Rattle.deck.proofs.Sides.{each_more}
use Rattle.deck.proofs.judge.judge_layers.Goals as goal

pub loop-rule-init : goal.loop-rule-init
loop-rule-init c = rw c.new-regions.ensures.items tt

pub loop-rule-preserved : goal.loop-rule-preserved
loop-rule-preserved c =
    let s = c.args.layers.now in
    let i = c.loop-rule.rule-index in
    subst (λ vs. Each (Breaking s) (take (i + 1) c.args.rules.now) vs) (sym c.in_ok-push.ensures.items)
    (each_more (Breaking s) c.args.rules.now (vec_items c.loop-rule.regions) i c.rule-item.result c.in_ok-region.region c.loop-rule-test.true c.loop-rule.invariant (subst (λ r. Breaking s r c.in_ok-region.region) c.rule-item.is c.in_ok-region.ensures))

pub returns : goal.returns
returns c = subst (λ rs. AllBreaking c.args.layers.now rs (vec_items c.loop-rule.regions)) (take_all c.loop-rule.rule-index c.args.rules.now c.loop-rule-test.false) c.loop-rule.invariant
