-- What `judge` needs beyond what the search finds.
use Rattle.std.proofs.Common.{vec_items, ap, ◌∙◌, subst}
use Rattle.layout.specs.Numbers.{layout_in}
use Rattle.region.specs.Firsts.{FirstOf}
use Rattle.rules.specs.Numbers.{rule_in}
use Rattle.rules.specs.Rules.{breaks}
use Rattle.rules.proofs.Linkings.{judged_is, taken_is}
use Rattle.rules.proofs.judges.judge.Goals as goal

pub returns-in-Some : goal.returns-in-Some
returns-in-Some c =
    let d = c.in_ok-read.field-0 in
    let written = c.in_ok-rects.ensures in
    let is = c.in_ok-read.ensures in
    let r = c.in_ok-rule.rule in
    let f =
    judged_is c.args.layout.now c.args.regions.now c.args.kind c.args.number (vec_items c.in_ok-rects.rects) r c.in_ok-layers.layers _ _ c.in_ok-x.field-0
    (λ l x y. written.draws l x y ∙ ap (λ xs. layout_in xs l x y) is) written.near c.in_ok-rule.ensures c.mark_layers.ensures (rw c.deref.ensures.value at c.in_ok-layers.ensures) c.in_ok-x.ensures in
    (rw is at d.taken, taken_is c.args.regions.now c.args.kind c.args.number r c.in_ok-rule.ensures, subst (FirstOf (breaks (layout_in c.args.layout.now) (rule_in c.args.regions.now c.args.kind c.args.number))) c.in-Some.is f)

pub returns : goal.returns
returns c =
    let d = c.in_ok-read.field-0 in
    let written = c.in_ok-rects.ensures in
    let is = c.in_ok-read.ensures in
    let r = c.in_ok-rule.rule in
    let f =
    judged_is c.args.layout.now c.args.regions.now c.args.kind c.args.number (vec_items c.in_ok-rects.rects) r c.in_ok-layers.layers _ _ c.in_ok-x.field-0
    (λ l x y. written.draws l x y ∙ ap (λ xs. layout_in xs l x y) is) written.near c.in_ok-rule.ensures c.mark_layers.ensures (rw c.deref.ensures.value at c.in_ok-layers.ensures) c.in_ok-x.ensures in
    (rw is at d.taken, taken_is c.args.regions.now c.args.kind c.args.number r c.in_ok-rule.ensures, subst (FirstOf (breaks (layout_in c.args.layout.now) (rule_in c.args.regions.now c.args.kind c.args.number))) c.in-None.is f)
