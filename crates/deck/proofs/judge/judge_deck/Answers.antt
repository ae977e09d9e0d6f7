-- Why `judge_deck` meets its contract.
use Rattle.std.proofs.Common.{◌≡◌, map, vec_items, ap, ◌∙◌, subst}
use Rattle.std.specs.List.{AllByRecursion}
use Rattle.layout.specs.Numbers.{layout_in, layout_refusal}
use Rattle.layout.specs.Checks.{Taken}
use Rattle.layout.specs.Rects.{covered}
use Rattle.rules.specs.Layers.{Swept}
use Rattle.rules.specs.Values.{Breaking}
use Rattle.rules.proofs.Linkings.{same-drawing}
use Rattle.rule_text.specs.Rules.{rule_of}
use Rattle.deck.specs.Decks.{Each, BrokenBy}
use Rattle.deck.specs.Readings.{Held, Marks}
use Rattle.deck.proofs.Sides.{each_on}
use Rattle.deck.proofs.Judgements.{judged, before_map_err}
use Rattle.deck.proofs.judge.judge_deck.Goals as goal

pub returns : goal.returns
returns c =
    let xs = c.args.layout.now in
    let layout = c.in_ok-layout.layout in
    let rects = vec_items c.in_ok-rects.rects in
    let rules = vec_items c.in_ok-rules.rules in
    let layers = c.in_ok-layers.layers in
    let wanted = c.mark_deck.new.wanted in
    let is : layout.nodes.numbers.now ≡ xs = subst (Taken xs) (before_map_err _ c.read.result c.map_err.result layout c.map_err.ensures.cases c.map_err.ensures.variant c.in_ok-layout.was) c.read.ensures in
    let d : covered rects ≡ layout_in xs = same-drawing _ _ (λ l x y. c.in_ok-rects.ensures.draws l x y ∙ ap (λ ys. layout_in ys l x y) is) in
    let w : Swept (covered rects) wanted layers = rw c.deref-2.ensures.value at c.in_ok-layers.ensures in
    let m : AllByRecursion (Marks wanted) rules = rw c.deref.ensures.value at c.mark_deck.ensures in
    let b : Each (Breaking layers) rules (vec_items c.in_ok-regions.regions) = rw c.deref-3.ensures.value at c.in_ok-regions.ensures in (
      subst (λ ys. layout_refusal ys ≡ 0) is layout.taken,
      each_on Held (Breaking layers) (Marks wanted) (BrokenBy xs) (judged xs rects layers wanted d c.in_ok-rects.ensures.near w) (map rule_of c.args.deck.now) rules (vec_items c.in_ok-regions.regions) c.in_ok-rules.ensures m b,
    )
