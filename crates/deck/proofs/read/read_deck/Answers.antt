-- Why `read_deck` meets its contract.
use Rattle.std.proofs.Common.{◌≡◌, ◌+◌, ◌<◌, [], ◌∷◌, ◌++◌, map, length, get_or, take, vec_items, sym, ap, ◌∙◌, subst}
use lib.ListN.{length-map}
use Rattle.std.proofs.lemmas.List.{take_all, take-map, get_or-map}
use Rattle.rules.proofs.Linkings.{taken_is}
use Rattle.rule_text.specs.Operators.{rule_number}
use Rattle.rule_text.specs.Rules.{rule_of}
use Rattle.deck.specs.Decks.{Each, Takes}
use Rattle.deck.specs.Readings.{Held}
use Rattle.deck.proofs.Sides.{each_more, each_left}
use Rattle.deck.proofs.read.read_deck.Goals as goal

pub loop-place-init : goal.loop-place-init
loop-place-init c = rw c.new-rules.ensures.items tt

pub loop-place-preserved : goal.loop-place-preserved
loop-place-preserved c =
    let i = c.loop-place.place in
    let deck = c.args.deck.now in
    let text = c.index-deck-place.result in
    let h : Held (rule_of text) c.in-Ok.rule = rw (c.deref.ensures.value, c.number.ensures) at c.in-Ok.ensures in
    let e : get_or (map rule_of deck) i (rule_of text) ≡ rule_of text = get_or-map rule_of deck i text (rule_of text) c.loop-place-test.true ∙ ap rule_of (sym c.index-deck-place.is) in
    let l : i < length (map rule_of deck) = rw (length-map deck rule_of) c.loop-place-test.true in
    let before : Each Held (take i (map rule_of deck)) (vec_items c.loop-place.rules) = rw (take-map rule_of i deck) c.loop-place.invariant in
    subst (λ vs. Each Held (map rule_of (take (i + 1) deck)) vs) (sym c.in_ok-push-in-Ok.ensures.items)
    (subst (λ ts. Each Held ts (vec_items c.loop-place.rules ++ c.in-Ok.rule ∷ [])) (take-map rule_of (i + 1) deck)
    (each_more Held (map rule_of deck) (vec_items c.loop-place.rules) i (rule_of text) c.in-Ok.rule l before (subst (λ t. Held t c.in-Ok.rule) (sym e) h)))

pub returns-in-Err : goal.returns-in-Err
returns-in-Err c =
    let i = c.loop-place.place in
    let deck = c.args.deck.now in
    let text = c.index-deck-place.result in
    record {
      within = rw (length-map deck rule_of) c.loop-place-test.true;
      rule = rule_of text;
      there = λ d. get_or-map rule_of deck i text d c.loop-place-test.true ∙ ap rule_of (sym c.index-deck-place.is);
      earlier = rw (take-map rule_of i deck) (each_left Held Takes (λ t r h. taken_is t.regions (rule_number t.kind) t.number r h) (map rule_of (take i deck)) (vec_items c.loop-place.rules) c.loop-place.invariant);
      turned = rw (c.deref.ensures.value, c.number.ensures) at c.in-Err.ensures;
    }

pub returns : goal.returns
returns c = subst (λ ts. Each Held (map rule_of ts) (vec_items c.loop-place.rules)) (take_all c.loop-place.place c.args.deck.now c.loop-place-test.false) c.loop-place.invariant
