-- What `broken` needs beyond what the search finds.
use Rattle.std.proofs.Common.{◌≡◌, ℕ, length, ◌-◌, ◌<◌, ◌≤◌, vec_items, sym, ap, ◌∙◌, subst, arith}
use Rattle.std.proofs.lemmas.Result.{IfOk-weaker, MatchResult-weaker}
use Rattle.scanline.specs.Bands.{covers}
use Rattle.rules.specs.Rules.{breaks, squares}
use Rattle.rules.specs.Tests.{test_rule, terms_of}
use Rattle.rules.specs.Sound.{Mild, needs}
use Rattle.rules.specs.Values.{value}
use Rattle.rules.proofs.Evaluations.{wide_is, apart-is, inside_is, never-is}
use Rattle.rules.proofs.Marks.{needs-some}
use Rattle.rules.proofs.rule.Rule.broken.Goals as goal

pub returns-in-Wide : goal.returns-in-Wide
returns-in-Wide c =
    IfOk-weaker c.narrow.result _ _ (λ v h d m s x y.
    let r = c.args.self.now in
    let i = length (terms_of r) - 1 in
    let long = c.len.ensures ∙ c.in_ok-done.ensures.long in
    let l : i < (length (terms_of r)) = omega (arith, r.sound.enough, needs-some r.test) in
    let last = c.index-last.result.now in
    let values = c.in_ok-done.ensures.values d m s in
    let is : (x y : ℕ) → covers (vec_items last.bands) x y ≡ squares d (value (terms_of r) i) x y = λ x y. ap (λ w. covers (vec_items w.bands) x y) (rw long at c.index-last.ensures) ∙ values.holds i x y last l c.needed-need.ensures.last in
    wide_is d m c.args.layers.now r s i l (covers (vec_items last.bands)) is _ c.in-Wide.side (subst Mild c.in-Wide.is r.sound.mild).1 h x y
    ∙ sym (ap (λ t. breaks d (test_rule (value (terms_of r) ((length (terms_of r)) - 2)) (value (terms_of r) i) t) x y) c.in-Wide.is))
    c.narrow.ensures

pub returns-in-Apart : goal.returns-in-Apart
returns-in-Apart c =
    IfOk-weaker c.close.result _ _ (λ v h d m s x y.
    let r = c.args.self.now in
    let i = length (terms_of r) - 1 in
    let long = c.len.ensures ∙ c.in_ok-done.ensures.long in
    let l : i < (length (terms_of r)) = omega (arith, r.sound.enough, needs-some r.test) in
    let last = c.index-last.result.now in
    let values = c.in_ok-done.ensures.values d m s in
    let is : (x y : ℕ) → covers (vec_items last.bands) x y ≡ squares d (value (terms_of r) i) x y = λ x y. ap (λ w. covers (vec_items w.bands) x y) (rw long at c.index-last.ensures) ∙ values.holds i x y last l c.needed-need.ensures.last in
    apart-is d m c.args.layers.now r s i l (covers (vec_items last.bands)) is _ c.in-Apart.side (subst Mild c.in-Apart.is r.sound.mild).1 h x y
    ∙ sym (ap (λ t. breaks d (test_rule (value (terms_of r) ((length (terms_of r)) - 2)) (value (terms_of r) i) t) x y) c.in-Apart.is))
    c.close.ensures

pub returns-in-Inside : goal.returns-in-Inside
returns-in-Inside c =
    IfOk-weaker c.shallow.result _ _ (λ v h d m s x y.
    let r = c.args.self.now in
    let i = length (terms_of r) - 1 in
    let long = c.len.ensures ∙ c.in_ok-done.ensures.long in
    let l : i < (length (terms_of r)) = omega (arith, r.sound.enough, needs-some r.test) in
    let last = c.index-last.result.now in
    let values = c.in_ok-done.ensures.values d m s in
    let is : (x y : ℕ) → covers (vec_items last.bands) x y ≡ squares d (value (terms_of r) i) x y = λ x y. ap (λ w. covers (vec_items w.bands) x y) (rw long at c.index-last.ensures) ∙ values.holds i x y last l c.needed-need.ensures.last in
    let two : 2 ≤ (length (terms_of r)) = subst (λ t. needs t ≤ (length (terms_of r))) c.in-Inside.is r.sound.enough in
    let long-2 = c.len-in-Inside.ensures ∙ c.in_ok-done.ensures.long in
    let before = c.index.result.now in
    let is-before : (x y : ℕ) → covers (vec_items before.bands) x y ≡ squares d (value (terms_of r) ((length (terms_of r)) - 2)) x y = λ x y. ap (λ w. covers (vec_items w.bands) x y) (rw long-2 at c.index.ensures) ∙ values.holds ((length (terms_of r)) - 2) x y before (omega arith) (c.needed-need.ensures.before (ap needs c.in-Inside.is)) in
    inside_is d m c.args.layers.now r s i l (covers (vec_items last.bands)) is _ (covers (vec_items before.bands)) ((length (terms_of r)) - 2) c.in-Inside.by is-before (subst Mild c.in-Inside.is r.sound.mild).1 h x y
    ∙ sym (ap (λ t. breaks d (test_rule (value (terms_of r) ((length (terms_of r)) - 2)) (value (terms_of r) i) t) x y) c.in-Inside.is))
    c.shallow.ensures

pub returns : goal.returns
returns c =
    MatchResult-weaker c.clone.result c.clone.ensures.cases (λ v h d m s x y.
    let r = c.args.self.now in
    let i = length (terms_of r) - 1 in
    let long = c.len.ensures ∙ c.in_ok-done.ensures.long in
    let l : i < (length (terms_of r)) = omega (arith, r.sound.enough, needs-some r.test) in
    let last = c.index-last.result.now in
    let values = c.in_ok-done.ensures.values d m s in
    let is : (x y : ℕ) → covers (vec_items last.bands) x y ≡ squares d (value (terms_of r) i) x y = λ x y. ap (λ w. covers (vec_items w.bands) x y) (rw long at c.index-last.ensures) ∙ values.holds i x y last l c.needed-need.ensures.last in
    never-is d m c.args.layers.now r s i l (covers (vec_items last.bands)) is _ h x y
    ∙ sym (ap (λ t. breaks d (test_rule (value (terms_of r) ((length (terms_of r)) - 2)) (value (terms_of r) i) t) x y) c.in-Never.is))
    (λ e h. tt)
