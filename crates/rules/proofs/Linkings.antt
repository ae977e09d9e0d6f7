-- The rule that is held is the rule of its numbers, and boxes draw what settles. Assumes nothing.
use Rattle.std.proofs.Common.{◌≡◌, ℕ, zero, suc, ◌+◌, ◌-◌, ◌*◌, ◌^◌, ◌<◌, ◌≤◌, Bool, false, List, [], ◌∷◌, ◌++◌, length, get_or, drop, Some, None, Option, sym, refl, ap, ◌∙◌, subst, arith}
use Rattle.std.specs.List.{AllByRecursion}
use Rattle.std.proofs.lemmas.List.{drop_more, drop_all}
use Rattle.std.proofs.lemmas.Bool.{le-ltb}
use Rattle.std.proofs.lemmas.Bool.Decides.{nat_tests}
use Rattle.layout.specs.Layout.{Drawing}
use Rattle.layout.specs.Numbers.{layout_in}
use Rattle.layout.specs.Rects.{in_rect, covered, Within}
use Rattle.layout.specs.declared.rect.Rect.{Rect}
use Rattle.region.specs.Firsts.{Squares, FirstOf}
use Rattle.blocks.specs.Settled.{Settled}
use Rattle.rules.specs.Rules as rules
use Rattle.rules.specs.Rules.{breaks}
use Rattle.rules.specs.Numbers.{regions_from, regions_in, meant, rule_in, number_fault, or_else, further, Taken}
use Rattle.rules.specs.Tests.{test_rule, terms_of, TermsRead, RuleRead}
use Rattle.rules.specs.Layers.{Swept}
use Rattle.rules.specs.Values.{values, value, held_rule, Shown}
use Rattle.rules.specs.Judged.{LayersMarked}
use Rattle.rules.specs.declared.term.Term.{Term}
use Rattle.rules.specs.declared.rule.Rule.{Rule}
use Rattle.rules.specs.declared.layers.Layers.{Layers}
use Rattle.rules.proofs.Evaluations.{value-at, values-long}
use Rattle.rules.proofs.Marks.{needs-some}

-- three numbers more are one region more
three : (xs : List ℕ) (n : ℕ) → 3 * n + 3 ≤ length xs → drop (3 * n) xs ≡ get_or xs (3 * n) 0 ∷ (get_or xs (3 * n + 1) 0 ∷ (get_or xs (3 * n + 2) 0 ∷ drop (3 * suc n) xs))
three xs n l =
    let a = drop_more xs (3 * n) 0 (omega arith) in
    let b = drop_more xs (3 * n + 1) 0 (omega arith) in
    let c = drop_more xs (3 * n + 2) 0 (omega arith) in
    let e : 3 * n + 1 + 1 ≡ 3 * n + 2 = omega arith in
    let f : 3 * n + 2 + 1 ≡ 3 * suc n = omega arith in
    a ∙ ap (λ v. get_or xs (3 * n) 0 ∷ v) (b ∙ ap (λ v. get_or xs (3 * n + 1) 0 ∷ v) (ap (λ j. drop j xs) e ∙ c ∙ ap (λ v. get_or xs (3 * n + 2) 0 ∷ v) (ap (λ j. drop j xs) f)))

step : (xs : List ℕ) (ts : List Term) (len n : ℕ) → length xs ≡ 3 * len → TermsRead xs len ts → n < len → regions_from (values ts n) (drop (3 * n) xs) ≡ regions_from (values ts (suc n)) (drop (3 * suc n) xs)
unfolding regions_from values
step xs ts len n e h l =
    ap (regions_from (values ts n)) (three xs n (omega arith))
    ∙ ap (λ v. regions_from (values ts n ++ v ∷ []) (drop (3 * suc n) xs)) ((h n l).same (λ i. get_or (values ts n) i (rules.layer 0)))

steps : (xs : List ℕ) (ts : List Term) (len n : ℕ) → length xs ≡ 3 * len → TermsRead xs len ts → n ≤ len → regions_from [] xs ≡ regions_from (values ts n) (drop (3 * n) xs)
unfolding values
steps xs ts len zero e h l = refl
steps xs ts len (suc n) e h l = steps xs ts len n e h (omega arith) ∙ step xs ts len n e h l

pub regions-are : (xs : List ℕ) (ts : List Term) (len : ℕ) → length xs ≡ 3 * len → TermsRead xs len ts → regions_in xs ≡ values ts len
unfolding regions_from
regions-are xs ts len e h = steps xs ts len len e h (omega arith) ∙ ap (regions_from (values ts len)) (drop_all (3 * len) xs (omega arith))

meant_is : (xs : List ℕ) (ts : List Term) (len back : ℕ) → regions_in xs ≡ values ts len → 0 < len → 0 < back → meant back xs ≡ value ts (len - back)
meant_is xs ts len back e l b =
    ap (λ v. get_or v (length v - back) (rules.layer 0)) e ∙ ap (λ j. get_or (values ts len) (j - back) (rules.layer 0)) (values-long ts len) ∙ value-at ts len (len - back) (omega arith)

pub rule-is : (xs : List ℕ) (k n : ℕ) (r : Rule) → RuleRead xs k n r → rule_in xs k n ≡ held_rule r
rule-is xs k n r h =
    let e = regions-are xs (terms_of r) (length (terms_of r)) h.length_is h.terms in
    let l : 0 < (length (terms_of r)) = omega (arith, r.sound.enough, needs-some r.test) in
    h.test.same (meant 2 xs) (meant 1 xs)
    ∙ ap (λ v. test_rule v (meant 1 xs) r.test) (meant_is xs (terms_of r) (length (terms_of r)) 2 e l (omega arith))
    ∙ ap (λ v. test_rule (value (terms_of r) ((length (terms_of r)) - 2)) v r.test) (meant_is xs (terms_of r) (length (terms_of r)) 1 e l (omega arith))

pub taken_is : (xs : List ℕ) (k n : ℕ) (r : Rule) → RuleRead xs k n r → Taken xs k n
taken_is xs k n r h = record {
  many = (length (terms_of r));
  length_is = h.length_is;
  enough = omega (arith, h.test.many, r.sound.enough);
  few = r.sound.few;
  sound = ap (λ o. or_else o (further (3 * (length (terms_of r))) (number_fault k n))) h.sound ∙ ap (further (3 * (length (terms_of r)))) h.test.sound;
}

-- boxes that end by m cover nothing from there on
past-column : (m : ℕ) (qs : List Rect) (l x y : ℕ) → AllByRecursion (Within m) qs → m ≤ x → covered qs l x y ≡ false
unfolding covered in_rect
past-column m [] l x y h k = refl
past-column m (q ∷ qs) l x y h k = rw (past-column m qs l x y h.1 k, le-ltb x (q.x + q.across) (omega (arith, h.0.0))) (grind (arith, nat_tests))

past_row : (m : ℕ) (qs : List Rect) (l x y : ℕ) → AllByRecursion (Within m) qs → m ≤ y → covered qs l x y ≡ false
unfolding covered in_rect
past_row m [] l x y h k = refl
past_row m (q ∷ qs) l x y h k = rw (past_row m qs l x y h.1 k, le-ltb y (q.y + q.down) (omega (arith, h.0.1))) (grind (arith, nat_tests))

pub settled_covered : (m : ℕ) (qs : List Rect) → AllByRecursion (Within m) qs → (l : ℕ) → Settled m (covered qs l)
settled_covered m qs h l = record {
  columns = λ x y k. past-column m qs l x y h k ∙ sym (past-column m qs l m y h (omega arith));
  rows = λ x y k. past_row m qs l x y h k ∙ sym (past_row m qs l x m h (omega arith));
}

pub shown_is : (qs : List Rect) (s : Layers) (r : Rule) (before wanted : List Bool) → AllByRecursion (Within (2 ^ 40)) qs → LayersMarked r before wanted → Swept (covered qs) wanted s → Shown (covered qs) (2 ^ 40) s (terms_of r) (length (terms_of r))
shown_is qs s r before wanted h m w = record {
  near = omega arith;
  settles = settled_covered (2 ^ 40) qs h;
  shows_it = λ i l x y k e. w l x y (m.marks i l k e);
}

pub first-same : (s t : Squares) (o : Option (ℕ × ℕ)) → ((x y : ℕ) → s x y ≡ t x y) → FirstOf s o → FirstOf t o
first-same s t None e h = λ x y. sym (e x y) ∙ h x y
first-same s t (Some p) e h = (sym (e p.0 p.1) ∙ h.0, λ u v k. sym (e u v) ∙ h.1 u v k)

pub same-drawing : (d e : Drawing) → ((l x y : ℕ) → d l x y ≡ e l x y) → d ≡ e
same-drawing d e h = λ i l x y. h l x y i

-- what is judged on the layers of boxes that draw a layout
pub judged_is : (xs rs : List ℕ) (k n : ℕ) (qs : List Rect) (r : Rule) (s : Layers) (before wanted : List Bool) (o : Option (ℕ × ℕ))
    → ((l x y : ℕ) → covered qs l x y ≡ layout_in xs l x y) → AllByRecursion (Within (2 ^ 40)) qs → RuleRead rs k n r → LayersMarked r before wanted → Swept (covered qs) wanted s
    → ((d : Drawing) (m : ℕ) → Shown d m s (terms_of r) (length (terms_of r)) → FirstOf (breaks d (held_rule r)) o) → FirstOf (breaks (layout_in xs) (rule_in rs k n)) o
judged_is xs rs k n qs r s before wanted o draws near read marked swept first =
    let d : covered qs ≡ layout_in xs = same-drawing _ _ draws in
    let f = first (covered qs) (2 ^ 40) (shown_is qs s r before wanted near marked swept) in
    subst (λ w. FirstOf (breaks (layout_in xs) w) o) (sym (rule-is rs k n r read)) (subst (λ e. FirstOf (breaks e (held_rule r)) o) d f)
