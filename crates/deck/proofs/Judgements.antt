-- A rule of a deck, judged on layers that show what is drawn, is judged on the layout. Assumes nothing.
use Rattle.std.proofs.Common.{◌≡◌, ℕ, ◌^◌, Bool, List, Ok, Err, Result, sym, ap, ◌∙◌}
use mathlib.Core.Bool.{true≢false}
use Rattle.std.specs.List.{AllByRecursion}
use Rattle.std.specs.Result.{MatchResult, is_ok}
use Rattle.layout.specs.Numbers.{layout_in}
use Rattle.layout.specs.Rects.{Within, covered}
use Rattle.layout.specs.declared.rect.Rect.{Rect}
use Rattle.region.specs.declared.regions.Region.{Region}
use Rattle.rules.specs.Rules.{breaks}
use Rattle.rules.specs.Layers.{Swept}
use Rattle.rules.specs.Values.{Breaking, held_rule}
use Rattle.rules.specs.declared.rule.Rule.{Rule}
use Rattle.rules.specs.declared.layers.Layers.{Layers}
use Rattle.rules.proofs.Linkings.{rule-is, taken_is, shown_is}
use Rattle.rule_text.specs.Operators.{rule_number}
use Rattle.rule_text.specs.Rules as text
use Rattle.deck.specs.Decks.{BrokenBy}
use Rattle.deck.specs.Readings.{Held, Marks}

module _ (xs : List ℕ) (boxes : List Rect) (s : Layers) (wanted : List Bool) (e : covered boxes ≡ layout_in xs) (h : AllByRecursion (Within (2 ^ 40)) boxes) (w : Swept (covered boxes) wanted s) where
  pub judged : (t : text.Rule) (r : Rule) (v : Region) → Held t r → Marks wanted r → Breaking s r v → BrokenBy xs t v
  judged t r v q m b =
      let shown = shown_is boxes s r wanted wanted h (record { marks = m; keeps = λ l k. k }) w in (
        taken_is t.regions (rule_number t.kind) t.number r q,
        λ x y. b (covered boxes) (2 ^ 40) shown x y ∙ ap (λ d. breaks d (held_rule r) x y) e ∙ ap (λ k. breaks (layout_in xs) k x y) (sym (rule-is t.regions (rule_number t.kind) t.number r q)),
      )

ok-parts : {T F : Type 0} (x y : T) → ◌≡◌ {A = Result T F} (Ok x) (Ok y) → x ≡ y
ok-parts x y e = cc

-- what comes of a result whose error alone was changed, came of the result
pub before_map_err : {T E F : Type 0} (Q : E → Type 0) (r : Result T E) (s : Result T F) (x : T) → MatchResult r (λ y. s ≡ Ok y) Q → is_ok s ≡ is_ok r → s ≡ Ok x → r ≡ Ok x
before_map_err Q (Ok y) s x h v e = ap Ok (ok-parts y x (sym h ∙ e))
before_map_err Q (Err y) s x h v e = absurd (true≢false (sym (ap is_ok e) ∙ v))
