-- What judging a deck of rules answers: for each rule the squares that break it. Assumes nothing: these are definitions.
use Rattle.std.specs.Prelude.{◌≡◌, ℕ, ◌<◌, List, [], ◌∷◌, length, take, Ok, Err, vec_items, Result, Vec, slice_index_or}
use Rattle.std.specs.List.{AllByRecursion}
use Rattle.std.specs.declared.alloc.Global.{Global}
use Rattle.layout.specs.Numbers.{layout_refusal, layout_in}
use Rattle.layout.specs.Checks.{TurnedAway}
use Rattle.layout.specs.declared.refusal.Refusal.{Refusal}
use Rattle.scanline.specs.Bands.{covers}
use Rattle.region.specs.declared.regions.Region.{Region}
use Rattle.rules.specs.Rules.{breaks}
use Rattle.rules.specs.Numbers.{rule_in, RuleTurned, Taken}
use Rattle.rule_text.specs.Operators.{rule_number}
use Rattle.rule_text.specs.Rules.{Rule}
use Rattle.deck.specs.declared.fault.DeckFault.{DeckFault}
use Rattle.deck.specs.declared.fault.DeckFault.TheVariants as fault

-- two lists of one length, of which what stands side by side is related
abbrev pub Each : {A B : Type 0} → (A → B → Type 0) → List A → List B → Type 0
Each P [] [] = Unit {0}
Each P [] (b ∷ bs) = ⊥
Each P (a ∷ as') [] = ⊥
Each P (a ∷ as') (b ∷ bs) = P a b × Each P as' bs

-- the numbers of a rule are taken, or turned away
abbrev pub Takes : Rule → Type 0
Takes r = Taken r.regions (rule_number r.kind) r.number

abbrev pub Turns : Rule → Refusal → Type 0
Turns r e = RuleTurned r.regions (rule_number r.kind) r.number e

-- a rule that is taken, with a region of just the squares of a layout that break it
abbrev pub BrokenBy : List ℕ → Rule → Region → Type 0
BrokenBy xs r v =
    Takes r × ((x y : ℕ) → covers (vec_items v.bands) x y ≡ breaks (layout_in xs) (rule_in r.regions (rule_number r.kind) r.number) x y)

-- a rule that is turned away, the first of the deck
pub record FirstTurned (rs : List Rule) (place : ℕ) (e : Refusal) : Type 0 where
  pub within : place < length rs
  pub rule : Rule
  pub there : (d : Rule) → slice_index_or rs place d ≡ rule
  pub earlier : AllByRecursion Takes (take place rs)
  pub turned : Turns rule e

-- for each rule the squares that break it; or the layout's refusal, or else that of the first rule at fault; or that there was no memory for a layout that is taken
abbrev pub DeckJudged : List ℕ → List Rule → Result (Vec Region Global) DeckFault → Type 0
DeckJudged xs rs (Ok v) = (layout_refusal xs ≡ 0) × Each (BrokenBy xs) rs (vec_items v)
DeckJudged xs rs (Err (fault.Layout e)) = TurnedAway xs e
DeckJudged xs rs (Err (fault.Rule place e)) = (layout_refusal xs ≡ 0) × FirstTurned rs place e
DeckJudged xs rs (Err fault.Memory) = layout_refusal xs ≡ 0
