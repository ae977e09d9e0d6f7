-- The rules of a deck as they are held, the layers that they name, and the regions that they come to. Assumes nothing: these are definitions.
use Rattle.std.specs.Prelude.{◌≡◌, ℕ, ◌<◌, Bool, true, List, length, Ok, Err, vec_items, Result, Vec, slice_index_or}
use Rattle.std.specs.declared.alloc.Global.{Global}
use Rattle.std.specs.List.{AllByRecursion}
use Rattle.region.specs.declared.regions.Region.{Region}
use Rattle.rules.specs.Tests.{RuleRead, terms_of}
use Rattle.rules.specs.Values.{among, Breaking}
use Rattle.rules.specs.declared.term.Term.TheVariants.{Layer}
use Rattle.rules.specs.declared.rule.Rule.{Rule}
use Rattle.rules.specs.declared.layers.Layers.{Layers}
use Rattle.rule_text.specs.Operators.{rule_number}
use Rattle.rule_text.specs.Rules as text
use Rattle.rule_text.specs.Rules.{rule_of}
use Rattle.deck.specs.Decks.{Each, FirstTurned}
use Rattle.deck.specs.declared.fault.DeckFault.{DeckFault}
use Rattle.deck.specs.declared.fault.DeckFault.TheVariants as fault

-- the rule that is held is that of the numbers
abbrev pub Held : text.Rule → Rule → Type 0
Held t r = RuleRead t.regions (rule_number t.kind) t.number r

-- all rules, or the first that is turned away
abbrev pub DeckRead : List text.Rule → Result (Vec Rule Global) DeckFault → Type 0
DeckRead ts (Ok v) = Each Held ts (vec_items v)
DeckRead ts (Err (fault.Layout e)) = ⊥
DeckRead ts (Err (fault.Rule place e)) = FirstTurned ts place e
DeckRead ts (Err fault.Memory) = Unit {0}

-- the layers that a rule names are marked
abbrev pub Marks : List Bool → Rule → Type 0
Marks wanted r = (i l : ℕ) → i < length (terms_of r) → slice_index_or (terms_of r) i (Layer 0) ≡ Layer l → among wanted l ≡ true

abbrev pub AllMarked : List Rule → List Bool → Type 0
AllMarked rs wanted = AllByRecursion (Marks wanted) rs

abbrev pub AllBreaking : Layers → List Rule → List Region → Type 0
AllBreaking s rs vs = Each (Breaking s) rs vs
