-- What is said where a deck is not judged. Assumes nothing: these are definitions.
use Rattle.std.specs.Prelude.{ℕ, List, codes}
use Rattle.layout.specs.Refusals.{refusal_text}
use Rattle.deck.specs.declared.fault.DeckFault.{DeckFault}
use Rattle.deck.specs.declared.fault.DeckFault.TheVariants as fault

-- the refusal, of the layout or of the first rule at fault
abbrev pub fault_text : DeckFault → List ℕ
fault_text (fault.Layout e) = refusal_text e
fault_text (fault.Rule place e) = refusal_text e
fault_text fault.Memory = codes "no memory"
