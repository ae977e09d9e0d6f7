-- What a line that holds no rule comes to. Assumes nothing: these are definitions.
use Rattle.std.specs.Prelude.{◌≡◌, ℕ, Some, None, Ok, Err, Option, Result}
use Rattle.layout.specs.declared.refusal.Fault.{Fault}
use Rattle.layout.specs.declared.refusal.Fault.TheVariants as fault
use Rattle.layout.specs.declared.refusal.Refusal.TheVariants.{Text}
use Rattle.rule_text.specs.declared.stop.Stop.{Stop}
use Rattle.rule_text.specs.declared.stop.Stop.TheVariants.{Unreadable, Memory}

abbrev pub fault_at : ℕ → Stop → Fault
fault_at line Unreadable = fault.Refused (Text line)
fault_at line Memory = fault.Memory

-- an answer, seen as f, follows a model; nothing is said where memory ran out
abbrev pub Reads : {A V : Type 0} → Option A → (V → A) → Result V Stop → Type 0
Reads m f (Ok v) = m ≡ Some (f v)
Reads m f (Err Unreadable) = m ≡ None
Reads m f (Err Memory) = Unit {0}
