-- Which circuit a text means. Assumes nothing: these are definitions.
use Rattle.std.specs.Prelude.{◌≡◌, ℕ, List, Ok, Err, Result}
use Rattle.layout.specs.declared.refusal.Fault.{Fault}
use Rattle.layout.specs.declared.refusal.Fault.TheVariants.{Refused, Memory}
use Rattle.layout.specs.declared.refusal.Refusal.TheVariants.{Text}
use Rattle.layout.specs.Refusals.{place_of}
use Rattle.words.specs.Lines.{lines_of, last_line, line_by_line}
use Rattle.words.specs.Steps.{by_some, and_then}
use Rattle.circuit_text.specs.Circuits.{Circuit, blank, circuit_of}
use Rattle.circuit_text.specs.Statements.{stated}
use Rattle.circuit_text.specs.declared.circuit.CircuitText.{CircuitText}

-- all lines, or the number of the first that can't be read
abbrev pub all_lines : List ℕ → Result Circuit ℕ
all_lines text = line_by_line stated 0 blank (lines_of text)

-- a text that never names its pins ends too early, on its last line
abbrev pub circuit_text : List ℕ → Result Circuit ℕ
circuit_text text = and_then (all_lines text) (λ c. by_some c.pins (Err (last_line text)) (λ p. Ok c))

abbrev pub Reads : Result Circuit ℕ → Result CircuitText Fault → Type 0
Reads m (Ok c) = m ≡ Ok (circuit_of c)
Reads m (Err (Refused e)) = (e ≡ Text (place_of e)) × (m ≡ Err (place_of e))
Reads m (Err Memory) = Unit {0}

abbrev pub LinesRead : List ℕ → Result CircuitText Fault → Type 0
LinesRead text r = Reads (all_lines text) r

abbrev pub CircuitRead : List ℕ → Result CircuitText Fault → Type 0
CircuitRead text r = Reads (circuit_text text) r
