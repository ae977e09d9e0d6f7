-- What the loop of read_pins keeps.
use Rattle.std.proofs.Common.{◌≡◌, drop, vec_items}
use Rattle.circuit_text.specs.Circuits.{spelled}
use Rattle.circuit_text.specs.Statements.{new_names}
use Rattle.circuit_text.proofs.circuit.CircuitText.read_pins.Given as goal

abbrev pub invariant-loop-word : goal.invariant-loop-word
invariant-loop-word l =
    (new_names l.line l.self.names (spelled (drop l.word-index l.words)) ≡ new_names l.line l.initial.self.names (spelled l.words))
    × (l.self.pins ≡ l.initial.self.pins)
    × (vec_items l.self.devices ≡ vec_items l.initial.self.devices)
