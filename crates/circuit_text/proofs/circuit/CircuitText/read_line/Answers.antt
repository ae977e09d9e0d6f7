-- Why read_line does what its contract says.
use Rattle.std.proofs.Common.{◌≡◌, codes, sym, ◌∙◌, rules}
use Rattle.std.proofs.lemmas.Slice.Eq.{text_from_reads}
use Rattle.circuit_text.proofs.Statements.{follows-word}
use Rattle.circuit_text.proofs.circuit.CircuitText.read_line.Goals as goal

pub returns-in-pins : goal.returns-in-pins
returns-in-pins c =
    let w = c.in-Some.keyword.now.bytes.now in
    let is : w ≡ codes "pins" = text_from_reads w (codes "pins") (search rules) (search rules) in
    follows-word _ _ _ _ c.in_ok-words.ensures _ _ (sym c.deref.ensures.value ∙ c.in-Some.ensures.cases.0) (codes "pins") is _ _ c.read_pins.ensures

pub returns-in-device : goal.returns-in-device
returns-in-device c =
    let w = c.in-Some.keyword.now.bytes.now in
    let is : w ≡ codes "device" = text_from_reads w (codes "device") (search rules) (search rules) in
    follows-word _ _ _ _ c.in_ok-words.ensures _ _ (sym c.deref.ensures.value ∙ c.in-Some.ensures.cases.0) (codes "device") is _ _ c.read_device.ensures
