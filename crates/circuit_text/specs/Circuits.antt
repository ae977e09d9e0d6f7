-- A circuit by the names of its nets. Assumes nothing: these are definitions.
use Rattle.std.specs.Prelude.{ℕ, List, [], ◌∷◌, ◌++◌, map, length, None, vec_items, Option}
use Rattle.words.specs.Places.{place_of}
use Rattle.words.specs.Steps.{by_some}
use Rattle.words.specs.declared.word.Word.{Word}
use Rattle.circuit_text.specs.declared.circuit.Pins.{Pins}
use Rattle.circuit_text.specs.declared.circuit.CircuitText.{CircuitText}

-- the names of nets in the order in which they are first said; how many of them are pins; and devices in threes, the gate first, by the numbers of their nets
pub record Circuit : Type 0 where
  pub names : List (List ℕ)
  pub pins : Option Pins
  pub devices : List ℕ

abbrev pub blank : Circuit
blank = record { names = []; pins = None; devices = [] }

abbrev pub circuit_of : CircuitText → Circuit
circuit_of c = record { names = c.names; pins = c.pins; devices = vec_items c.devices }

-- the number of a name, which is a new one where the name is new
abbrev pub net_of : List (List ℕ) → List ℕ → ℕ
net_of ns w = by_some (place_of ns w) (length ns) (λ k. k)

-- the names with that one
abbrev pub with_net : List (List ℕ) → List ℕ → List (List ℕ)
with_net ns w = by_some (place_of ns w) (ns ++ w ∷ []) (λ k. ns)

abbrev pub named_by : Circuit → List (List ℕ) → Circuit
named_by c ns = record { names = ns; pins = c.pins; devices = c.devices }

-- how words are spelled
abbrev pub spelled : List Word → List (List ℕ)
spelled ws = map (λ w. w.bytes.now) ws
