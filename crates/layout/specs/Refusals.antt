-- The number by which each refusal is known, and its place. Assumes nothing: these are definitions.
use Rattle.std.specs.Prelude.{◌≡◌, ℕ, List, ◌++◌, Ok, Err, codes, Result}
use Rattle.std.specs.Fmt.{decimal}
use Rattle.layout.specs.declared.refusal.Refusal.{Refusal}
use Rattle.layout.specs.declared.refusal.Refusal.TheVariants.{Nodes, Number, Node, Boxes, Regions, Region, Technology, Spots, Room, Circuit, Text}
use Rattle.layout.specs.declared.refusal.Fault.{Fault}
use Rattle.layout.specs.declared.refusal.Fault.TheVariants.{Refused, Memory}

abbrev pub number_of : Refusal → ℕ
number_of (Nodes p) = 1
number_of (Number p) = 2
number_of (Node p) = 2
number_of (Boxes p) = 3
number_of (Regions p) = 4
number_of (Region p) = 5
number_of (Technology p) = 6
number_of (Spots p) = 7
number_of (Room p) = 8
number_of (Circuit p) = 9
number_of (Text p) = 10

abbrev pub place_of : Refusal → ℕ
place_of (Nodes p) = p
place_of (Number p) = p
place_of (Node p) = p
place_of (Boxes p) = p
place_of (Regions p) = p
place_of (Region p) = p
place_of (Technology p) = p
place_of (Spots p) = p
place_of (Room p) = p
place_of (Circuit p) = p
place_of (Text p) = p

-- how it is shown
abbrev pub refusal_text : Refusal → List ℕ
refusal_text r = codes "refusal " ++ (decimal (number_of r) ++ (codes " at " ++ decimal (place_of r)))

abbrev pub fault_text : Fault → List ℕ
fault_text (Refused r) = refusal_text r
fault_text Memory = codes "no memory"

-- an answer follows a model, which gives a value or the line at which a text can't be read; nothing is said where memory ran out
abbrev pub Follows : {A U : Type 0} → Result A ℕ → A → Result U Fault → Type 0
Follows m a (Ok u) = m ≡ Ok a
Follows m a (Err (Refused e)) = (e ≡ Text (place_of e)) × (m ≡ Err (place_of e))
Follows m a (Err Memory) = Unit {0}
