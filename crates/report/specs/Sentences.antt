-- The sentence of each refusal begins with what it is about. Assumes nothing: these are definitions.
use Rattle.std.specs.Prelude.{◌≡◌, ℕ, List, take, codes}
use Rattle.layout.specs.declared.refusal.Refusal.{Refusal}
use Rattle.layout.specs.declared.refusal.Refusal.TheVariants.{Nodes, Number, Node, Boxes, Regions, Region, Technology, Spots, Room, Circuit, Text}

abbrev pub Said : Refusal → List ℕ → Type 0
Said (Nodes p) s = take 8 s ≡ codes "a layout"
Said (Number p) s = take 8 s ≡ codes "a number"
Said (Node p) s = take 6 s ≡ codes "a node"
Said (Boxes p) s = take 8 s ≡ codes "a layout"
Said (Regions p) s = take 6 s ≡ codes "a rule"
Said (Region p) s = take 7 s ≡ codes "a layer"
Said (Technology p) s = take 12 s ≡ codes "a technology"
Said (Spots p) s = take 5 s ≡ codes "spots"
Said (Room p) s = take 5 s ≡ codes "there"
Said (Circuit p) s = take 9 s ≡ codes "a circuit"
Said (Text p) s = take 9 s ≡ codes "this word"
