-- Nodes of six numbers, with the lines of their statements. Assumes nothing: these are definitions.
use Rattle.std.specs.Prelude.{ℕ, List, [], ◌∷◌, ◌++◌, length, vec_items, Option}
use Rattle.layout.specs.Nodes.{numbers_of}
use Rattle.layout.specs.declared.node.Node.{Node}
use Rattle.layout.specs.declared.node.Node.TheVariants.{Nothing, Both}
use Rattle.text.specs.declared.sheet.Sheet.{Sheet}

pub record Nodes : Type 0 where
  pub nodes : List ℕ
  pub lines : List (Option ℕ)

abbrev pub sheet_of : Sheet → Nodes
sheet_of s = record { nodes = vec_items s.nodes; lines = vec_items s.lines }

-- a node more: its number is how many there were
abbrev pub added : Nodes → Node → Option ℕ → Nodes
added s d l = record { nodes = s.nodes ++ numbers_of d; lines = s.lines ++ l ∷ [] }

pub record Joined : Type 0 where
  pub sheet : Nodes
  pub node : ℕ

-- a node together with further parts, from the left
unfoldable pub joined_to : Nodes → ℕ → List ℕ → Option ℕ → Joined
joined_to s n [] l = record { sheet = s; node = n }
joined_to s n (p ∷ ps) l = joined_to (added s (Both n p) l) (length s.lines) ps l

-- all parts together: nothing where there are none
abbrev pub joined : Nodes → List ℕ → Option ℕ → Joined
joined s [] l = record { sheet = added s Nothing l; node = length s.lines }
joined s (p ∷ ps) l = joined_to s p ps l
