-- The layout that each node of numbers is. Assumes nothing: these are definitions.
use Rattle.std.specs.Prelude.{◌≡◌, ℕ, suc, ◌*◌, ◌<◌, ◌≤◌, true, List, length}
use Rattle.layout.specs.Limits.{max_nodes, max_number}
use Rattle.layout.specs.Layout.{Layout}
use Rattle.layout.specs.Numbers.{node_at, sixes, all_at_most, earlier}

-- the layout of a node
unfoldable pub piece : List ℕ → ℕ → Layout
piece xs n = node_at xs (suc n) n

-- what is known of a node's numbers once they are checked
pub record Sound (xs : List ℕ) : Type 0 where
  pub whole : length xs ≡ 6 * sixes xs
  pub some : 0 < sixes xs
  pub few : sixes xs ≤ max_nodes
  pub small : all_at_most max_number xs ≡ true
  pub names : earlier xs (sixes xs) ≡ true
