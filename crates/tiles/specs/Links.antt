-- Tiles that share a side. Assumes nothing.
use Rattle.std.specs.Prelude.{◌≡◌, ℕ, ◌<◌, ◌≤◌, ◌⊎◌, List}
use Rattle.tiles.specs.declared.tile.Tile.{Tile}
use Rattle.tiles.specs.Tiles.{tile_at}

-- b lies right below a, and they share a part of a side
pub record Meets (a b : Tile) : Type 0 where
  pub level : a.layer ≡ b.layer
  pub row : a.bottom ≡ b.top
  pub from : a.left < b.right
  pub to : b.left < a.right

abbrev pub Touch : List Tile → ℕ → ℕ → Type 0
Touch ts i j = Meets (tile_at ts i) (tile_at ts j)

-- no tile after b lies right below a
abbrev pub Ends : Tile → Tile → Type 0
Ends a b = (a.layer < b.layer) ⊎ ((a.layer ≡ b.layer) × ((a.bottom < b.top) ⊎ ((a.bottom ≡ b.top) × (a.right ≤ b.right))))
