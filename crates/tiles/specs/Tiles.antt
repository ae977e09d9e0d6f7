-- Tiles: boxes of one layer, which squares they hold, and lists of them in order. Assumes nothing.
use Rattle.std.specs.Prelude.{◌≡◌, ℕ, ◌<◌, ◌≤◌, Bool, false, ◌&&◌, ◌||◌, ◌⊎◌, List, [], ◌∷◌, Some, None, Option, ◌==◌, nat_le, nat_lt, slice_index_or}
use Rattle.std.specs.List.{AllByRecursion}
use Rattle.tiles.specs.declared.tile.Tile.{Tile}

-- a tile without squares, which stands past the end of a list
abbrev pub none : Tile
none = record { layer = 0; left = 0; right = 0; top = 0; bottom = 0 }

abbrev pub tile_at : List Tile → ℕ → Tile
tile_at ts i = slice_index_or ts i none

-- the tile has the square x, y of the layer l
pub record Holds (t : Tile) (l x y : ℕ) : Type 0 where
  pub level : t.layer ≡ l
  pub left : t.left ≤ x
  pub right : x < t.right
  pub top : t.top ≤ y
  pub bottom : y < t.bottom

-- the same as a test, and the same of some tile of a list
abbrev pub in_tile : Tile → (l x y : ℕ) → Bool
in_tile t l x y = l == t.layer && (nat_le t.top y && (nat_lt y t.bottom && (nat_le t.left x && nat_lt x t.right)))

abbrev pub held : List Tile → (l x y : ℕ) → Bool
held [] l x y = false
held (t ∷ ts) l x y = in_tile t l x y || held ts l x y

pub record Solid (t : Tile) : Type 0 where
  pub wide : t.left < t.right
  pub tall : t.top < t.bottom

-- a comes before b: on an earlier layer, or above it, or on its left in the same rows
abbrev pub Before : Tile → Tile → Type 0
Before a b =
    (a.layer < b.layer)
    ⊎ ((a.layer ≡ b.layer) × ((a.bottom ≤ b.top) ⊎ ((a.top ≡ b.top) × (a.bottom ≡ b.bottom) × (a.right < b.left))))

-- each comes before all that follow
abbrev pub Ascending : List Tile → Type 0
Ascending [] = Unit {0}
Ascending (t ∷ ts) = AllByRecursion (Before t) ts × Ascending ts

pub record Ordered (ts : List Tile) : Type 0 where
  pub solid : AllByRecursion Solid ts
  pub before : Ascending ts

-- the tile begins at or before the square, in the order of tiles
abbrev pub Starts : Tile → (l x y : ℕ) → Type 0
Starts t l x y = (t.layer < l) ⊎ ((t.layer ≡ l) × ((t.bottom ≤ y) ⊎ ((t.top ≤ y) × (t.left ≤ x))))

-- which tile has the square, if any
abbrev pub Located : List Tile → (l x y : ℕ) → Option ℕ → Type 0
Located ts l x y None = (i : ℕ) → Holds (tile_at ts i) l x y → ⊥
Located ts l x y (Some i) = Holds (tile_at ts i) l x y
