-- What a join of two layers does to the names of tiles. Assumes nothing: these are definitions.
use Rattle.std.specs.Prelude.{◌≡◌, ℕ, ◌<◌, Bool, true, ◌&&◌, ◌⊎◌, List, length}
use Rattle.std.specs.List.{AllByRecursion}
use Rattle.layout.specs.Layout.{Drawing}
use Rattle.tiles.specs.declared.tile.Tile.{Tile}
use Rattle.tiles.specs.Tiles.{tile_at, Holds, held, Solid}
use Rattle.tiles.specs.Links.{Touch}
use Rattle.nets.specs.declared.process.Join.{Join}
use Rattle.nets.specs.Nets.{Technology, wire}
use Rattle.nets.specs.Wires.{Sound}

-- where the joining layer covers wire of both layers
abbrev pub bridge : Technology → Drawing → Join → (x y : ℕ) → Bool
bridge k d q x y = (wire k d q.one x y && wire k d q.other x y) && d q.by x y

-- boxes of the joining layer that hold just these squares
pub record Bridges (k : Technology) (d : Drawing) (q : Join) (bs : List Tile) : Type 0 where
  pub solid : AllByRecursion Solid bs
  pub layers : AllByRecursion (λ b. b.layer ≡ q.by) bs
  pub holds : (x y : ℕ) → held bs q.by x y ≡ bridge k d q x y

-- the first square of a bridge lies on the i-th tile on one layer, and on the j-th on the other
pub record Spans (ts bs : List Tile) (q : Join) (i j : ℕ) : Type 0 where
  pub place : ℕ
  pub within : place < length bs
  pub one : Holds (tile_at ts i) q.one (tile_at bs place).left (tile_at bs place).top
  pub other : Holds (tile_at ts j) q.other (tile_at bs place).left (tile_at bs place).top

-- two tiles have one name, or a bridge spans them
abbrev pub Tied : (f : ℕ → ℕ) (ts bs : List Tile) (q : Join) → ℕ → ℕ → Type 0
Tied f ts bs q i j = (f i ≡ f j) ⊎ Spans ts bs q i j

-- tiles that share a side have one name
abbrev pub Along : List Tile → (ℕ → ℕ) → Type 0
Along ts f = (i j : ℕ) → Touch ts i j → f i ≡ f j

-- f names tiles before, and g after the tiles on both sides of each bridge of a join were given one name
pub record Bridged (k : Technology) (d : Drawing) (ts : List Tile) (q : Join) (f g : ℕ → ℕ) : Type 0 where
  pub keeps : (i j : ℕ) → f i ≡ f j → g i ≡ g j
  pub sound : Sound k d ts f → Sound k d ts g
  pub spans : (i j x y : ℕ) → bridge k d q x y ≡ true → Holds (tile_at ts i) q.one x y → Holds (tile_at ts j) q.other x y → g i ≡ g j
