-- Wire cut into tiles. Assumes nothing: these are definitions.
use Rattle.std.specs.Prelude.{◌≡◌, ℕ, Bool, List}
use Rattle.layout.specs.Layout.{Drawing}
use Rattle.scanline.specs.declared.band.Band.{Band}
use Rattle.scanline.specs.Bands.{covers}
use Rattle.tiles.specs.declared.tile.Tile.{Tile}
use Rattle.tiles.specs.Tiles.{tile_at, Holds, held, Ordered}
use Rattle.nets.specs.Nets.{Technology, Spot, Way}

-- a region's bands cover just these squares
pub record Shows (bs : List Band) (squares : ℕ → ℕ → Bool) : Type 0 where
  pub shows : (x y : ℕ) → covers bs x y ≡ squares x y

-- tiles in order that hold just the squares of a drawing
pub record Tiled (d : Drawing) (ts : List Tile) : Type 0 where
  pub ordered : Ordered ts
  pub holds : (l x y : ℕ) → held ts l x y ≡ d l x y

-- the i-th tile has the spot
abbrev pub Has : List Tile → ℕ → Spot → Type 0
Has ts i s = Holds (tile_at ts i) s.layer s.x s.y

-- one can go between the spots of tiles with one name
abbrev pub Sound : Technology → Drawing → List Tile → (ℕ → ℕ) → Type 0
Sound k d ts f = (i j : ℕ) (s t : Spot) → Has ts i s → Has ts j t → f i ≡ f j → Way k d s t

-- names for tiles that are equal exactly where one can go between their spots
pub record Named (k : Technology) (d : Drawing) (ts : List Tile) (f : ℕ → ℕ) : Type 0 where
  pub same : (i j : ℕ) (s t : Spot) → Has ts i s → Has ts j t → Way k d s t → f i ≡ f j
  pub apart : Sound k d ts f
