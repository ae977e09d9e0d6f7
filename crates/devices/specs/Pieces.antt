-- Tiles with the first tile of the group of each. Assumes nothing: these are definitions.
use Rattle.std.specs.Prelude.{◌≡◌, ℕ, ◌≤◌, Bool, ◌&&◌, List, length, Some, None, Option, ◌==◌, slice_index_or}
use Rattle.layout.specs.Layout.{Drawing}
use Rattle.groups.specs.Chains.{Grouped}
use Rattle.scanline.specs.declared.band.Band.{Band}
use Rattle.scanline.specs.Bands.{covers}
use Rattle.tiles.specs.declared.tile.Tile.{Tile}
use Rattle.tiles.specs.Tiles.{tile_at, Holds, held, Ordered}
use Rattle.tiles.specs.Links.{Touch}
use Rattle.nets.specs.Nets.{Technology, wire, Spot}
use Rattle.nets.specs.Wires.{Tiled, Has, Named}
use Rattle.devices.specs.Channels.{channel, Under}

-- the first tile of the group of the i-th
abbrev pub root_of : List ℕ → ℕ → ℕ
root_of rs i = slice_index_or rs i i

-- the first tile of the group of the tile that has a square, if one does
abbrev pub RootAt : (ts : List Tile) (rs : List ℕ) (l x y : ℕ) → Option ℕ → Type 0
RootAt ts rs l x y None = (i : ℕ) → Holds (tile_at ts i) l x y → ⊥
RootAt ts rs l x y (Some r) = (i : ℕ) × Holds (tile_at ts i) l x y × (r ≡ root_of rs i)

-- the squares under a gate
abbrev pub gated : Technology → Drawing → ℕ → ℕ → Bool
gated k d x y = d k.crossed x y && d k.gate x y

-- tiles of a region of a layer, in groups of those that hang together
pub record Linked (layer : ℕ) (bs : List Band) (ts : List Tile) (rs : List ℕ) : Type 0 where
  pub ordered : Ordered ts
  pub holds : (l x y : ℕ) → held ts l x y ≡ (l == layer && covers bs x y)
  pub long : length rs ≡ length ts
  pub low : (i : ℕ) → root_of rs i ≤ i
  pub top : (i : ℕ) → root_of rs (root_of rs i) ≡ root_of rs i
  pub grouped : Grouped (Touch ts) (root_of rs)

-- tiles of wire, named by nets
pub record Wired (k : Technology) (d : Drawing) (ts : List Tile) (rs : List ℕ) : Type 0 where
  pub tiled : Tiled (wire k d) ts
  pub long : length rs ≡ length ts
  pub named : Named k d ts (root_of rs)

-- tiles of channels, named by the first tile of each channel
pub record Gated (k : Technology) (d : Drawing) (ts : List Tile) (rs : List ℕ) : Type 0 where
  pub tiled : Tiled (channel k d) ts
  pub long : length rs ≡ length ts
  pub low : (i : ℕ) → root_of rs i ≤ i
  pub top : (i : ℕ) → root_of rs (root_of rs i) ≡ root_of rs i
  pub same : (i j : ℕ) (s t : Spot) → Has ts i s → Has ts j t → Under k d s t → root_of rs i ≡ root_of rs j
  pub apart : (i j : ℕ) (s t : Spot) → Has ts i s → Has ts j t → root_of rs i ≡ root_of rs j → Under k d s t
