-- Where channels and wire lie beside each other. Assumes nothing: these are definitions.
use Rattle.std.specs.Prelude.{◌≡◌, ℕ, ◌+◌, ◌<◌, Bool, ◌&&◌, ◌⊎◌, List, length}
use Rattle.std.specs.List.{ContainsAt as In, AllByRecursion}
use Rattle.scanline.specs.declared.band.Band.{Band}
use Rattle.scanline.specs.Bands.{covers}
use Rattle.tiles.specs.declared.tile.Tile.{Tile}
use Rattle.tiles.specs.Tiles.{tile_at, Holds, held, Solid}
use Rattle.tiles.specs.Cuts.{far}
use Rattle.devices.specs.declared.border.Border.{Border}
use Rattle.devices.specs.declared.direction.Direction.{Direction}
use Rattle.devices.specs.declared.direction.Direction.TheVariants.{Right, Left, Below, Above}
use Rattle.devices.specs.Pieces.{root_of}

-- the upper or left one of two squares is at x, y: the column and the row of the one under the gate, where the wire lies in a direction from it
abbrev pub channel_x : Direction → ℕ → ℕ
channel_x Right x = x
channel_x Left x = x + 1
channel_x Below x = x
channel_x Above x = x

abbrev pub channel_y : Direction → ℕ → ℕ
channel_y Right y = y
channel_y Left y = y
channel_y Below y = y
channel_y Above y = y + 1

-- the column and the row of the wire
abbrev pub wire_x : Direction → ℕ → ℕ
wire_x Right x = x + 1
wire_x Left x = x
wire_x Below x = x
wire_x Above x = x

abbrev pub wire_y : Direction → ℕ → ℕ
wire_y Right y = y
wire_y Left y = y
wire_y Below y = y + 1
wire_y Above y = y

-- both are there
abbrev pub meets : Direction → (channel wire : ℕ → ℕ → Bool) → (x y : ℕ) → Bool
meets v c w x y = c (channel_x v x) (channel_y v y) && w (wire_x v x) (wire_y v y)

-- boxes that hold the upper or left ones of all such squares
pub record Meeting (v : Direction) (layer : ℕ) (cb wb : List Band) (ms : List Tile) : Type 0 where
  pub solid : AllByRecursion Solid ms
  pub layers : AllByRecursion (λ t. t.layer ≡ layer) ms
  pub holds : (x y : ℕ) → held ms layer x y ≡ meets v (covers cb) (covers wb) x y

-- the first square of a box is not far out
abbrev pub Near : Tile → Type 0
Near t = (t.left < far) × (t.top < far)

-- a square of wire in a direction from one under a gate, with the first tiles of both
pub record BorderAt (v : Direction) (layer : ℕ) (cs : List Tile) (hs : List ℕ) (ws : List Tile) (ns : List ℕ) (x y : ℕ) (b : Border) : Type 0 where
  pub one : ℕ
  pub other : ℕ
  pub under : Holds (tile_at cs one) layer (channel_x v x) (channel_y v y)
  pub wired : Holds (tile_at ws other) layer (wire_x v x) (wire_y v y)
  pub channel : b.channel ≡ root_of hs one
  pub net : b.net ≡ root_of ns other
  pub across : b.x ≡ wire_x v x
  pub down : b.y ≡ wire_y v y

-- `after` has more: one border for the first square of each of the first m boxes
pub record Added (v : Direction) (layer : ℕ) (cs : List Tile) (hs : List ℕ) (ws : List Tile) (ns : List ℕ) (ms : List Tile) (m : ℕ) (before after : List Border) : Type 0 where
  pub keeps : (b : Border) → In before b → In after b
  pub sound : (b : Border) → In after b → In before b ⊎ ((x : ℕ) × (y : ℕ) × BorderAt v layer cs hs ws ns x y b)
  pub all : (n : ℕ) → n < m → (i j : ℕ) → Holds (tile_at cs i) layer (channel_x v (tile_at ms n).left) (channel_y v (tile_at ms n).top) →
      Holds (tile_at ws j) layer (wire_x v (tile_at ms n).left) (wire_y v (tile_at ms n).top) →
      (b : Border) × In after b × BorderAt v layer cs hs ws ns (tile_at ms n).left (tile_at ms n).top b

-- the borders in one direction are added
pub record Flanked (v : Direction) (layer : ℕ) (cb wb : List Band) (cs : List Tile) (hs : List ℕ) (ws : List Tile) (ns : List ℕ) (before after : List Border) : Type 0 where
  pub boxes : List Tile
  pub meeting : Meeting v layer cb wb boxes
  pub added : Added v layer cs hs ws ns boxes (length boxes) before after

-- the borders in all directions
pub record Fringed (layer : ℕ) (cb wb : List Band) (cs : List Tile) (hs : List ℕ) (ws : List Tile) (ns : List ℕ) (bs : List Border) : Type 0 where
  pub sound : (b : Border) → In bs b → (v : Direction) × (x : ℕ) × (y : ℕ) × BorderAt v layer cs hs ws ns x y b
  pub all : (v : Direction) → (ms : List Tile) × Meeting v layer cb wb ms × ((n : ℕ) → n < length ms → (i j : ℕ) → Holds (tile_at cs i) layer (channel_x v (tile_at ms n).left) (channel_y v (tile_at ms n).top) →
      Holds (tile_at ws j) layer (wire_x v (tile_at ms n).left) (wire_y v (tile_at ms n).top) →
      (b : Border) × In bs b × BorderAt v layer cs hs ws ns (tile_at ms n).left (tile_at ms n).top b)
