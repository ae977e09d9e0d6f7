-- Devices as they are read, one channel after another. Assumes nothing: these are definitions.
use Rattle.std.specs.Prelude.{◌≡◌, ℕ, ◌+◌, ◌*◌, ◌<◌, ◌≤◌, true, ◌⊎◌, List, length, vec_items, Vec, slice_index, slice_index_or}
use Rattle.std.specs.declared.alloc.Global.{Global}
use Rattle.layout.specs.Layout.{Drawing}
use Rattle.tiles.specs.declared.tile.Tile.{Tile}
use Rattle.tiles.specs.Tiles.{tile_at}
use Rattle.nets.specs.Nets.{Technology, Spot, on, Way}
use Rattle.devices.specs.declared.terminal.Terminal.{Terminal}
use Rattle.devices.specs.declared.terminal.Terminals.{Terminals}
use Rattle.devices.specs.declared.terminal.Terminals.TheVariants.{Isolated, One, Two, Many}
use Rattle.devices.specs.declared.reading.Device.{Device}
use Rattle.devices.specs.declared.reading.Found.{Found}
use Rattle.devices.specs.declared.reading.Found.TheVariants.{Devices, Odd}
use Rattle.devices.specs.Channels.{channel, spot_of, Under, Earlier}
use Rattle.devices.specs.Ends.{Side, DeviceAt, OddAt}
use Rattle.devices.specs.Pieces.{root_of, Gated}

abbrev pub terminal_spot : Technology → Terminal → Spot
terminal_spot k t = spot_of k t.x t.y

-- e is of the net of b, and not before b
pub record Follows (k : Technology) (d : Drawing) (b e : Spot) : Type 0 where
  pub way : Way k d b e
  pub late : Earlier e b → ⊥

-- what lies beside the channel of a: nothing; one net, and its first square; two; three or more
abbrev pub Judged : Technology → Drawing → Spot → Terminals → Type 0
Judged k d a Isolated = (e : Spot) → Side k d a e → ⊥
Judged k d a (One t) = Side k d a (terminal_spot k t) × ((e : Spot) → Side k d a e → Follows k d (terminal_spot k t) e)
Judged k d a (Two s t) =
    Side k d a (terminal_spot k s) × Side k d a (terminal_spot k t) × (Way k d (terminal_spot k s) (terminal_spot k t) → ⊥)
    × ((e : Spot) → Side k d a e → Follows k d (terminal_spot k s) e ⊎ Follows k d (terminal_spot k t) e)
Judged k d a Many =
    (s : Spot) × (t : Spot) × (u : Spot) × Side k d a s × Side k d a t × Side k d a u × (Way k d s t → ⊥) × (Way k d s u → ⊥) × (Way k d t u → ⊥)

-- the first square of a tile
abbrev pub corner : Technology → List Tile → ℕ → Spot
corner k ts i = spot_of k (tile_at ts i).left (tile_at ts i).top

-- the tiles of channels, and what lies beside each channel
pub record Known (k : Technology) (d : Drawing) (ts : List Tile) (rs : List ℕ) (es : List Terminals) : Type 0 where
  pub gated : Gated k d ts rs
  pub judged : (i : ℕ) → i < length ts → root_of rs i ≡ i → Judged k d (corner k ts i) (slice_index_or es i Isolated)

abbrev pub device_at : List Device → ℕ → Device
device_at vs i = slice_index_or vs i (record { x = 0; y = 0; one = record { net = 0; x = 0; y = 0 }; other = record { net = 0; x = 0; y = 0 } })

abbrev pub device_spot : Technology → List Device → ℕ → Spot
device_spot k vs i = spot_of k (device_at vs i).x (device_at vs i).y

-- all devices, in order
pub record Enumerated (k : Technology) (d : Drawing) (vs : List Device) : Type 0 where
  pub each : (i : ℕ) → i < length vs → DeviceAt k d (device_spot k vs i) (terminal_spot k (device_at vs i).one) (terminal_spot k (device_at vs i).other)
  pub order : (i j : ℕ) → i < j → j < length vs → Earlier (device_spot k vs i) (device_spot k vs j)
  pub all : (a : Spot) → on (channel k d) a ≡ true → (i : ℕ) × (i < length vs) × Under k d (device_spot k vs i) a

-- all devices, or the first odd channel
abbrev pub ComesTo : Technology → Drawing → Found (Vec Device Global) → Type 0
ComesTo k d (Devices v) = Enumerated k d (vec_items v)
ComesTo k d (Odd x y) = OddAt k d (spot_of k x y)

-- six numbers for each of the first n devices, and beyond them the room as it was
pub record Written (vs : List Device) (n : ℕ) (room room₁ : List ℕ) : Type 0 where
  pub long : length room₁ ≡ length room
  pub spot : (i : ℕ) → i < n → (slice_index room₁ (6 * i) ≡ (device_at vs i).x) × (slice_index room₁ (6 * i + 1) ≡ (device_at vs i).y)
  pub one : (i : ℕ) → i < n → (slice_index room₁ (6 * i + 2) ≡ (device_at vs i).one.x) × (slice_index room₁ (6 * i + 2 + 1) ≡ (device_at vs i).one.y)
  pub other : (i : ℕ) → i < n → (slice_index room₁ (6 * i + 4) ≡ (device_at vs i).other.x) × (slice_index room₁ (6 * i + 4 + 1) ≡ (device_at vs i).other.y)
  pub beyond : (j : ℕ) → 6 * n ≤ j → slice_index room₁ j ≡ slice_index room j
