-- Channels: what lies under a gate, how far one comes there, and which square is first. Assumes nothing: these are definitions.
use Rattle.std.specs.Prelude.{◌≡◌, ℕ, ◌<◌, true, ◌&&◌, ◌⊎◌, ◌==◌}
use Rattle.layout.specs.Layout.{Drawing}
use Rattle.nets.specs.Nets.{Technology, Spot, on, Beside}

-- under a gate: where the gate's layer and the crossed one are both covered
unfoldable pub channel : Technology → Drawing → Drawing
channel k d l x y = l == k.crossed && (d k.crossed x y && d k.gate x y)

-- a spot of the crossed layer
abbrev pub spot_of : Technology → (x y : ℕ) → Spot
spot_of k x y = record { layer = k.crossed; x = x; y = y }

-- one comes from spot to spot under gates: the two are in one channel
pub data Under (k : Technology) (d : Drawing) (a : Spot) : Spot → Type 0 where
  stays : on (channel k d) a ≡ true → Under k d a a
  along : (b c : Spot) → Under k d a b → Beside b c → on (channel k d) c ≡ true → Under k d a c

-- the least row is first, and in it the least column
abbrev pub Earlier : Spot → Spot → Type 0
Earlier a b = (a.y < b.y) ⊎ ((a.y ≡ b.y) × (a.x < b.x))

-- the first square of its channel
pub record First (k : Technology) (d : Drawing) (a : Spot) : Type 0 where
  pub there : on (channel k d) a ≡ true
  pub first : (b : Spot) → Under k d a b → Earlier b a → ⊥
