-- The ends of a channel: the wire of the crossed layer beside it. Assumes nothing: these are definitions.
use Rattle.std.specs.Prelude.{◌≡◌, true, ◌⊎◌}
use Rattle.layout.specs.Layout.{Drawing}
use Rattle.nets.specs.Nets.{Technology, wire, Spot, on, Beside, Way}
use Rattle.devices.specs.Channels.{channel, Under, Earlier, First}

-- b is wire beside the channel of a
pub record Side (k : Technology) (d : Drawing) (a b : Spot) : Type 0 where
  pub from : Spot
  pub under : Under k d a from
  pub beside : Beside from b
  pub wired : on (wire k d) b ≡ true

-- b and c are wire beside the channel of a, and all such wire is of the net of one of them
pub record Ends (k : Technology) (d : Drawing) (a b c : Spot) : Type 0 where
  pub one : Side k d a b
  pub other : Side k d a c
  pub only : (e : Spot) → Side k d a e → Way k d b e ⊎ Way k d c e

-- a device by its first squares: a is the first of its channel, b the first of the wire beside it, and c the first of that wire that is not of b's net, or b again if there is one net only
pub record DeviceAt (k : Technology) (d : Drawing) (a b c : Spot) : Type 0 where
  pub first : First k d a
  pub ends : Ends k d a b c
  pub near : (e : Spot) → Side k d a e → Earlier e b → ⊥
  pub far : (e : Spot) → Side k d a e → Earlier e c → Way k d b e
  pub same : Way k d b c → b ≡ c

-- a channel that is no device, and before whose first square all channels are devices
pub record OddAt (k : Technology) (d : Drawing) (a : Spot) : Type 0 where
  pub first : First k d a
  pub odd : (b c : Spot) → Ends k d a b c → ⊥
  pub before : (s : Spot) → on (channel k d) s ≡ true → Earlier s a → (b : Spot) × (c : Spot) × Ends k d s b c
