-- A law of devices. Assumes nothing: these are statements, and a function's contract names the last.
use Rattle.std.specs.Prelude.{◌≡◌, ℕ, ◌<◌, true, ◌⊎◌, List, length, get_or, slice_index_or}
use Rattle.layout.specs.Layout.{Layout, Drawing, drawn}
use Rattle.nets.specs.Nets.{Technology, Spot, on, Netted}
use Rattle.devices.specs.Channels.{channel, Under}
use Rattle.devices.specs.Ends.{Side}

-- a device: a spot under its gate, the net of its gate and those of its two ends
pub record Device : Type 0 where
  pub spot : Spot
  pub gate : ℕ
  pub one : ℕ
  pub other : ℕ

-- the spot of the gate's layer over a spot
abbrev pub over : Technology → Spot → Spot
over k a = record { layer = k.gate; x = a.x; y = a.y }

-- the wire beside its channel is of these two nets and of no others, and the gate over it is of that net
pub record Read (k : Technology) (d : Drawing) (net : Spot → ℕ) (v : Device) : Type 0 where
  pub there : on (channel k d) v.spot ≡ true
  pub gate : (a : Spot) → Under k d v.spot a → net (over k a) ≡ v.gate
  pub ends : (b : Spot) → Side k d v.spot b → (net b ≡ v.one) ⊎ (net b ≡ v.other)
  pub has_one : (b : Spot) × Side k d v.spot b × (net b ≡ v.one)
  pub has_other : (b : Spot) × Side k d v.spot b × (net b ≡ v.other)

-- each is read, once, and none is left out
pub record AllRead (k : Technology) (d : Drawing) (net : Spot → ℕ) (vs : List Device) (none : Device) : Type 0 where
  pub each : (i : ℕ) → i < length vs → Read k d net (slice_index_or vs i none)
  pub once : (i j : ℕ) → i < length vs → j < length vs → Under k d (get_or vs i none).spot (get_or vs j none).spot → i ≡ j
  pub all : (a : Spot) → on (channel k d) a ≡ true → (i : ℕ) × (i < length vs) × Under k d (get_or vs i none).spot a

-- wire of three nets beside the channel of a
pub record Three (k : Technology) (d : Drawing) (net : Spot → ℕ) (a : Spot) : Type 0 where
  pub one : Spot
  pub two : Spot
  pub three : Spot
  pub has_one : Side k d a one
  pub has_two : Side k d a two
  pub has_three : Side k d a three
  pub one_two : net one ≡ net two → ⊥
  pub one_three : net one ≡ net three → ⊥
  pub two_three : net two ≡ net three → ⊥

-- a channel beside which there is no wire, or wire of three nets
abbrev pub Odd : Technology → Drawing → (net : Spot → ℕ) → Spot → Type 0
Odd k d net a = (on (channel k d) a ≡ true) × (((b : Spot) → Side k d a b → ⊥) ⊎ Three k d net a)

-- of every layout either all devices are read, each once, or an odd channel is shown
abbrev pub AllOrOdd : Type 0
AllOrOdd =
    (k : Technology) (bodies : ℕ → Layout) (n : ℕ) (a : Layout) (net : Spot → ℕ) (none : Device) →
    Netted k (drawn bodies n a) net → k.carries k.gate ≡ true →
    ((vs : List Device) × AllRead k (drawn bodies n a) net vs none) ⊎ ((s : Spot) × Odd k (drawn bodies n a) net s)
