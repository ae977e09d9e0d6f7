-- What the entry for devices answers, and leaves in the room that it is lent. Assumes nothing: these are definitions.
use Rattle.std.specs.Prelude.{◌≡◌, ℕ, ◌+◌, ◌*◌, ◌<◌, ◌≤◌, true, List, length, Ok, Err, Result, ◌==◌, slice_index}
use Rattle.layout.specs.Layout.{Drawing, pick}
use Rattle.layout.specs.Numbers.{layout_in, layout_refusal}
use Rattle.layout.specs.Checks.{TurnedAway}
use Rattle.layout.specs.declared.refusal.Refusal.{Refusal}
use Rattle.layout.specs.declared.refusal.Refusal.TheVariants.{Nodes, Number, Node, Boxes, Regions, Region, Technology as OfTechnology, Spots, Room, Circuit, Text}
use Rattle.layout.specs.declared.refusal.Fault.{Fault}
use Rattle.layout.specs.declared.refusal.Fault.TheVariants.{Refused, Memory}
use Rattle.nets.specs.Nets.{Technology, Spot, on}
use Rattle.nets.specs.Technologies.{technology_in, technology_ok}
use Rattle.devices.specs.declared.reading.Found.{Found}
use Rattle.devices.specs.declared.reading.Found.TheVariants.{Devices, Odd}
use Rattle.devices.specs.Channels.{channel, spot_of, Under, Earlier}
use Rattle.devices.specs.Ends.{Ends, DeviceAt, OddAt}

-- the spot on the crossed layer whose x and y stand at i
abbrev pub place_at : Technology → List ℕ → ℕ → Spot
place_at k xs i = spot_of k (slice_index xs i) (slice_index xs (i + 1))

-- n devices of six numbers each, in the order of their channels' first squares: each is one, none comes twice, and none is left out
pub record Listed (k : Technology) (d : Drawing) (n : ℕ) (xs : List ℕ) : Type 0 where
  pub each : (i : ℕ) → i < n → DeviceAt k d (place_at k xs (6 * i)) (place_at k xs (6 * i + 2)) (place_at k xs (6 * i + 4))
  pub order : (i j : ℕ) → i < j → j < n → Earlier (place_at k xs (6 * i)) (place_at k xs (6 * j))
  pub once : (i j : ℕ) → i < n → j < n → Under k d (place_at k xs (6 * i)) (place_at k xs (6 * j)) → i ≡ j
  pub all : (a : Spot) → on (channel k d) a ≡ true → (i : ℕ) × (i < n) × Under k d (place_at k xs (6 * i)) a

-- all channels are devices, and they are more than there is room for
pub record Crowded (k : Technology) (d : Drawing) (room : List ℕ) : Type 0 where
  pub count : ℕ
  pub spots : ℕ → Spot
  pub more : length room < 6 * count
  pub there : (i : ℕ) → i < count → on (channel k d) (spots i) ≡ true
  pub once : (i j : ℕ) → i < count → j < count → Under k d (spots i) (spots j) → i ≡ j
  pub devices : (a : Spot) → on (channel k d) a ≡ true → (b : Spot) × (c : Spot) × Ends k d a b c

-- the layout's refusals come first, then the technology's
unfoldable pub devices_refusal : (xs technology : List ℕ) → ℕ
devices_refusal xs technology = pick (layout_refusal xs == 0) (pick (technology_ok technology) 0 6) (layout_refusal xs)

-- where: a technology is shown by how many numbers it has; too little room, where neither is turned away, by how much there is
abbrev pub RefusedAt : (xs technology room : List ℕ) → Refusal → Type 0
RefusedAt xs technology room (Nodes p) = (devices_refusal xs technology ≡ 1) × TurnedAway xs (Nodes p)
RefusedAt xs technology room (Number p) = (devices_refusal xs technology ≡ 2) × TurnedAway xs (Number p)
RefusedAt xs technology room (Node p) = (devices_refusal xs technology ≡ 2) × TurnedAway xs (Node p)
RefusedAt xs technology room (Boxes p) = (devices_refusal xs technology ≡ 3) × TurnedAway xs (Boxes p)
RefusedAt xs technology room (Regions p) = ⊥
RefusedAt xs technology room (Region p) = ⊥
RefusedAt xs technology room (OfTechnology p) = (devices_refusal xs technology ≡ 6) × (p ≡ length technology)
RefusedAt xs technology room (Spots p) = ⊥
RefusedAt xs technology room (Room p) = (devices_refusal xs technology ≡ 0) × (p ≡ length room) × Crowded (technology_in technology) (layout_in xs) room
RefusedAt xs technology room (Circuit p) = ⊥
RefusedAt xs technology room (Text p) = ⊥

-- n devices are read, and what lies beyond them in the room is as it was
pub record ReadInto (xs technology room : List ℕ) (n : ℕ) (room₁ : List ℕ) : Type 0 where
  pub taken : devices_refusal xs technology ≡ 0
  pub long : length room₁ ≡ length room
  pub fits : 6 * n ≤ length room
  pub listed : Listed (technology_in technology) (layout_in xs) n room₁
  pub beyond : (i : ℕ) → 6 * n ≤ i → slice_index room₁ i ≡ slice_index room i

-- all devices are read; or an odd channel is shown, or the arguments are turned away, or there is no memory, with the room as it was
abbrev pub Says : (xs technology room : List ℕ) → Result (Found ℕ) Fault → (room₁ : List ℕ) → Type 0
Says xs technology room (Ok (Devices n)) room₁ = ReadInto xs technology room n room₁
Says xs technology room (Ok (Odd x y)) room₁ =
    (devices_refusal xs technology ≡ 0) × OddAt (technology_in technology) (layout_in xs) (spot_of (technology_in technology) x y) × (room₁ ≡ room)
Says xs technology room (Err (Refused e)) room₁ = RefusedAt xs technology room e × (room₁ ≡ room)
Says xs technology room (Err Memory) room₁ = (devices_refusal xs technology ≡ 0) × (room₁ ≡ room)
