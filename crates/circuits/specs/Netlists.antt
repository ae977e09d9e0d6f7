-- Netlists: how often one has a device, and how numbers say one, in threes, the gate first. Assumes nothing: these are definitions.
use Rattle.std.specs.Prelude.{ℕ, zero, suc, ◌+◌, ◌-◌, ◌*◌, ◌<◌, ◌≤◌, Bool, true, cond, ◌&&◌, ◌||◌, List, [], ◌∷◌, length, ◌==◌, nat_le, slice_index_or}
use Rattle.circuits.specs.declared.netlist.Device.{Device}

unfoldable pub sum : ℕ → (ℕ → ℕ) → ℕ
sum zero f = 0
sum (suc n) f = f n + sum n f

-- one device is like another, ends in either order
abbrev pub fits : Device → Device → Bool
fits p q = p.gate == q.gate && ((p.one == q.one && p.other == q.other) || (p.one == q.other && p.other == q.one))

-- how many of the first k devices are like q
abbrev pub weight : ℕ → (ℕ → Device) → Device → ℕ
weight k ps q = sum k (λ i. cond (fits (ps i) q) 1 0)

abbrev pub none : Device
none = record { gate = 0; one = 0; other = 0 }

abbrev pub device_at : List Device → ℕ → Device
device_at xs i = slice_index_or xs i none

abbrev pub mapped : (ℕ → ℕ) → Device → Device
mapped f p = record { gate = f p.gate; one = f p.one; other = f p.other }

-- how often a circuit has a device
abbrev pub has : List Device → Device → ℕ
has xs t = weight (length xs) (device_at xs) t

abbrev pub three : (g p q : ℕ) → Device
three g p q = record { gate = g; one = p; other = q }

-- the nets of a device lie below m
abbrev pub Below : ℕ → Device → Type 0
Below m t = (t.gate < m) × (t.one < m) × (t.other < m)

-- a circuit with nets below m
pub record Netlist (m : ℕ) (xs : List Device) : Type 0 where
  pub some : m ≤ 256
  pub few : length xs ≤ 256
  pub nets : (i : ℕ) → i < length xs → Below m (device_at xs i)

unfoldable pub threes : List ℕ → ℕ
threes [] = 0
threes (a ∷ []) = 0
threes (a ∷ (b ∷ [])) = 0
threes (a ∷ (b ∷ (c ∷ xs))) = suc (threes xs)

unfoldable pub all_at_most : ℕ → List ℕ → Bool
all_at_most m [] = true
all_at_most m (x ∷ xs) = nat_le x m && all_at_most m xs

unfoldable pub devices_in : List ℕ → List Device
devices_in [] = []
devices_in (a ∷ []) = []
devices_in (a ∷ (b ∷ [])) = []
devices_in (a ∷ (b ∷ (c ∷ xs))) = record { gate = a; one = b; other = c } ∷ devices_in xs

unfoldable pub circuit_ok : (nets : ℕ) → List ℕ → Bool
circuit_ok n xs = length xs == 3 * threes xs && (nat_le (threes xs) 256 && (nat_le 1 n && (nat_le n 256 && all_at_most (n - 1) xs)))
