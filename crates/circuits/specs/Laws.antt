-- What is promised of circuits. Each is a statement, a type. Assumes nothing.
use Rattle.std.specs.Prelude.{ℕ, ◌<◌, ◌≤◌, ◌⊎◌, List, length, slice_index_or}
use Rattle.circuits.specs.Circuits.{Same}
use Rattle.circuits.specs.declared.netlist.Device.{Device}

unfoldable pub BelowNets : ℕ → List Device → (none : Device) → Type 0
BelowNets n vs none = (i : ℕ) → i < length vs → ((slice_index_or vs i none).gate < n) × ((slice_index_or vs i none).one < n) × ((slice_index_or vs i none).other < n)

unfoldable pub Compared : Type 0
Compared = (m n : ℕ) (as' bs : List Device) (named : ℕ) (none : Device) → BelowNets m as' none → BelowNets n bs none → Same m n as' bs named none ⊎ (Same m n as' bs named none → ⊥)

unfoldable pub SameSelf : Type 0
SameSelf = (m : ℕ) (as' : List Device) (named : ℕ) (none : Device) → Same m m as' as' named none

unfoldable pub SameBack : Type 0
SameBack = (m n : ℕ) (as' bs : List Device) (named : ℕ) (none : Device) → named ≤ m → named ≤ n → BelowNets m as' none → Same m n as' bs named none → Same n m bs as' named none

unfoldable pub SameOn : Type 0
SameOn =
    (l m n : ℕ) (as' bs cs : List Device) (named : ℕ) (none : Device) → named ≤ l → BelowNets l as' none →
    Same l m as' bs named none → Same m n bs cs named none → Same l n as' cs named none
