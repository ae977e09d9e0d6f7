-- What the comparison answers. Assumes nothing: these are definitions.
use Rattle.std.specs.Prelude.{◌≡◌, ℕ, true, false, ◌&&◌, ◌⊎◌, List, nat_le, Result, Ok, Err}
use Rattle.layout.specs.declared.refusal.Refusal.{Refusal}
use Rattle.layout.specs.declared.refusal.Refusal.TheVariants.{Circuit}
use Rattle.circuits.specs.Circuits.{Same}
use Rattle.circuits.specs.Netlists.{devices_in, none, circuit_ok}
use Rattle.circuits.specs.declared.Comparison.{Comparison}
use Rattle.circuits.specs.declared.Comparison.TheVariants.{Equal, Unequal}

-- the first fault is refused with its place: 0 for the first circuit, 1 for the second, 2 for the names
unfoldable pub ComparisonSays : (m n named : ℕ) → (as' bs : List ℕ) → Result Comparison Refusal → Type 0
ComparisonSays m n named as' bs r =
    ((r ≡ Err (Circuit 0)) × (circuit_ok m as' ≡ false))
    ⊎ (((r ≡ Err (Circuit 1)) × (circuit_ok m as' ≡ true) × (circuit_ok n bs ≡ false))
    ⊎ (((r ≡ Err (Circuit 2)) × (circuit_ok m as' ≡ true) × (circuit_ok n bs ≡ true) × ((nat_le named m && nat_le named n) ≡ false))
    ⊎ ((circuit_ok m as' ≡ true) × (circuit_ok n bs ≡ true) × ((nat_le named m && nat_le named n) ≡ true)
    × (((r ≡ Ok Equal) × Same m n (devices_in as') (devices_in bs) named none) ⊎ ((r ≡ Ok Unequal) × (Same m n (devices_in as') (devices_in bs) named none → ⊥))))))
