-- Circuits that are the same. Assumes nothing: these are definitions.
use Rattle.std.specs.Prelude.{◌≡◌, ℕ, ◌<◌, ◌⊎◌, List, length, slice_index_or}
use Rattle.circuits.specs.declared.netlist.Device.{Device}

-- two circuits are the same if nets and devices can be paired, ends in either order, and nets that are given names keep them
pub record Same (nets_a nets_b : ℕ) (as' bs : List Device) (named : ℕ) (none : Device) : Type 0 where
  pub net : ℕ → ℕ
  pub net_back : ℕ → ℕ
  pub device : ℕ → ℕ
  pub device_back : ℕ → ℕ
  pub nets : (n : ℕ) → n < nets_a → (net n < nets_b) × (net_back (net n) ≡ n)
  pub nets_back : (n : ℕ) → n < nets_b → (net_back n < nets_a) × (net (net_back n) ≡ n)
  pub devices : (i : ℕ) → i < length as' → (device i < length bs) × (device_back (device i) ≡ i)
  pub devices_back : (i : ℕ) → i < length bs → (device_back i < length as') × (device (device_back i) ≡ i)
  pub keeps : (n : ℕ) → n < named → net n ≡ n
  pub gates : (i : ℕ) → i < length as' → (slice_index_or bs (device i) none).gate ≡ net (slice_index_or as' i none).gate
  pub ends : (i : ℕ) → i < length as' →
      (((slice_index_or bs (device i) none).one ≡ net (slice_index_or as' i none).one) × ((slice_index_or bs (device i) none).other ≡ net (slice_index_or as' i none).other))
      ⊎ (((slice_index_or bs (device i) none).one ≡ net (slice_index_or as' i none).other) × ((slice_index_or bs (device i) none).other ≡ net (slice_index_or as' i none).one))
