-- Spots in threes: layer, x, y; and numbers for them by where one can go. Assumes nothing: these are definitions.
use Rattle.std.specs.Prelude.{◌≡◌, ℕ, suc, ◌+◌, ◌*◌, ◌<◌, Bool, true, false, cond, ◌&&◌, ◌⊎◌, List, [], ◌∷◌, length, Some, None, Ok, Err, Option, Result, ◌==◌, nat_le, slice_index}
use Rattle.std.specs.Option.{option_map}
use Rattle.groups.specs.Numbers.{highest}
use Rattle.layout.specs.Layout.{Drawing}
use Rattle.layout.specs.Numbers.{all_at_most}
use Rattle.layout.specs.Checks.{FirstAbove}
use Rattle.layout.specs.declared.refusal.Refusal.{Refusal}
use Rattle.layout.specs.declared.refusal.Refusal.TheVariants.{Spots}
use Rattle.tiles.specs.declared.tile.Tile.{Tile}
use Rattle.tiles.specs.Tiles.{in_tile}
use Rattle.nets.specs.Limits.{max_spots, max_spot}
use Rattle.nets.specs.Nets.{Technology, wire, Spot, on, Way}

unfoldable pub spot_at : List ℕ → ℕ → Spot
spot_at xs i = record { layer = slice_index xs (3 * i); x = slice_index xs (3 * i + 1); y = slice_index xs (3 * i + 2) }

-- three numbers for each of n that are asked for, and not too many
unfoldable pub spots_fit : List ℕ → ℕ → Bool
spots_fit xs n = length xs == 3 * n && nat_le n max_spots

unfoldable pub spots_ok : List ℕ → ℕ → Bool
spots_ok xs n = length xs == 3 * n && (nat_le n max_spots && all_at_most max_spot xs)

-- where they are at fault: how many numbers there are if that is wrong, else the first that is too large
abbrev pub Misplaced : List ℕ → (asked place : ℕ) → Type 0
Misplaced xs n p =
    (spots_ok xs n ≡ false) × (((spots_fit xs n ≡ false) × (p ≡ length xs)) ⊎ ((spots_fit xs n ≡ true) × FirstAbove max_spot xs p))

-- they are taken, or turned away at the place of the fault
abbrev pub Placed : List ℕ → (asked : ℕ) → Result (Unit {0}) Refusal → Type 0
Placed xs n (Ok u) = spots_ok xs n ≡ true
Placed xs n (Err e) = (p : ℕ) × (e ≡ Spots p) × Misplaced xs n p

-- the tile that holds a square, if one does
abbrev pub holder : List Tile → (l x y : ℕ) → Option ℕ
holder [] l x y = None
holder (t ∷ ts) l x y = cond (in_tile t l x y) (Some 0) (option_map suc (holder ts l x y))

abbrev pub tile_of_spot : List Tile → List ℕ → ℕ → Option ℕ
tile_of_spot ts spots i = holder ts (slice_index spots (3 * i)) (slice_index spots (3 * i + 1)) (slice_index spots (3 * i + 2))

-- each of m spots gets 0 if it is no wire; else the number of an earlier spot from which one can go there, or one more than there were
pub record Counted (k : Technology) (d : Drawing) (spots : List ℕ) (m : ℕ) (ns : List ℕ) : Type 0 where
  pub off : (i : ℕ) → i < m → on (wire k d) (spot_at spots i) ≡ false → slice_index ns i ≡ 0
  pub wired : (i : ℕ) → i < m → on (wire k d) (spot_at spots i) ≡ true →
      ((j : ℕ) × (j < i) × Way k d (spot_at spots j) (spot_at spots i) × (slice_index ns i ≡ slice_index ns j))
      ⊎ (((j : ℕ) → j < i → Way k d (spot_at spots j) (spot_at spots i) → ⊥) × (slice_index ns i ≡ suc (highest ns i)))
