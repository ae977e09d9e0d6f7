-- Nets: which squares are wire, and ways from spot to spot. Assumes nothing: these are definitions.
use Rattle.std.specs.Prelude.{◌≡◌, ℕ, suc, ◌+◌, Bool, true, not, ◌&&◌, ◌⊎◌, ◌==◌}
use Rattle.layout.specs.Layout.{Drawing}

-- which layers carry, and which layer joins which two; and the layers of gates and of what they cross
pub record Technology : Type 0 where
  pub carries : ℕ → Bool
  pub joins : ℕ → ℕ → ℕ → Bool
  pub gate : ℕ
  pub crossed : ℕ

-- a square of a layer is wire if the layer carries and covers it, but on the crossed layer not under a gate
unfoldable pub wire : Technology → Drawing → Drawing
wire k d l x y = k.carries l && (d l x y && not (l == k.crossed && d k.gate x y))

pub record Spot : Type 0 where
  pub layer : ℕ
  pub x : ℕ
  pub y : ℕ

unfoldable pub on : Drawing → Spot → Bool
on d s = d s.layer s.x s.y

-- squares beside each other on a layer
pub data Beside : Spot → Spot → Type 0 where
  right : (l x y : ℕ) → Beside (record { layer = l; x = x; y = y }) (record { layer = l; x = suc x; y = y })
  left : (l x y : ℕ) → Beside (record { layer = l; x = suc x; y = y }) (record { layer = l; x = x; y = y })
  below : (l x y : ℕ) → Beside (record { layer = l; x = x; y = y }) (record { layer = l; x = x; y = suc y })
  above : (l x y : ℕ) → Beside (record { layer = l; x = x; y = suc y }) (record { layer = l; x = x; y = y })

-- one can go from spot to spot: along a layer, or through a layer that joins two
pub data Way (k : Technology) (d : Drawing) (a : Spot) : Spot → Type 0 where
  stays : on (wire k d) a ≡ true → Way k d a a
  along : (b c : Spot) → Way k d a b → Beside b c → on (wire k d) c ≡ true → Way k d a c
  through : (b c : Spot) (j : ℕ) → Way k d a b → b.x ≡ c.x → b.y ≡ c.y → (k.joins j b.layer c.layer ≡ true) ⊎ (k.joins j c.layer b.layer ≡ true) →
      d j b.x b.y ≡ true → on (wire k d) c ≡ true → Way k d a c

-- numbers for spots that are equal exactly where one can go
pub record Netted (k : Technology) (d : Drawing) (net : Spot → ℕ) : Type 0 where
  pub same : (a b : Spot) → on (wire k d) a ≡ true → on (wire k d) b ≡ true → Way k d a b → net a ≡ net b
  pub apart : (a b : Spot) → on (wire k d) a ≡ true → on (wire k d) b ≡ true → net a ≡ net b → Way k d a b

unfoldable pub moved_spot : (right below : ℕ) → Spot → Spot
moved_spot r b s = record { layer = s.layer; x = s.x + r; y = s.y + b }
