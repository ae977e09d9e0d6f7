-- The order of squares, and of the first squares of tiles and channels.
use Rattle.std.proofs.Common.{◌≡◌, ℕ, ◌<◌, true, ◌⊎◌, List, length, sym, refl, ◌∙◌, subst, inl, inr, arith}
use Rattle.std.proofs.lemmas.Bool.{cases_order, cases_lt}
use Rattle.layout.specs.Layout.{Drawing}
use Rattle.tiles.specs.declared.tile.Tile.{Tile}
use Rattle.tiles.specs.Tiles.{tile_at, Holds, Solid, Before}
use Rattle.tiles.proofs.Tiles.{solid-at, before, holds-within}
use Rattle.nets.specs.Nets.{Technology, Spot, on}
use Rattle.nets.specs.Wires.{Has}
use Rattle.nets.proofs.Wires.{has-wire, wire-place}
use Rattle.devices.specs.Channels.{channel, Earlier, First}
use Rattle.devices.specs.Pieces.{root_of, Gated}
use Rattle.devices.specs.Readings.{corner}
use Rattle.devices.proofs.Channels.{plain, on-plain, tiled-plain, crossed-layer, under-ends}

pub earlier_on : (a b c : Spot) → Earlier a b → Earlier b c → Earlier a c
earlier_on a b c (inl p) (inl q) = inl (omega arith)
earlier_on a b c (inl p) (inr q) = inl (omega arith)
earlier_on a b c (inr p) (inl q) = inl (omega arith)
earlier_on a b c (inr p) (inr q) = inr (p.0 ∙ q.0, omega arith)

pub earlier-none : (a : Spot) → Earlier a a → ⊥
earlier-none a (inl p) = omega arith
earlier-none a (inr p) = omega arith

-- before s, and t is not: before t
pub earlier-through : (e s t : Spot) → Earlier e s → (Earlier t s → ⊥) → Earlier e t
earlier-through e s t h n =
    elim (cases_order s.y t.y) [
      | inl same ↦ elim (cases_lt t.x s.x) [
        | inl l ↦ absurd (n (inr (sym same, l)))
        | inr g ↦ elim h [ inl p ↦ inl (omega arith) | inr p ↦ inr (p.0 ∙ same, omega arith) ]
      ]
      | inr o ↦ elim o [
        | inl l ↦ elim h [ inl p ↦ inl (omega arith) | inr p ↦ inl (omega arith) ]
        | inr g ↦ absurd (n (inl g))
      ]
    ]

-- no square of a tile comes before its first
pub in_tile-late : (t : Tile) (l x y : ℕ) → Holds t l x y → (y < t.top) ⊎ ((y ≡ t.top) × (x < t.left)) → ⊥
in_tile-late t l x y h (inl p) = omega arith
in_tile-late t l x y h (inr p) = omega arith

corners : (a b : Tile) → Solid a → a.layer ≡ b.layer → Before a b → (a.top < b.top) ⊎ ((a.top ≡ b.top) × (a.left < b.left))
corners a b s e (inl p) = absurd (omega arith)
corners a b s e (inr (p, inl q)) = inl (omega arith)
corners a b s e (inr (p, inr q)) = inr (q.0, omega arith)

module _ (k : Technology) (d : Drawing) (ts : List Tile) (rs : List ℕ) (g : Gated k d ts rs) where
  pub has-channel : (i : ℕ) (s : Spot) → Has ts i s → on (channel k d) s ≡ true
  has-channel i s h = sym (on-plain k d s) ∙ has-wire (plain k) (channel k d) ts (tiled-plain k d ts g.tiled) i s h

  pub channel-place : (s : Spot) → on (channel k d) s ≡ true → (i : ℕ) × Has ts i s
  channel-place s h = wire-place (plain k) (channel k d) ts (tiled-plain k d ts g.tiled) s (on-plain k d s ∙ h)

  pub tile-layer : (i : ℕ) → i < length ts → (tile_at ts i).layer ≡ k.crossed
  tile-layer i h =
      let t = tile_at ts i in
      let s = solid-at ts g.tiled.ordered i h in
      crossed-layer k d (record { layer = t.layer; x = t.left; y = t.top })
      (has-channel i (record { layer = t.layer; x = t.left; y = t.top }) (record { level = refl; left = omega arith; right = s.wide; top = omega arith; bottom = s.tall }))

  pub corner-has : (i : ℕ) → i < length ts → Has ts i (corner k ts i)
  corner-has i h =
      let s = solid-at ts g.tiled.ordered i h in
      record { level = tile-layer i h; left = omega arith; right = s.wide; top = omega arith; bottom = s.tall }

  pub corner-order : (i j : ℕ) → i < j → j < length ts → Earlier (corner k ts i) (corner k ts j)
  corner-order i j l h =
      corners (tile_at ts i) (tile_at ts j) (solid-at ts g.tiled.ordered i (omega arith)) (tile-layer i (omega arith) ∙ sym (tile-layer j h)) (before ts g.tiled.ordered i j l h)

  -- what comes before the first square of a tile is in a tile before it
  pub earlier-tile : (i j : ℕ) (s : Spot) → i < length ts → Has ts j s → Earlier s (corner k ts i) → j < i
  earlier-tile i j s h p e =
      elim (cases_order j i) [
        | inl same ↦ absurd (in_tile-late (tile_at ts j) s.layer s.x s.y p (subst (λ n. Earlier s (corner k ts n)) (sym same) e))
        | inr o ↦ elim o [
          | inl l ↦ l
          | inr m ↦ absurd (in_tile-late (tile_at ts j) s.layer s.x s.y p (earlier_on s (corner k ts i) (corner k ts j) e (corner-order i j m (holds-within ts j s.layer s.x s.y p))))
        ]
      ]

  -- the first square of the first tile of a channel is its first
  pub root-first : (i : ℕ) → i < length ts → root_of rs i ≡ i → First k d (corner k ts i)
  root-first i h own = record {
    there = has-channel i (corner k ts i) (corner-has i h);
    first = λ b u e.
        let p = channel-place b (under-ends k d (corner k ts i) b u) in
        let same = g.same i p.0 (corner k ts i) b (corner-has i h) p.1 u in
        omega (arith, own, same, g.low p.0, earlier-tile i p.0 b h p.1 e);
  }
