-- Tiles of wire: one can go within a tile and over to one that it touches, and names that go along touching tiles go along ways.
use Rattle.std.proofs.Common.{◌≡◌, ℕ, suc, ◌-◌, ◌<◌, ◌≤◌, max, true, false, ◌⊎◌, List, length, sym, refl, ap, ◌∙◌, subst, inl, inr, arith}
use Rattle.std.proofs.lemmas.List.{get_or_past}
use Rattle.std.proofs.lemmas.Bool.{cases_lt, cases_order, false≢true}
use Rattle.layout.specs.Layout.{Drawing}
use Rattle.groups.specs.Chains.{Chain, start, on as then, back, Grouped}
use Rattle.tiles.specs.declared.tile.Tile.{Tile}
use Rattle.tiles.specs.Tiles.{none, tile_at, Holds, Before, Ordered}
use Rattle.tiles.specs.Links.{Meets, Touch}
use Rattle.tiles.proofs.Tiles.{held_place, place-held, holds-within, solid-at, before, one-holder}
use Rattle.nets.specs.Nets.{Technology, wire, Spot, on, Beside, right, left, below, above, Way, stays, along, through}
use Rattle.nets.specs.Wires.{Tiled, Has, Sound}
use Rattle.nets.specs.Joins.{Along}
use Rattle.nets.proofs.Ways.{Through, way-ends, ways_on, ways_back, corner-way}

-- two tiles of one layer that hold squares beside each other

module _ (a b : Tile) (l x y : ℕ) where
  row_before : Holds a l x y → Holds b l (suc x) y → Before a b → ⊥
  row_before p q (inl e) = omega arith
  row_before p q (inr (e, inl f)) = omega arith
  row_before p q (inr (e, inr f)) = omega arith

  row-after : Holds a l x y → Holds b l (suc x) y → Before b a → ⊥
  row-after p q (inl e) = omega arith
  row-after p q (inr (e, inl f)) = omega arith
  row-after p q (inr (e, inr f)) = omega arith

  column-before : Holds a l x y → Holds b l x (suc y) → Before a b → Meets a b
  column-before p q (inl e) = absurd (omega arith)
  column-before p q (inr (e, inl f)) = record { level = e; row = omega arith; from = omega arith; to = omega arith }
  column-before p q (inr (e, inr f)) = absurd (omega arith)

  column-after : Holds a l x y → Holds b l x (suc y) → Before b a → ⊥
  column-after p q (inl e) = omega arith
  column-after p q (inr (e, inl f)) = omega arith
  column-after p q (inr (e, inr f)) = omega arith

module _ (ts : List Tile) (order : Ordered ts) (i j l x y : ℕ) where
  pub row_one : Holds (tile_at ts i) l x y → Holds (tile_at ts j) l (suc x) y → i ≡ j
  row_one p q =
      elim (cases_order i j) [
        | inl e ↦ e
        | inr o ↦ elim o [
          | inl m ↦ absurd (row_before _ _ l x y p q (before ts order i j m (holds-within ts j l (suc x) y q)))
          | inr m ↦ absurd (row-after _ _ l x y p q (before ts order j i m (holds-within ts i l x y p)))
        ]
      ]

  pub column-touch : Holds (tile_at ts i) l x y → Holds (tile_at ts j) l x (suc y) → (i ≡ j) ⊎ Touch ts i j
  column-touch p q =
      elim (cases_order i j) [
        | inl e ↦ inl e
        | inr o ↦ elim o [
          | inl m ↦ inr (column-before _ _ l x y p q (before ts order i j m (holds-within ts j l x (suc y) q)))
          | inr m ↦ absurd (column-after _ _ l x y p q (before ts order j i m (holds-within ts i l x y p)))
        ]
      ]

module _ (ts : List Tile) (order : Ordered ts) (f : ℕ → ℕ) (touch : Along ts f) where
  column-named : (i j l x y : ℕ) → Holds (tile_at ts i) l x y → Holds (tile_at ts j) l x (suc y) → f i ≡ f j
  column-named i j l x y p q = elim (column-touch ts order i j l x y p q) [ inl e ↦ ap f e | inr t ↦ touch i j t ]

  -- names go over to the next square
  pub beside-named : (i j : ℕ) (s t : Spot) → Beside s t → Has ts i s → Has ts j t → f i ≡ f j
  beside-named i j s t (right l x y) p q = ap f (row_one ts order i j l x y p q)
  beside-named i j s t (left l x y) p q = ap f (sym (row_one ts order j i l x y q p))
  beside-named i j s t (below l x y) p q = column-named i j l x y p q
  beside-named i j s t (above l x y) p q = sym (column-named j i l x y q p)

module _ (k : Technology) (d : Drawing) (ts : List Tile) (tiled : Tiled (wire k d) ts) where
  pub has-wire : (i : ℕ) (s : Spot) → Has ts i s → on (wire k d) s ≡ true
  unfolding on
  has-wire i s h = sym (tiled.holds s.layer s.x s.y) ∙ place-held ts i s.layer s.x s.y h

  pub wire-place : (s : Spot) → on (wire k d) s ≡ true → (i : ℕ) × Has ts i s
  unfolding on
  wire-place s h = held_place ts s.layer s.x s.y (tiled.holds s.layer s.x s.y ∙ h)

  -- the first square of a tile
  abbrev corner : ℕ → Spot
  corner i = record { layer = (tile_at ts i).layer; x = (tile_at ts i).left; y = (tile_at ts i).top }

  corner-to : (i : ℕ) (s : Spot) → Has ts i s → Way k d (corner i) s
  corner-to i s h =
      let a = tile_at ts i in
      subst (λ l. Way k d (corner i) (record { layer = l; x = s.x; y = s.y })) h.level
      (corner-way k d a.layer a.left a.top a.right a.bottom
      (λ x y p q r t. has-wire i (record { layer = a.layer; x = x; y = y }) (record { level = refl; left = p; right = q; top = r; bottom = t }))
      s.x s.y h.left h.right h.top h.bottom)

  pub tile-way : (i : ℕ) (s t : Spot) → Has ts i s → Has ts i t → Way k d s t
  tile-way i s t p q = ways_on k d s (corner i) t (ways_back k d (corner i) s (corner-to i s p)) (corner-to i t q)

  -- squares of two tiles that touch, beside each other
  pub record Crossing (i j : ℕ) : Type 0 where
    pub one : Spot
    pub other : Spot
    pub in_one : Has ts i one
    pub in-other : Has ts j other
    pub near : Beside one other

  touch-within : (i j : ℕ) → Touch ts i j → (i < length ts) × (j < length ts)
  touch-within i j t = (
    elim (cases_lt i (length ts)) [
      | inl l ↦ l
      | inr g ↦ let n : Meets none (tile_at ts j) = subst (λ u. Meets u (tile_at ts j)) (get_or_past ts i none g) t in absurd (omega arith)
    ],
    elim (cases_lt j (length ts)) [
      | inl l ↦ l
      | inr g ↦ let n : Meets (tile_at ts i) none = subst (λ u. Meets (tile_at ts i) u) (get_or_past ts j none g) t in absurd (omega arith)
    ],
  )

  touch-crossing : (i j : ℕ) → Touch ts i j → Crossing i j
  touch-crossing i j t =
      let a = tile_at ts i in
      let b = tile_at ts j in
      let sa = solid-at ts tiled.ordered i (touch-within i j t).0 in
      let sb = solid-at ts tiled.ordered j (touch-within i j t).1 in
      let x = max a.left b.left in
      let y = b.top - 1 in
      let e : suc y ≡ b.top = omega arith in
      record {
        one = record { layer = a.layer; x = x; y = y };
        other = record { layer = a.layer; x = x; y = suc y };
        in_one = record { level = refl; left = omega arith; right = omega arith; top = omega arith; bottom = omega arith };
        in-other = record { level = sym t.level; left = omega arith; right = omega arith; top = omega arith; bottom = omega arith };
        near = below a.layer x y;
      }

  over : (i j : ℕ) (c : Crossing i j) (s t : Spot) → Has ts i s → Has ts j t → Way k d s t
  over i j c s t p q =
      ways_on k d s c.other t (along c.one c.other (tile-way i s c.one p c.in_one) c.near (has-wire j c.other c.in-other))
      (tile-way j c.other t c.in-other q)

  -- chains of tiles that touch are ways
  pub chain-way : (i j : ℕ) (s t : Spot) → Chain (Touch ts) i j → Has ts i s → Has ts j t → Way k d s t
  chain-way i j s t start p q = tile-way i s t p q
  chain-way i j s t (then m n w h) p q =
      let c = touch-crossing m j h in
      ways_on k d s c.one t (chain-way i m s c.one w p c.in_one) (over m j c c.one t c.in_one q)
  chain-way i j s t (back m n w h) p q =
      let c = touch-crossing j m h in
      ways_on k d s c.other t (chain-way i m s c.other w p c.in-other) (ways_back k d t c.other (over j m c t c.other q c.in-other))

  pub grouped-sound : (f : ℕ → ℕ) → Grouped (Touch ts) f → Sound k d ts f
  grouped-sound f g i j s t p q e = chain-way i j s t (g.chained i j e) p q

  -- names that go along touching tiles, and through joins, go along ways
  pub way-named :
      (f : ℕ → ℕ) → Along ts f → ((i j : ℕ) (s t : Spot) → Through k d s t → Has ts i s → Has ts j t → f i ≡ f j) →
      (i : ℕ) (s : Spot) (j : ℕ) (t : Spot) → Way k d s t → Has ts i s → Has ts j t → f i ≡ f j
  way-named f touch thr i s j t (stays h) p q = ap f (one-holder ts tiled.ordered i j s.layer s.x s.y p q)
  way-named f touch thr i s j t (along b c w n h) p q =
      let m = wire-place b (way-ends k d s b w) in
      way-named f touch thr i s m.0 b w p m.1 ∙ beside-named ts tiled.ordered f touch m.0 j b t n m.1 q
  way-named f touch thr i s j t (through b c by w u v r z h) p q =
      let m = wire-place b (way-ends k d s b w) in
      way-named f touch thr i s m.0 b w p m.1 ∙ thr m.0 j b t (record { by = by; across = u; down = v; joins = r; covered = z }) m.1 q

-- a box of wire lies within one net of its layer

abbrev joinless : Technology → Technology
joinless k = record { carries = k.carries; joins = λ j a b. false; gate = k.gate; crossed = k.crossed }

module _ (k : Technology) (d : Drawing) (ts : List Tile) (tiled : Tiled (wire k d) ts) (f : ℕ → ℕ) (touch : Along ts f) where
  tiled-joinless : Tiled (wire (joinless k) d) ts
  unfolding wire
  tiled-joinless = record { ordered = tiled.ordered; holds = tiled.holds }

  wire-joinless : (s : Spot) → on (wire k d) s ≡ true → on (wire (joinless k) d) s ≡ true
  unfolding wire on
  wire-joinless s h = h

  no-through : (i j : ℕ) (s t : Spot) → Through (joinless k) d s t → Has ts i s → Has ts j t → f i ≡ f j
  no-through i j s t h p q = elim h.joins [ inl e ↦ absurd (false≢true e) | inr e ↦ absurd (false≢true e) ]

  pub box-named :
      (l u v r b : ℕ) → ((x y : ℕ) → u ≤ x → x < r → v ≤ y → y < b → on (wire k d) (record { layer = l; x = x; y = y }) ≡ true) →
      (x y i j : ℕ) → u ≤ x → x < r → v ≤ y → y < b → Holds (tile_at ts i) l u v → Holds (tile_at ts j) l x y → f i ≡ f j
  box-named l u v r b w x y i j g h m n p q =
      way-named (joinless k) d ts tiled-joinless f touch no-through i (record { layer = l; x = u; y = v }) j (record { layer = l; x = x; y = y })
      (corner-way (joinless k) d l u v r b (λ x y a e o z. wire-joinless (record { layer = l; x = x; y = y }) (w x y a e o z)) x y g h m n) p q
