-- Where a tile that holds a square stands, by whether another begins at or before the square.
use Rattle.std.proofs.Common.{◌≡◌, ℕ, ◌+◌, ◌<◌, ◌≤◌, Bool, true, false, ◌&&◌, ◌||◌, eqb, ltb, leb, slice_index_or, List, length, Decides, leb-true, le-leb, sym, subst, inl, inr, arith}
use Rattle.std.specs.List.Sorted.{IsPartitionPoint, IsPartitionedBy}
use Rattle.std.proofs.lemmas.Bool.{cases_order, both_ways}
use Rattle.std.proofs.lemmas.Bool.Decides.{Decides-ltb, Decides-eqb, Decides-and, Decides-or}
use Rattle.std.proofs.lemmas.List.{get_or_default}
use Rattle.tiles.specs.declared.tile.Tile.{Tile}
use Rattle.tiles.specs.Tiles.{none, tile_at, Holds, Solid, Before, Ordered, Starts}
use Rattle.tiles.proofs.Tiles.{holds-within, solid-at, before}

module _ (a b : Tile) (l x y : ℕ) (sa : Solid a) (sb : Solid b) (order : Before a b) where
  -- what holds the square comes before no tile that starts
  none-starts : Holds a l x y → Starts b l x y → ⊥
  none-starts h s = cases order s
    where
      cases : Before a b → Starts b l x y → ⊥
      cases (inl e) (inl f) = omega arith
      cases (inl e) (inr (f, g)) = omega arith
      cases (inr (d, inl e)) (inl f) = omega arith
      cases (inr (d, inl e)) (inr (f, inl g)) = omega arith
      cases (inr (d, inl e)) (inr (f, inr g)) = omega arith
      cases (inr (d, inr e)) (inl f) = omega arith
      cases (inr (d, inr e)) (inr (f, inl g)) = omega arith
      cases (inr (d, inr e)) (inr (f, inr g)) = omega arith

  -- a tile that starts comes after none that doesn't
  pub starts-earlier : Starts b l x y → Starts a l x y
  starts-earlier s = cases order s
    where
      cases : Before a b → Starts b l x y → Starts a l x y
      cases (inl e) (inl f) = inl (omega arith)
      cases (inl e) (inr (f, g)) = inl (omega arith)
      cases (inr (d, inl e)) (inl f) = inl (omega arith)
      cases (inr (d, inl e)) (inr (f, inl g)) = inr (omega arith, inl (omega arith))
      cases (inr (d, inl e)) (inr (f, inr g)) = inr (omega arith, inl (omega arith))
      cases (inr (d, inr e)) (inl f) = inl (omega arith)
      cases (inr (d, inr e)) (inr (f, inl g)) = inr (omega arith, inl (omega arith))
      cases (inr (d, inr e)) (inr (f, inr g)) = inr (omega arith, inr (omega arith))

decides-leb : (a b : ℕ) → Decides (leb a b) (a ≤ b)
decides-leb a b = (leb-true a b, le-leb a b)

-- whether a tile begins at or before the square
abbrev pub starts_test : (l x y : ℕ) → Tile → Bool
starts_test l x y t = ltb t.layer l || (eqb t.layer l && (leb t.bottom y || (leb t.top y && leb t.left x)))

pub starts_decides : (l x y : ℕ) (t : Tile) → Decides (starts_test l x y t) (Starts t l x y)
starts_decides l x y t =
    let in_row = Decides-and (leb t.top y) (leb t.left x) (decides-leb t.top y) (decides-leb t.left x) in
    let in_layer = Decides-or (leb t.bottom y) _ (decides-leb t.bottom y) in_row in
    Decides-or (ltb t.layer l) _ (Decides-ltb t.layer l) (Decides-and (eqb t.layer l) _ (Decides-eqb t.layer l) in_layer)

-- no tile that starts comes after one that doesn't
module _ (ts : List Tile) (order : Ordered ts) (l x y : ℕ) where
  pub starts-parted : IsPartitionedBy (starts_test l x y) ts
  starts-parted i j d k h t =
      let within : i < length ts = omega arith in
      let later : Starts (tile_at ts j) l x y = subst (λ u. Starts u l x y) (get_or_default ts j d none h) ((starts_decides l x y (slice_index_or ts j d)).0 t) in
      let earlier : Starts (tile_at ts i) l x y =
      elim (cases_order i j) [
        | inl e ↦ subst (λ n. Starts (tile_at ts n) l x y) (sym e) later
        | inr o ↦ elim o [
          | inl lt ↦ starts-earlier _ _ l x y (solid-at ts order i within) (solid-at ts order j h) (before ts order i j lt h) later
          | inr gt ↦ absurd (omega arith)
        ]
      ] in
      (starts_decides l x y (slice_index_or ts i d)).1 (subst (λ u. Starts u l x y) (get_or_default ts i none d within) earlier)

  -- of n tiles that start, only the last can hold the square
  module _ (n : ℕ) (bound : n ≤ length ts) (point : IsPartitionPoint (λ t. starts_test l x y t ≡ true) (λ t. starts_test l x y t ≡ false) ts n) where
    pub none-after : (i : ℕ) → n ≤ i → Holds (tile_at ts i) l x y → ⊥
    none-after i from h =
        let passed = (starts_decides l x y (tile_at ts i)).1 (inr (h.level, inr (h.top, h.left))) in
        both_ways (starts_test l x y (tile_at ts i)) (point.1 i none from (holds-within ts i l x y h)) passed

    pub only-last : (m : ℕ) → m + 1 ≡ n → (Holds (tile_at ts m) l x y → ⊥) → (i : ℕ) → Holds (tile_at ts i) l x y → ⊥
    only-last m e apart i h =
        let within : m < length ts = omega arith in
        let started = (starts_decides l x y (tile_at ts m)).0 (point.0 m none (omega arith) (omega arith)) in
        elim (cases_order i m) [
          | inl e ↦ apart (subst (λ k. Holds (tile_at ts k) l x y) e h)
          | inr o ↦ elim o [
            | inl k ↦ none-starts _ _ l x y (solid-at ts order i (omega arith)) (solid-at ts order m within) (before ts order i m k within) h started
            | inr k ↦ none-after i (omega arith) h
          ]
        ]
