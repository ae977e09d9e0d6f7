-- Spots: where they are at fault, which tile holds each, and that numbers of their tiles' groups go by nets.
use Rattle.std.proofs.Common.{◌≡◌, ℕ, suc, ◌*◌, ◌<◌, ◌≤◌, Bool, true, false, cond, ◌||◌, eqb, leb, ◌⊎◌, List, [], ◌∷◌, length, Some, None, Option, sym, refl, ap, ◌∙◌, subst, inl, inr, arith, MatchOption}
use Rattle.std.specs.Option.{option_map}
use Rattle.std.proofs.lemmas.Bool.{cases_Bool, and_left, and_right, and_from, eq-eqb, ne_eqb, le-leb, lt-leb, both_ways, false≢true}
use Rattle.layout.specs.Layout.{Drawing}
use Rattle.layout.specs.Numbers.{all_at_most}
use Rattle.layout.specs.Checks.{FirstAbove}
use Rattle.layout.proofs.Checks.{all_not}
use Rattle.groups.specs.Numbers.{Numbered}
use Rattle.tiles.specs.declared.tile.Tile.{Tile}
use Rattle.tiles.specs.Tiles.{tile_at, Holds, in_tile, held, Ordered, Located}
use Rattle.tiles.proofs.Tiles.{holds_decides, place-held, one-holder}
use Rattle.nets.specs.Limits.{max_spots, max_spot}
use Rattle.nets.specs.Nets.{Technology, wire, on}
use Rattle.nets.specs.Wires.{Tiled, Has, Named}
use Rattle.nets.specs.Spots.{spot_at, spots_fit, spots_ok, Misplaced, holder, tile_of_spot, Counted}
use Rattle.nets.proofs.Ways.{way-starts}
use Rattle.nets.proofs.Wires.{has-wire}

-- faults

module _ (xs : List ℕ) (n : ℕ) where
  pub too_many : max_spots < n → Misplaced xs n (length xs)
  unfolding spots_ok spots_fit
  too_many h =
      let e = lt-leb n max_spots h in
      (and_right (eqb (length xs) (3 * n)) _ (and_left (leb n max_spots) _ e), inl (and_right (eqb (length xs) (3 * n)) _ e, refl))

  pub not-threes : (length xs ≡ 3 * n → ⊥) → Misplaced xs n (length xs)
  unfolding spots_ok spots_fit
  not-threes h =
      let e = ne_eqb (length xs) (3 * n) h in
      (and_left (eqb (length xs) (3 * n)) _ e, inl (and_left (eqb (length xs) (3 * n)) _ e, refl))

  module _ (fit : length xs ≡ 3 * n) (few : n ≤ max_spots) where
    pub too_large : (p : ℕ) → FirstAbove max_spot xs p → Misplaced xs n p
    unfolding spots_ok spots_fit
    too_large p h = (
      and_right (eqb (length xs) (3 * n)) _ (and_right (leb n max_spots) _ (all_not max_spot xs p h.1)),
      inr (and_from (eqb (length xs) (3 * n)) _ (eq-eqb _ _ fit) (le-leb n max_spots few), h),
    )

    pub none-large : all_at_most max_spot xs ≡ true → spots_ok xs n ≡ true
    unfolding spots_ok
    none-large h = and_from (eqb (length xs) (3 * n)) _ (eq-eqb _ _ fit) (and_from (leb n max_spots) _ (le-leb n max_spots few) h)

    pub large_cases : (o : Option ℕ) → MatchOption o (all_at_most max_spot xs ≡ true) (FirstAbove max_spot xs) → MatchOption o (spots_ok xs n ≡ true) (Misplaced xs n)
    large_cases None h = none-large h
    large_cases (Some p) h = too_large p h

-- the tile that holds a square

some_apart : {X : Type 0} (o : Option ℕ) (a : ℕ) → o ≡ None → o ≡ Some a → X
some_apart o a p q = let z : ◌≡◌ {A = ℕ} 0 1 = cc in absurd (omega arith)

shift_some : (o : Option ℕ) (i : ℕ) → option_map suc o ≡ Some i → (j : ℕ) × (o ≡ Some j) × (i ≡ suc j)
shift_some None i e = some_apart None i refl e
shift_some (Some j) i e = (j, refl, cc)

holder-holds : (ts : List Tile) (l x y i : ℕ) → holder ts l x y ≡ Some i → Holds (tile_at ts i) l x y
holder-holds [] l x y i e = some_apart None i refl e
holder-holds (t ∷ ts) l x y i e =
    elim (cases_Bool (in_tile t l x y)) [
      | inl h ↦
          let z : i ≡ 0 = first_some i (ap (λ b. cond b (Some 0) (option_map suc (holder ts l x y))) (sym h) ∙ e) in
          subst (λ n. Holds (tile_at (t ∷ ts) n) l x y) (sym z) ((holds_decides t l x y).0 h)
      | inr h ↦
          let p = shift_some (holder ts l x y) i (ap (λ b. cond b (Some 0) (option_map suc (holder ts l x y))) (sym h) ∙ e) in
          subst (λ n. Holds (tile_at (t ∷ ts) n) l x y) (sym p.2) (holder-holds ts l x y p.0 p.1)
    ]
  where
    first_some : (i : ℕ) → Some 0 ≡ Some i → i ≡ 0
    first_some i e = cc

holder-some : (ts : List Tile) (l x y : ℕ) → held ts l x y ≡ true → (i : ℕ) × (holder ts l x y ≡ Some i)
holder-some [] l x y h = absurd (false≢true h)
holder-some (t ∷ ts) l x y h =
    elim (cases_Bool (in_tile t l x y)) [
      | inl e ↦ (0, ap (λ b. cond b (Some 0) (option_map suc (holder ts l x y))) e)
      | inr e ↦
          let p = holder-some ts l x y (subst (λ b. b ≡ true) (rest (in_tile t l x y) (held ts l x y) e) h) in
          (suc p.0, ap (λ b. cond b (Some 0) (option_map suc (holder ts l x y))) e ∙ ap (option_map suc) p.1)
    ]
  where
    rest : (a b : Bool) → a ≡ false → (a || b) ≡ b
    rest true b e = absurd (both_ways true e refl)
    rest false b e = refl

cases_option : (o : Option ℕ) → (o ≡ None) ⊎ ((i : ℕ) × (o ≡ Some i))
cases_option None = inl refl
cases_option (Some i) = inr (i, refl)

-- what a search finds is it
pub located_holder : (ts : List Tile) → Ordered ts → (l x y : ℕ) (r : Option ℕ) → Located ts l x y r → holder ts l x y ≡ r
located_holder ts order l x y None h =
    elim (cases_option (holder ts l x y)) [ inl e ↦ e | inr p ↦ absurd (h p.0 (holder-holds ts l x y p.0 p.1)) ]
located_holder ts order l x y (Some i) h =
    let p = holder-some ts l x y (place-held ts i l x y h) in
    p.1 ∙ ap Some (one-holder ts order p.0 i l x y (holder-holds ts l x y p.0 p.1) h)

-- numbers by groups are numbers by nets

module _ (k : Technology) (d : Drawing) (ts : List Tile) (tiled : Tiled (wire k d) ts) (f : ℕ → ℕ) (named : Named k d ts f) (spots : List ℕ) where
  spot-has : (i a : ℕ) → tile_of_spot ts spots i ≡ Some a → Has ts a (spot_at spots i)
  unfolding spot_at
  spot-has i a e = holder-holds ts _ _ _ a e

  spot-some : (i : ℕ) → on (wire k d) (spot_at spots i) ≡ true → (a : ℕ) × (tile_of_spot ts spots i ≡ Some a)
  unfolding spot_at on
  spot-some i h = holder-some ts _ _ _ (tiled.holds _ _ _ ∙ h)

  pub counted : (m : ℕ) (ns : List ℕ) → Numbered f (tile_of_spot ts spots) m ns → Counted k d spots m ns
  counted m ns all = record {
    off = λ i h w. elim (cases_option (tile_of_spot ts spots i)) [
      | inl e ↦ all.none i h e
      | inr p ↦ absurd (both_ways _ w (has-wire k d ts tiled p.0 (spot_at spots i) (spot-has i p.0 p.1)))
    ];
    wired = λ i h w.
        let a = spot-some i w in
        elim (all.some i a.0 h a.1) [
          | inl e ↦ inl (e.place, e.before, named.apart e.what a.0 (spot_at spots e.place) (spot_at spots i) (spot-has e.place e.what e.here) (spot-has i a.0 a.1) e.same, sym e.number)
          | inr e ↦ inr (
            λ j l v.
                let b = spot-some j (way-starts k d (spot_at spots j) (spot_at spots i) v) in
                e.0 j b.0 l b.1 (named.same b.0 a.0 (spot_at spots j) (spot_at spots i) (spot-has j b.0 b.1) (spot-has i a.0 a.1) v),
            e.1,
          )
        ];
  }
