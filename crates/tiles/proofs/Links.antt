-- The walk of two indices over the tiles, which meets every pair that shares a side.
use Rattle.std.proofs.Common.{◌≡◌, ℕ, ◌+◌, ◌<◌, ◌≤◌, ◌⊎◌, List, length, sym, ◌∙◌, subst, inl, inr, arith}
use Rattle.std.proofs.lemmas.List.{get_or_past}
use Rattle.std.proofs.lemmas.Bool.{cases_lt, cases_order}
use Rattle.groups.specs.Names.{Joined}
use Rattle.groups.specs.Chains.{Chain, start, on, Grouped}
use Rattle.groups.proofs.Chains.{joined-chained, grouped}
use Rattle.tiles.specs.declared.tile.Tile.{Tile}
use Rattle.tiles.specs.Tiles.{none, tile_at, Solid, Before, Ordered}
use Rattle.tiles.specs.Links.{Meets, Touch, Ends}
use Rattle.tiles.proofs.Tiles.{solid-at, before}

-- names go by chains, and every pair that meets has one name, but those from i and from j on
pub record Walked (ts : List Tile) (i j : ℕ) (f : ℕ → ℕ) : Type 0 where
  pub chained : (a b : ℕ) → f a ≡ f b → Chain (Touch ts) a b
  pub done : (a b : ℕ) → Touch ts a b → (a < i) ⊎ (b < j) → f a ≡ f b

-- two tiles of which one ends first, and a third after one of them
module _ (a b c : Tile) (sa : Solid a) (sb : Solid b) (sc : Solid c) where
  past-lower : Ends a b → Before b c → Meets a c → ⊥
  past-lower (inl e) (inl f) m = omega arith
  past-lower (inl e) (inr (f, inl g)) m = omega arith
  past-lower (inl e) (inr (f, inr g)) m = omega arith
  past-lower (inr (d, inl e)) (inl f) m = omega arith
  past-lower (inr (d, inl e)) (inr (f, inl g)) m = omega arith
  past-lower (inr (d, inl e)) (inr (f, inr g)) m = omega arith
  past-lower (inr (d, inr e)) (inl f) m = omega arith
  past-lower (inr (d, inr e)) (inr (f, inl g)) m = omega arith
  past-lower (inr (d, inr e)) (inr (f, inr g)) m = omega arith

-- b does not end before a: nothing after a meets b
module _ (a b c : Tile) (sa : Solid a) (sb : Solid b) (sc : Solid c) where
  ends-not : (Ends a b → ⊥) → (b.layer ≤ a.layer) × ((a.layer ≡ b.layer) → (b.top ≤ a.bottom) × ((a.bottom ≡ b.top) → b.right < a.right))
  ends-not n = (
    elim (cases_lt a.layer b.layer) [ inl l ↦ absurd (n (inl l)) | inr g ↦ g ],
    λ e. (
      elim (cases_lt a.bottom b.top) [ inl l ↦ absurd (n (inr (e, inl l))) | inr g ↦ g ],
      λ f. elim (cases_lt b.right a.right) [ inl l ↦ l | inr g ↦ absurd (n (inr (e, inr (f, g)))) ],
    ),
  )

  past-upper : (Ends a b → ⊥) → Before a c → Meets c b → ⊥
  past-upper n (inl f) m = omega (arith, (ends-not n).0)
  past-upper n (inr (f, inl g)) m = omega (arith, ((ends-not n).1 (f ∙ m.level)).0)
  past-upper n (inr (f, inr g)) m = omega (arith, ((ends-not n).1 (f ∙ m.level)).1 (g.1 ∙ m.row))

module _ (ts : List Tile) (order : Ordered ts) where
  touch-upper : (a b : ℕ) → Touch ts a b → a < length ts
  touch-upper a b t =
      elim (cases_lt a (length ts)) [
        | inl k ↦ k
        | inr g ↦ let n : Meets none (tile_at ts b) = subst (λ u. Meets u (tile_at ts b)) (get_or_past ts a none g) t in absurd (omega arith)
      ]

  touch-lower : (a b : ℕ) → Touch ts a b → b < length ts
  touch-lower a b t =
      elim (cases_lt b (length ts)) [
        | inl k ↦ k
        | inr g ↦ let n : Meets (tile_at ts a) none = subst (λ u. Meets (tile_at ts a) u) (get_or_past ts b none g) t in absurd (omega arith)
      ]

  pub walked_none : (f : ℕ → ℕ) → ((a : ℕ) → f a ≡ a) → Walked ts 0 0 f
  walked_none f own = record {
    chained = λ a b e. let h : a ≡ b = sym (own a) ∙ (e ∙ own b) in rw (← h) start;
    done = λ a b t o. elim o [ inl l ↦ absurd (omega arith) | inr l ↦ absurd (omega arith) ];
  }

  module _ (i j : ℕ) where
    pub walked-joined : (f g : ℕ → ℕ) → Touch ts i j → Joined f g i j → Walked ts i j f → Walked ts i j g
    walked-joined f g t new old = record {
      chained = joined-chained (Touch ts) f g i j new (on i j start t) old.chained;
      done = λ a b s o. new.keeps a b (old.done a b s o);
    }

    module _ (f : ℕ → ℕ) (hi : i < length ts) (hj : j < length ts) (here : Touch ts i j → f i ≡ f j) (old : Walked ts i j f) where
      pub walked-upper : Ends (tile_at ts i) (tile_at ts j) → Walked ts (i + 1) j f
      walked-upper ends = record { chained = old.chained; done = λ a b t o. elim o [ inl l ↦ at a b t (cases_order a i) l | inr l ↦ old.done a b t (inr l) ] }
        where
          row : (b : ℕ) → Touch ts i b → (j ≡ b) ⊎ ((j < b) ⊎ (b < j)) → f i ≡ f b
          row b t (inl e) = subst (λ k. f i ≡ f k) e (here (subst (λ k. Touch ts i k) (sym e) t))
          row b t (inr (inl l)) =
              let hb = touch-lower i b t in
              absurd (past-lower _ _ _ (solid-at ts order i hi) (solid-at ts order j hj) (solid-at ts order b hb) ends (before ts order j b l hb) t)
          row b t (inr (inr g)) = old.done i b t (inr g)

          at : (a b : ℕ) → Touch ts a b → (a ≡ i) ⊎ ((a < i) ⊎ (i < a)) → a < i + 1 → f a ≡ f b
          at a b t (inl e) l = subst (λ k. f k ≡ f b) (sym e) (row b (subst (λ k. Touch ts k b) e t) (cases_order j b))
          at a b t (inr (inl k)) l = old.done a b t (inl k)
          at a b t (inr (inr k)) l = absurd (omega arith)

      pub walked-lower : (Ends (tile_at ts i) (tile_at ts j) → ⊥) → Walked ts i (j + 1) f
      walked-lower ends = record { chained = old.chained; done = λ a b t o. elim o [ inl l ↦ old.done a b t (inl l) | inr l ↦ at a b t (cases_order b j) l ] }
        where
          column : (a : ℕ) → Touch ts a j → (i ≡ a) ⊎ ((i < a) ⊎ (a < i)) → f a ≡ f j
          column a t (inl e) = subst (λ k. f k ≡ f j) e (here (subst (λ k. Touch ts k j) (sym e) t))
          column a t (inr (inl l)) =
              let ha = touch-upper a j t in
              absurd (past-upper _ _ _ (solid-at ts order i hi) (solid-at ts order j hj) (solid-at ts order a ha) ends (before ts order i a l ha) t)
          column a t (inr (inr g)) = old.done a j t (inl g)

          at : (a b : ℕ) → Touch ts a b → (b ≡ j) ⊎ ((b < j) ⊎ (j < b)) → b < j + 1 → f a ≡ f b
          at a b t (inl e) l = subst (λ k. f a ≡ f k) (sym e) (column a (subst (λ k. Touch ts a k) e t) (cases_order i a))
          at a b t (inr (inl k)) l = old.done a b t (inr k)
          at a b t (inr (inr k)) l = absurd (omega arith)

    pub walked_all : (f : ℕ → ℕ) → (length ts ≤ i) ⊎ (length ts ≤ j) → Walked ts i j f → Grouped (Touch ts) f
    walked_all f past old = grouped (Touch ts) f old.chained (λ a b t. elim past [
      | inl l ↦ old.done a b t (inl (omega (arith, touch-upper a b t)))
      | inr l ↦ old.done a b t (inr (omega (arith, touch-lower a b t)))
    ])
