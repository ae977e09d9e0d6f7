-- Ways lead back and on, move with what is drawn, and reach all of a box of wire.
use Rattle.std.proofs.Common.{◌≡◌, ℕ, zero, suc, ◌+◌, ◌-◌, ◌<◌, ◌≤◌, true, ◌⊎◌, sym, ap, ◌∙◌, subst, inl, inr, arith}
use Rattle.std.proofs.lemmas.Bool.{cases_eq, le-leb}
use Rattle.layout.specs.Layout.{Drawing, shifted}
use Rattle.nets.specs.Nets.{Technology, wire, Spot, on, Beside, right, left, below, above, Way, stays, along, through, moved_spot}
use Rattle.nets.specs.Laws.{WaysMove, WaysBack, WaysOn}

pub beside_back : (a b : Spot) → Beside a b → Beside b a
beside_back a b (right l x y) = left l x y
beside_back a b (left l x y) = right l x y
beside_back a b (below l x y) = above l x y
beside_back a b (above l x y) = below l x y

-- b and c are at one square, and a layer that joins theirs is covered there
pub record Through (k : Technology) (d : Drawing) (b c : Spot) : Type 0 where
  pub by : ℕ
  pub across : b.x ≡ c.x
  pub down : b.y ≡ c.y
  pub joins : (k.joins by b.layer c.layer ≡ true) ⊎ (k.joins by c.layer b.layer ≡ true)
  pub covered : d by b.x b.y ≡ true

swap : {A B : Type 0} → A ⊎ B → B ⊎ A
swap (inl a) = inr a
swap (inr b) = inl b

pub through-back : (k : Technology) (d : Drawing) (b c : Spot) → Through k d b c → Through k d c b
through-back k d b c t = record { by = t.by; across = sym t.across; down = sym t.down; joins = swap t.joins; covered = rw (← t.across, ← t.down) t.covered }

module _ (k : Technology) (d : Drawing) where
  pub way-starts : (a b : Spot) → Way k d a b → on (wire k d) a ≡ true
  way-starts a b (stays h) = h
  way-starts a b (along c e w s h) = way-starts a c w
  way-starts a b (through c e j w p q r s h) = way-starts a c w

  pub way-ends : (a b : Spot) → Way k d a b → on (wire k d) b ≡ true
  way-ends a b (stays h) = h
  way-ends a b (along c e w s h) = h
  way-ends a b (through c e j w p q r s h) = h

  pub way-through : (a b c : Spot) → Way k d a b → Through k d b c → on (wire k d) c ≡ true → Way k d a c
  way-through a b c w t h = through b c t.by w t.across t.down t.joins t.covered h

pub ways_on : WaysOn
ways_on k d a b c v (stays h) = v
ways_on k d a b c v (along e f w s h) = along e f (ways_on k d a b e v w) s h
ways_on k d a b c v (through e f j w p q r s h) = through e f j (ways_on k d a b e v w) p q r s h

pub ways_back : WaysBack
ways_back k d a b (stays h) = stays h
ways_back k d a b (along c e w s h) = ways_on k d b c a (along b c (stays h) (beside_back c b s) (way-ends k d a c w)) (ways_back k d a c w)
ways_back k d a b (through c e j w p q r s h) =
    ways_on k d b c a (way-through k d b b c (stays h) (through-back k d c b (record { by = j; across = p; down = q; joins = r; covered = s })) (way-ends k d a c w)) (ways_back k d a c w)

-- what is moved

module _ (r b : ℕ) where
  shifted_at : (d : Drawing) (l x y : ℕ) → shifted r b d l (x + r) (y + b) ≡ d l x y
  unfolding shifted
  shifted_at d l x y =
      let p : x + r - r ≡ x = omega arith in
      let q : y + b - b ≡ y = omega arith in
      rw (le-leb r (x + r) (omega arith), le-leb b (y + b) (omega arith), p, q)

  on-moved : (k : Technology) (d : Drawing) (s : Spot) → on (wire k (shifted r b d)) (moved_spot r b s) ≡ on (wire k d) s
  unfolding on wire moved_spot
  on-moved k d s = rw (shifted_at d s.layer s.x s.y, shifted_at d k.gate s.x s.y)

  beside-moved : (s t : Spot) → Beside s t → Beside (moved_spot r b s) (moved_spot r b t)
  unfolding moved_spot
  beside-moved s t (right l x y) = let e : suc x + r ≡ suc (x + r) = omega arith in rw e (right l (x + r) (y + b))
  beside-moved s t (left l x y) = let e : suc x + r ≡ suc (x + r) = omega arith in rw e (left l (x + r) (y + b))
  beside-moved s t (below l x y) = let e : suc y + b ≡ suc (y + b) = omega arith in rw e (below l (x + r) (y + b))
  beside-moved s t (above l x y) = let e : suc y + b ≡ suc (y + b) = omega arith in rw e (above l (x + r) (y + b))

pub ways_move : WaysMove
unfolding moved_spot
ways_move k d r b s t (stays h) = stays (on-moved r b k d s ∙ h)
ways_move k d r b s t (along u v w n h) = along _ _ (ways_move k d r b s u w) (beside-moved r b u t n) (on-moved r b k d t ∙ h)
ways_move k d r b s t (through u v j w p q m c h) =
    through _ _ j (ways_move k d r b s u w) (ap (λ n. n + r) p) (ap (λ n. n + b) q) m (shifted_at r b d j u.x u.y ∙ c) (on-moved r b k d t ∙ h)

-- along a row and a column of wire

module _ (k : Technology) (d : Drawing) (l : ℕ) where
  abbrev at : ℕ → ℕ → Spot
  at x y = record { layer = l; x = x; y = y }

  abbrev Wire : ℕ → ℕ → Type 0
  Wire x y = on (wire k d) (at x y) ≡ true

  row-way : (x y z : ℕ) → x ≤ z → ((v : ℕ) → x ≤ v → v ≤ z → Wire v y) → Way k d (at x y) (at z y)
  row-way x y zero h w = let e : x ≡ 0 = omega arith in subst (λ v. Way k d (at v y) (at 0 y)) (sym e) (stays (w 0 h (omega arith)))
  row-way x y (suc z) h w =
      elim (cases_eq x (suc z)) [
        | inl e ↦ subst (λ v. Way k d (at v y) (at (suc z) y)) (sym e) (stays (w (suc z) h (omega arith)))
        | inr ne ↦ along _ _ (row-way x y z (omega arith) (λ v m n. w v m (omega arith))) (right l z y) (w (suc z) h (omega arith))
      ]

  column-way : (x y z : ℕ) → y ≤ z → ((v : ℕ) → y ≤ v → v ≤ z → Wire x v) → Way k d (at x y) (at x z)
  column-way x y zero h w = let e : y ≡ 0 = omega arith in subst (λ v. Way k d (at x v) (at x 0)) (sym e) (stays (w 0 h (omega arith)))
  column-way x y (suc z) h w =
      elim (cases_eq y (suc z)) [
        | inl e ↦ subst (λ v. Way k d (at x v) (at x (suc z))) (sym e) (stays (w (suc z) h (omega arith)))
        | inr ne ↦ along _ _ (column-way x y z (omega arith) (λ v m n. w v m (omega arith))) (below l x z) (w (suc z) h (omega arith))
      ]

  -- from the first square of a box of wire to any other
  pub corner-way :
      (u v r b : ℕ) → ((x y : ℕ) → u ≤ x → x < r → v ≤ y → y < b → Wire x y) →
      (x y : ℕ) → u ≤ x → x < r → v ≤ y → y < b → Way k d (at u v) (at x y)
  corner-way u v r b w x y g h m n =
      ways_on k d (at u v) (at u y) (at x y)
      (column-way u v y m (λ z p q. w u z (omega arith) (omega arith) p (omega arith)))
      (row-way u y x g (λ z p q. w z y p (omega arith) m n))
