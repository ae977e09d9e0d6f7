-- Widening by doubling, and widening backward. Assumes nothing.
use Rattle.std.proofs.Common.{◌≡◌, ℕ, ◌+◌, ◌-◌, ◌≤◌, Bool, true, ◌&&◌, ◌||◌, leb, List, Decides, sym, ap, ◌∙◌, subst, inl, inr, ⊎_elim, arith}
use native.Mathlib.Nat.{sub-zero}
use Rattle.std.proofs.lemmas.Bool.{cases_lt, cases_Bool, le-leb, leb-true, both_ways, and_parts, and_from, or_cases, or_left, or_right}
use Rattle.scanline.specs.declared.Op.TheVariants.{Or}
use Rattle.scanline.specs.Lines.{Near}
use Rattle.scanline.specs.declared.band.Band.{Band}
use Rattle.scanline.specs.Bands.{covers}
use Rattle.region.specs.Regions.{Combined}
use Rattle.region.specs.Shifts.{RowRoom, ShiftedDown, ShiftedLeft, ShiftedUp, Ahead, WidenedDown, WidenedRight, WidenedLeft, WidenedUp}

pub decides_same : (b c : Bool) (P Q : Type 0) → Decides b P → Decides c Q → (P → Q) → (Q → P) → b ≡ c
decides_same b c P Q d e f g = elim (cases_Bool b) [ inl t ↦ t ∙ sym (e.1 (f (d.0 t))) | inr n ↦ elim (cases_Bool c) [ inl t ↦ absurd (both_ways b n (d.1 (g (e.0 t)))) | inr m ↦ n ∙ sym m ] ]

-- with less to come there is as much room
abbrev less_room : (n k : ℕ) (a : List Band) → k ≤ n → RowRoom n a → RowRoom k a
less_room n k a l r = record { end = r.end; fits = omega (arith, r.fits); still = r.still }

-- what is widened by k changes no more k rows later
still-wide : (k : ℕ) (a r : List Band) (room : RowRoom k a) → WidenedDown k a r → (x y : ℕ) → room.end + k ≤ y → covers r x y ≡ covers r x (room.end + k)
still-wide k a r room h x y l =
    decides_same (covers r x y) (covers r x (room.end + k)) _ _ (h.holds x y (inr room)) (h.holds x (room.end + k) (inr room))
    (λ w. (room.end, omega arith, omega arith, sym (room.still x w.0 (omega (arith, w.2))) ∙ w.3))
    (λ w. (y, omega arith, omega arith, room.still x y (omega arith) ∙ sym (room.still x w.0 (omega (arith, w.2))) ∙ w.3))

pub double_none : (a r : List Band) → ShiftedDown 0 a r → WidenedDown 0 a r
double_none a r h = record {
  holds = λ x y b.
      let e : covers r x y ≡ covers a x y = h.holds x y b ∙ rw (le-leb 0 y (omega arith), sub-zero y) in (
        λ t. (y, omega arith, omega arith, sym e ∙ t),
        λ w. let s : w.0 ≡ y = omega (arith, w.1, w.2) in e ∙ subst (λ z. covers a x z ≡ true) s w.3,
      );
}

module _ (k s : ℕ) (a r m r' : List Band) (l : s ≤ k + 1) (h : WidenedDown k a r) (g : ShiftedDown s r m) (j : Combined Or r m r') where
  -- the rows y and y - s, where both can be told
  at : (x y : ℕ) → covers m x y ≡ (leb s y && covers r x (y - s)) → Decides (covers r x y) (Near k (λ z. covers a x z) y) → Decides (covers r x (y - s)) (Near k (λ z. covers a x z) (y - s)) → Decides (covers r' x y) (Near (k + s) (λ z. covers a x z) y)
  at x y gy hy hs =
      let e : covers r' x y ≡ (covers r x y || (leb s y && covers r x (y - s))) = j.holds x y ∙ ap (λ v. covers r x y || v) gy in (
        λ t.
            ⊎_elim
            (λ u. let w = hy.0 u in (w.0, w.1, omega (arith, w.2), w.3))
            (λ u.
            let v = and_parts (leb s y) (covers r x (y - s)) u in
            let q = leb-true s y v.0 in
            let w = hs.0 v.1 in
            (w.0, omega (arith, w.1), omega (arith, w.2), w.3))
            (or_cases (covers r x y) (leb s y && covers r x (y - s)) (sym e ∙ t)),
        λ w.
            e
            ∙ ⊎_elim
            (λ q. or_right (covers r x y) (leb s y && covers r x (y - s)) (and_from (leb s y) _ (le-leb s y (omega arith)) (hs.1 (w.0, omega arith, omega (arith, w.2), w.3))))
            (λ q. or_left (covers r x y) _ (hy.1 (w.0, w.1, q, w.3)))
            (cases_lt (w.0 + k) y),
      )

  pub double-more : WidenedDown (k + s) a r'
  double-more = record {
    holds = λ x y room. elim room [
      | inl b ↦ at x y (g.holds x y (inl b)) (h.holds x y (inl b)) (h.holds x (y - s) (inl (omega arith)))
      | inr q ↦
          let p = less_room (k + s) k a (omega arith) q in
          let after : RowRoom s r = record { end = q.end + k; fits = omega (arith, q.fits); still = still-wide k a r p h } in
          at x y (g.holds x y (inr after)) (h.holds x y (inr p)) (h.holds x (y - s) (inr p))
    ];
  }

-- widened backward: forward, and then moved back
ahead : (n : ℕ) (A : ℕ → Bool) (x : ℕ) → Near n A (x + n) → Ahead n A x
ahead n A x w = (w.0, omega (arith, w.2), w.1, w.3)

behind : (n : ℕ) (A : ℕ → Bool) (x : ℕ) → Ahead n A x → Near n A (x + n)
behind n A x w = (w.0, w.2, omega (arith, w.1), w.3)

pub back-left : (n : ℕ) (a w r : List Band) → WidenedRight n a w → ShiftedLeft n w r → WidenedLeft n a r
back-left n a w r h g = record {
  holds = λ x y room.
      let d = h.holds (x + n) y room in
      (λ t. ahead n (λ z. covers a z y) x (d.0 (sym (g.holds x y) ∙ t)), λ p. g.holds x y ∙ d.1 (behind n (λ z. covers a z y) x p));
}

pub back-up : (n : ℕ) (a w r : List Band) → WidenedDown n a w → ShiftedUp n w r → WidenedUp n a r
back-up n a w r h g = record {
  holds = λ x y room.
      let d = h.holds x (y + n) room in
      (λ t. ahead n (λ z. covers a x z) y (d.0 (sym (g.holds x y) ∙ t)), λ p. g.holds x y ∙ d.1 (behind n (λ z. covers a x z) y p));
}
