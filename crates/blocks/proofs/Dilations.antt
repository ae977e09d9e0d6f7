-- Sets of squares dilated, and moved back. Assumes nothing.
use Rattle.std.proofs.Common.{◌≡◌, ℕ, ◌+◌, ◌*◌, ◌^◌, ◌<◌, ◌≤◌, not, List, Decides, sym, ap, ◌∙◌, inr, arith}
use Rattle.scanline.specs.declared.band.Band.{Band}
use Rattle.scanline.specs.Lines.{Near, Room}
use Rattle.scanline.specs.Bands.{covers}
use Rattle.region.specs.Firsts.{Squares}
use Rattle.region.specs.Shifts.{RowRoom, WidenedRight, WidenedDown}
use Rattle.blocks.specs.Blocks.{near}
use Rattle.blocks.specs.Settled.{Settled, Dilated, Exactly}
use Rattle.blocks.proofs.Counts.{tell_same, near-some, some_near}

-- to the right, and then down
pub dilated : (n : ℕ) (a w r : List Band) → WidenedRight n a w → WidenedDown n w r → (m : ℕ) → m + n < 2 ^ 64 → Settled m (covers a) → Dilated n (covers a) (covers r)
dilated n a w r h g m f s = record {
  holds = λ x y.
      let d = g.holds x y (inr rows) in (
        λ t.
            let p = d.0 t in
            let q = (right x p.0).0 p.3 in
            record { u = q.0; v = p.0; left = q.1; right = q.2; above = p.1; below = p.2; is = q.3 },
        λ b. d.1 (b.v, b.above, b.below, (right x b.v).1 (b.u, b.left, b.right, b.is)),
      );
}
  where
    room : (y : ℕ) → Room n (λ z. covers a z y)
    room y = record { end = m; fits = f; still = λ x l. s.columns x y l }

    right : (x y : ℕ) → Decides (covers w x y) (Near n (λ z. covers a z y) x)
    right x y = h.holds x y (inr (room y))

    rows : RowRoom n w
    rows = record {
      end = m;
      fits = f;
      still = λ x y l. tell_same (covers w x y) (covers w x m)
          (λ t. let p = (right x y).0 t in (right x m).1 (p.0, p.1, p.2, sym (s.rows p.0 y l) ∙ p.3))
          (λ t. let p = (right x m).0 t in (right x y).1 (p.0, p.1, p.2, s.rows p.0 y l ∙ p.3));
    }

-- what is dilated settles n later
pub settled_dilated : (n m : ℕ) (s r : Squares) → Settled m s → Dilated n s r → Settled (m + n) r
settled_dilated n m s r h d = record {
  columns = λ x y l. tell_same (r x y) (r (m + n) y)
      (λ t. let b = (d.holds x y).0 t in let k = b.right in
      (d.holds (m + n) y).1 (record { u = m; v = b.v; left = omega arith; right = omega arith; above = b.above; below = b.below; is = sym (h.columns b.u b.v (omega arith)) ∙ b.is }))
      (λ t. let b = (d.holds (m + n) y).0 t in let k = b.right in
      (d.holds x y).1 (record { u = x; v = b.v; left = omega arith; right = omega arith; above = b.above; below = b.below; is = h.columns x b.v (omega arith) ∙ sym (h.columns b.u b.v (omega arith)) ∙ b.is }));
  rows = λ x y l. tell_same (r x y) (r x (m + n))
      (λ t. let b = (d.holds x y).0 t in let k = b.below in
      (d.holds x (m + n)).1 (record { u = b.u; v = m; left = b.left; right = b.right; above = omega arith; below = omega arith; is = sym (h.rows b.u b.v (omega arith)) ∙ b.is }))
      (λ t. let b = (d.holds x (m + n)).0 t in let k = b.below in
      (d.holds x y).1 (record { u = b.u; v = y; left = b.left; right = b.right; above = omega arith; below = omega arith; is = h.rows b.u y (omega arith) ∙ sym (h.rows b.u b.v (omega arith)) ∙ b.is }));
}

pub settled_not : (m : ℕ) (s r : Squares) → Settled m s → ((x y : ℕ) → r x y ≡ not (s x y)) → Settled m r
settled_not m s r h e = record {
  columns = λ x y l. e x y ∙ ap not (h.columns x y l) ∙ sym (e m y);
  rows = λ x y l. e x y ∙ ap not (h.rows x y l) ∙ sym (e x m);
}

pub settled_more : (m n : ℕ) (s : Squares) → m ≤ n → Settled m s → Settled n s
settled_more m n s l h = record {
  columns = λ x y k. h.columns x y (omega arith) ∙ sym (h.columns n y l);
  rows = λ x y k. h.rows x y (omega arith) ∙ sym (h.rows x n l);
}

pub settled_back : (m n : ℕ) (s r : Squares) → Settled (m + n) s → ((x y : ℕ) → r x y ≡ s (x + n) (y + n)) → Settled m r
settled_back m n s r h e = record {
  columns = λ x y l. e x y ∙ h.columns (x + n) (y + n) (omega arith) ∙ sym (e m y);
  rows = λ x y l. e x y ∙ h.rows (x + n) (y + n) (omega arith) ∙ sym (e x m);
}

-- grown: dilated by twice as much, and moved back
pub grown : (n : ℕ) (s w r : Squares) → ((m : ℕ) → m + 2 * n < 2 ^ 64 → Settled m s → Dilated (2 * n) s w) → ((x y : ℕ) → r x y ≡ w (x + n) (y + n)) → Exactly (2 * n) s (near n s) r
grown n s w r h e = record {
  holds = λ m f k x y.
      let d = (h m f k).holds (x + n) (y + n) in
      tell_same (r x y) (near n s x y)
      (λ t. let b = d.0 (sym (e x y) ∙ t) in let i = b.left in let j = b.right in let o = b.above in let p = b.below in
      some_near n s x y b.u b.v (omega arith) (omega arith) (omega arith) (omega arith) b.is)
      (λ t. let w = near-some n s x y t in
      e x y ∙ d.1 (record { u = w.0; v = w.1; left = omega (arith, w.2); right = omega (arith, w.3); above = omega (arith, w.4); below = omega (arith, w.5); is = w.6 }));
}
