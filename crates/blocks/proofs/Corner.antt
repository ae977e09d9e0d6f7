-- Square blocks within a set of squares, and free of it. Assumes nothing.
use Rattle.std.proofs.Common.{◌≡◌, ℕ, suc, ◌+◌, ◌-◌, ◌*◌, ◌^◌, ◌<◌, ◌≤◌, true, false, not, sym, ◌∙◌, inl, inr, arith}
use Rattle.std.proofs.lemmas.Bool.{cases_Bool, both_ways, not-true, not_from_false, le-leb, and_parts, leb-true}
use Rattle.region.specs.Firsts.{Squares}
use Rattle.blocks.specs.Blocks.{block, in_a_block, drawn_in, free_block}
use Rattle.blocks.specs.Settled.{Settled, Dilated, Exactly, Corners}
use Rattle.blocks.proofs.Counts.{tell_same, block_all, all_block, around, in_block}
use Rattle.blocks.proofs.Dilations.{settled_dilated, settled_not, settled_back}

-- a square of `out` reaches p + n, q + n exactly if the block at p, q is not all in s
pub corner : (m n : ℕ) (s out w ends r : Squares) → Settled m s → ((x y : ℕ) → out x y ≡ not (s x y)) → Dilated n out w → ((x y : ℕ) → ends x y ≡ not (w x y)) → ((x y : ℕ) → r x y ≡ ends (x + n) (y + n)) → Corners m n s r
corner m n s out w ends r k o d e b = record {
  holds = λ x y. tell_same (r x y) (block (suc n) s x y)
      (λ t.
      let f : w (x + n) (y + n) ≡ false = not-true _ (sym (b x y ∙ e (x + n) (y + n)) ∙ t) in
      all_block (suc n) s x y (λ u v i j g h. elim (cases_Bool (s u v)) [
        | inl q ↦ q
        | inr q ↦ absurd (both_ways _ f ((d.holds (x + n) (y + n)).1 (record { u = u; v = v; left = omega arith; right = omega arith; above = omega arith; below = omega arith; is = o u v ∙ not_from_false _ q })))
      ]))
      (λ t. b x y ∙ e (x + n) (y + n) ∙ not_from_false _ (elim (cases_Bool (w (x + n) (y + n))) [
        | inr q ↦ q
        | inl q ↦
            let a = (d.holds (x + n) (y + n)).0 q in
            let i = a.left in let j = a.right in let g = a.above in let h = a.below in
            absurd (both_ways _ (not-true _ (sym (o a.u a.v) ∙ a.is)) (block_all (suc n) s x y t a.u a.v (omega arith) (omega arith) (omega arith) (omega arith)))
      ]));
  settles = settled_back m n ends r (settled_not (m + n) w ends (settled_dilated n m out w (settled_not m s out k o) d) e) b;
}

pub opened : (n : ℕ) (s c r : Squares) → ((m : ℕ) → m + n < 2 ^ 64 → Settled m s → Corners m n s c) → ((m : ℕ) → m + n < 2 ^ 64 → Settled m c → Dilated n c r) → Exactly (2 * suc n) s (in_a_block (suc n) s) r
opened n s c r h g = record {
  holds = λ m f k x y.
      let q = h m (omega arith) k in
      let d = (g m (omega arith) q.settles).holds x y in
      tell_same (r x y) (in_a_block (suc n) s x y)
      (λ t. let b = d.0 t in let i = b.left in let j = b.right in let o = b.above in let p = b.below in
      in_block (suc n) s x y b.u b.v (omega arith) (omega arith) (omega arith) (omega arith) (sym (q.holds b.u b.v) ∙ b.is))
      (λ t. let w = around (suc n) s x y t in
      d.1 (record { u = w.0; v = w.1; left = w.2; right = omega (arith, w.3); above = w.4; below = omega (arith, w.5); is = q.holds w.0 w.1 ∙ w.6 }));
}

-- drawn further in: a square there is one of s
drawn_is : (n : ℕ) (s : Squares) (u v : ℕ) → drawn_in n s (u + n) (v + n) ≡ s u v
unfolding drawn_in
drawn_is n s u v =
    let e : u + n - n ≡ u = omega arith in
    let f : v + n - n ≡ v = omega arith in
    rw (le-leb n (u + n) (omega arith), le-leb n (v + n) (omega arith), e, f)

drawn_from : (n : ℕ) (s : Squares) (u v : ℕ) → drawn_in n s u v ≡ true → (n ≤ u) × (n ≤ v) × (s (u - n) (v - n) ≡ true)
unfolding drawn_in
drawn_from n s u v h =
    let p = and_parts _ _ h in
    let q = and_parts _ _ p.1 in
    (leb-true _ _ p.0, leb-true _ _ q.0, q.1)

-- the block that ends at a square of `ends` is free of s; the blocks around x, y end at most n further
pub freed : (n : ℕ) (s w ends o r : Squares) → ((m : ℕ) → m + n < 2 ^ 64 → Settled m s → Dilated n s w) → ((x y : ℕ) → ends x y ≡ not (w x y)) → ((m : ℕ) → m + n < 2 ^ 64 → Settled m ends → Dilated n ends o) → ((x y : ℕ) → r x y ≡ o (x + n) (y + n)) → Exactly (2 * suc n) s (free_block (suc n) s) r
unfolding free_block
freed n s w ends o r h e g b = record {
  holds = λ m f k x y.
      let dw = h m (omega arith) k in
      let se = settled_not (m + n) w ends (settled_dilated n m s w k dw) e in
      let d = (g (m + n) (omega arith) se).holds (x + n) (y + n) in
      tell_same (r x y) (in_a_block (suc n) (λ u v. not (drawn_in (suc n) s u v)) (x + suc n) (y + suc n))
      (λ t.
      let a = d.0 (sym (b x y) ∙ t) in
      let i = a.left in let j = a.right in let p = a.above in let q = a.below in
      let z : w a.u a.v ≡ false = not-true _ (sym (e a.u a.v) ∙ a.is) in
      in_block (suc n) _ (x + suc n) (y + suc n) (suc a.u) (suc a.v) (omega arith) (omega arith) (omega arith) (omega arith)
      (all_block (suc n) _ (suc a.u) (suc a.v) (λ u v ii jj pp qq. not_from_false _ (elim (cases_Bool (drawn_in (suc n) s u v)) [
        | inr y ↦ y
        | inl y ↦
            let c = drawn_from (suc n) s u v y in
            absurd (both_ways _ z ((dw.holds a.u a.v).1 (record { u = u - suc n; v = v - suc n; left = omega (arith, c.0); right = omega (arith, c.0); above = omega (arith, c.1); below = omega (arith, c.1); is = c.2 })))
      ]))))
      (λ t.
      let c = around (suc n) _ (x + suc n) (y + suc n) t in
      let i = c.2 in let j = c.3 in let p = c.4 in let q = c.5 in
      b x y ∙ d.1 (record {
        u = c.0 - 1;
        v = c.1 - 1;
        left = omega arith;
        right = omega arith;
        above = omega arith;
        below = omega arith;
        is = e (c.0 - 1) (c.1 - 1) ∙ not_from_false _ (elim (cases_Bool (w (c.0 - 1) (c.1 - 1))) [
          | inr z ↦ z
          | inl z ↦
              let a = (dw.holds (c.0 - 1) (c.1 - 1)).0 z in
              let ii = a.left in let jj = a.right in let pp = a.above in let qq = a.below in
              absurd (both_ways _ (not-true _ (block_all (suc n) _ c.0 c.1 c.6 (a.u + suc n) (a.v + suc n) (omega arith) (omega arith) (omega arith) (omega arith))) (drawn_is (suc n) s a.u a.v ∙ a.is))
        ]);
      }));
}
