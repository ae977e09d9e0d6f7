-- What a layout draws lies below some bound.
use Rattle.std.proofs.Common.{◌≡◌, ℕ, zero, suc, ◌+◌, ◌-◌, ◌*◌, ◌<◌, true, false, ◌||◌, eqb, ltb, leb, sym, refl, ◌∙◌, inl, inr, arith}
use Rattle.std.proofs.lemmas.Bool.{and_parts, or_cases, ltb-true, leb-true, eqb-true, false≢true}
use Rattle.layout.specs.Layout.{Layout, nothing, box, both, moved, turned, mirrored, row, column, cell, Drawing, shifted, in_a_row, in_a_column, drawn_with, drawn}

-- layers, columns and rows are below b wherever something is drawn
abbrev pub BelowAll : Drawing → ℕ → Type 0
BelowAll d b = (l x y : ℕ) → d l x y ≡ true → (l < b) × (x < b) × (y < b)

abbrev pub Bound : Drawing → Type 0
Bound d = (b : ℕ) × BelowAll d b

bound_shifted : (r b : ℕ) (d : Drawing) → Bound d → Bound (shifted r b d)
unfolding shifted
bound_shifted r b d h = (
  h.0 + r + b,
  λ l x y e.
      let p = and_parts (leb r x) _ e in
      let q = and_parts (leb b y) _ p.1 in
      let m = leb-true r x p.0 in
      let n = leb-true b y q.0 in
      let u = h.1 l (x - r) (y - b) q.1 in
      (omega arith, omega arith, omega arith),
)

bound_both : (d e : Drawing) → Bound d → Bound e → (f : Drawing) → ((l x y : ℕ) → f l x y ≡ (d l x y || e l x y)) → Bound f
bound_both d e p q f same = (
  p.0 + q.0,
  λ l x y h. elim (or_cases (d l x y) (e l x y) (sym (same l x y) ∙ h)) [
    | inl a ↦ let u = p.1 l x y a in (omega arith, omega arith, omega arith)
    | inr a ↦ let u = q.1 l x y a in (omega arith, omega arith, omega arith)
  ],
)

bound_none : (d : Drawing) → ((l x y : ℕ) → d l x y ≡ false) → Bound d
bound_none d h = (0, λ l x y e. absurd (false≢true (sym (h l x y) ∙ e)))

bound_row : (n far : ℕ) (d : Drawing) → Bound d → Bound (in_a_row n far d)
unfolding in_a_row
bound_row zero far d h = bound_none _ (λ l x y. refl)
bound_row (suc n) far d h = bound_both (shifted (n * far) 0 d) (in_a_row n far d) (bound_shifted (n * far) 0 d h) (bound_row n far d h) _ (λ l x y. refl)

bound_column : (n far : ℕ) (d : Drawing) → Bound d → Bound (in_a_column n far d)
unfolding in_a_column
bound_column zero far d h = bound_none _ (λ l x y. refl)
bound_column (suc n) far d h = bound_both (shifted 0 (n * far) d) (in_a_column n far d) (bound_shifted 0 (n * far) d h) (bound_column n far d h) _ (λ l x y. refl)

bound_with : (c : ℕ → Drawing) → ((k : ℕ) → Bound (c k)) → (a : Layout) → Bound (drawn_with c a)
unfolding drawn_with
bound_with c h nothing = bound_none _ (λ l x y. refl)
bound_with c h (box m u v a e) = (
  suc (m + u + a + v + e),
  λ l x y g.
      let p = and_parts (eqb l m) _ g in
      let q = and_parts (leb u x) _ p.1 in
      let r = and_parts (ltb x (u + a)) _ q.1 in
      let s = and_parts (leb v y) (ltb y (v + e)) r.1 in
      let i = eqb-true l m p.0 in
      let j = ltb-true x (u + a) r.0 in
      let k = ltb-true y (v + e) s.1 in
      (omega arith, omega arith, omega arith),
)
bound_with c h (both a b) = bound_both (drawn_with c a) (drawn_with c b) (bound_with c h a) (bound_with c h b) _ (λ l x y. refl)
bound_with c h (moved r b a) = bound_shifted r b (drawn_with c a) (bound_with c h a)
bound_with c h (turned s a) = let w = bound_with c h a in (
  w.0 + s,
  λ l x y g.
      let p = and_parts (ltb x s) _ g in
      let q = and_parts (ltb y s) _ p.1 in
      let i = ltb-true x s p.0 in
      let j = ltb-true y s q.0 in
      let u = w.1 l y (s - 1 - x) q.1 in
      (omega arith, omega arith, omega arith),
)
bound_with c h (mirrored s a) = let w = bound_with c h a in (
  w.0 + s,
  λ l x y g.
      let p = and_parts (ltb x s) _ g in
      let i = ltb-true x s p.0 in
      let u = w.1 l (s - 1 - x) y p.1 in
      (omega arith, omega arith, omega arith),
)
bound_with c h (row n f a) = bound_row n f (drawn_with c a) (bound_with c h a)
bound_with c h (column n f a) = bound_column n f (drawn_with c a) (bound_with c h a)
bound_with c h (cell k) = h k

pub drawn_bound : (bodies : ℕ → Layout) (n : ℕ) (a : Layout) → Bound (drawn bodies n a)
unfolding drawn
drawn_bound bodies zero a = bound_with (λ k l x y. false) (λ k. bound_none _ (λ l x y. refl)) a
drawn_bound bodies (suc n) a = bound_with (λ k. drawn bodies n (bodies k)) (λ k. drawn_bound bodies n (bodies k)) a
