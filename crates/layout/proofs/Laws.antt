-- The laws of layouts. Assumes nothing.
use Rattle.std.proofs.Common.{◌≡◌, ℕ, ◌+◌, ◌-◌, ◌<◌, arith}
use Rattle.std.proofs.lemmas.Bool.Decides.{nat_tests}
use Rattle.std.proofs.lemmas.Bool.{lt-ltb}
use Rattle.layout.specs.Layout.{Layout, box, moved, turned, mirrored, Drawing, shifted, drawn_with}

pub box-moved : (c : ℕ → Drawing) (r b l u v a h k x y : ℕ) → drawn_with c (moved r b (box l u v a h)) k x y ≡ drawn_with c (box l (u + r) (v + b) a h) k x y
unfolding drawn_with shifted
box-moved c r b l u v a h k x y = grind (arith, nat_tests)

pub quarters : (c : ℕ → Drawing) (s : ℕ) (a : Layout) (l x y : ℕ) → x < s → y < s → drawn_with c (turned s (turned s (turned s (turned s a)))) l x y ≡ drawn_with c a l x y
unfolding drawn_with
quarters c s a l x y p q =
    let ex : s - 1 - (s - 1 - x) ≡ x = omega arith in
    let ey : s - 1 - (s - 1 - y) ≡ y = omega arith in
    simp (ex, ey, lt-ltb x s p, lt-ltb y s q, lt-ltb (s - 1 - x) s (omega arith), lt-ltb (s - 1 - y) s (omega arith))

pub mirror_twice : (c : ℕ → Drawing) (s : ℕ) (a : Layout) (l x y : ℕ) → x < s → drawn_with c (mirrored s (mirrored s a)) l x y ≡ drawn_with c a l x y
unfolding drawn_with
mirror_twice c s a l x y p =
    let ex : s - 1 - (s - 1 - x) ≡ x = omega arith in
    simp (ex, lt-ltb x s p, lt-ltb (s - 1 - x) s (omega arith))
