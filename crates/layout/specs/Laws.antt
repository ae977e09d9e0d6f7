-- Laws of layouts. Assumes nothing: these are statements, and a function's contract names them.
use Rattle.std.specs.Prelude.{◌≡◌, ℕ, ◌+◌, ◌<◌}
use Rattle.layout.specs.Layout.{Layout, box, moved, turned, mirrored, Drawing, drawn_with}

abbrev pub BoxMoved : Type 0
BoxMoved =
    (c : ℕ → Drawing) (r b l u v a h k x y : ℕ) → drawn_with c (moved r b (box l u v a h)) k x y ≡ drawn_with c (box l (u + r) (v + b) a h) k x y

abbrev pub Quarters : Type 0
Quarters =
    (c : ℕ → Drawing) (s : ℕ) (a : Layout) (l x y : ℕ) → x < s → y < s → drawn_with c (turned s (turned s (turned s (turned s a)))) l x y ≡ drawn_with c a l x y

abbrev pub MirrorTwice : Type 0
MirrorTwice = (c : ℕ → Drawing) (s : ℕ) (a : Layout) (l x y : ℕ) → x < s → drawn_with c (mirrored s (mirrored s a)) l x y ≡ drawn_with c a l x y
