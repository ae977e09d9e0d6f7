-- Boxes written out, and what they cover. Assumes nothing: these are definitions.
use Rattle.std.specs.Prelude.{ℕ, zero, suc, ◌+◌, ◌-◌, ◌*◌, ◌≤◌, min, false, ◌&&◌, ◌||◌, List, [], ◌∷◌, ◌++◌, map, ◌==◌, nat_le, nat_lt}
use Rattle.layout.specs.Layout.{Layout, nothing, box, both, moved, turned, mirrored, row, column, cell, Drawing}
use Rattle.layout.specs.declared.rect.Rect.{Rect}

-- whether a square of a layer is in a box
unfoldable pub in_rect : Rect → Drawing
in_rect q l x y = l == q.layer && (nat_le q.x x && (nat_lt x (q.x + q.across) && (nat_le q.y y && nat_lt y (q.y + q.down))))

unfoldable pub covered : List Rect → Drawing
covered [] l x y = false
covered (q ∷ qs) l x y = in_rect q l x y || covered qs l x y

-- a box moved; turned a quarter within a side, what lies beyond it cut off; mirrored in it
abbrev pub move_rect : (right below : ℕ) → Rect → Rect
move_rect r b q = record { layer = q.layer; x = q.x + r; y = q.y + b; across = q.across; down = q.down }

abbrev pub turn_rect : (side : ℕ) → Rect → Rect
turn_rect s q = record { layer = q.layer; x = s - (q.y + q.down); y = q.x; across = (s - q.y) - (s - (q.y + q.down)); down = min (q.x + q.across) s - q.x }

abbrev pub mirror_rect : (side : ℕ) → Rect → Rect
mirror_rect s q = record { layer = q.layer; x = s - (q.x + q.across); y = q.y; across = (s - q.x) - (s - (q.x + q.across)); down = q.down }

-- so many copies, each so far to the right and below of the one before
unfoldable pub copies : (many right below : ℕ) → List Rect → List Rect
copies zero r b qs = []
copies (suc n) r b qs = copies n r b qs ++ map (move_rect (n * r) (n * b)) qs

-- a layout as boxes
unfoldable pub rects : Layout → List Rect
rects nothing = []
rects (box m u v a d) = record { layer = m; x = u; y = v; across = a; down = d } ∷ []
rects (both a b) = rects a ++ rects b
rects (moved r b a) = map (move_rect r b) (rects a)
rects (turned s a) = map (turn_rect s) (rects a)
rects (mirrored s a) = map (mirror_rect s) (rects a)
rects (row n f a) = copies n f 0 (rects a)
rects (column n f a) = copies n 0 f (rects a)
rects (cell k) = []

-- how far a box reaches
abbrev pub Within : ℕ → Rect → Type 0
Within m q = (q.x + q.across ≤ m) × (q.y + q.down ≤ m)
