-- The ways to change a box. Assumes nothing: these are definitions.
use Rattle.std.specs.Prelude.{◌^◌, ◌≤◌}
use Rattle.layout.specs.Limits.{max_number}
use Rattle.layout.specs.Layout.{Layout, moved, turned, mirrored}
use Rattle.layout.specs.Rects.{move_rect, turn_rect, mirror_rect}
use Rattle.layout.specs.declared.rect.Rect.{Rect}
use Rattle.layout.specs.declared.change.Change.{Change}
use Rattle.layout.specs.declared.change.Change.TheVariants.{Move, Turn, Mirror}

abbrev pub change_rect : Change → Rect → Rect
change_rect (Move r b) q = move_rect r b q
change_rect (Turn s) q = turn_rect s q
change_rect (Mirror s) q = mirror_rect s q

-- by so little that no number overflows
abbrev pub Mild : Change → Type 0
Mild (Move r b) = (r ≤ 2 ^ 48) × (b ≤ 2 ^ 48)
Mild (Turn s) = Unit {0}
Mild (Mirror s) = Unit {0}

abbrev pub changed : Change → Layout → Layout
changed (Move r b) a = moved r b a
changed (Turn s) a = turned s a
changed (Mirror s) a = mirrored s a

-- by numbers of a layout
abbrev pub Little : Change → Type 0
Little (Move r b) = (r ≤ max_number) × (b ≤ max_number)
Little (Turn s) = s ≤ max_number
Little (Mirror s) = s ≤ max_number
