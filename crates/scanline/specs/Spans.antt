-- Boxes as spans, and what they cover. Assumes nothing.
use Rattle.std.specs.Prelude.{◌≡◌, ℕ, suc, ◌+◌, ◌<◌, ◌≤◌, min, Bool, true, false, cond, ◌&&◌, ◌||◌, ◌⊎◌, List, [], ◌∷◌, ◌++◌, length, Some, None, Option, nat_le, nat_lt}
use Rattle.std.specs.List.{fold}
use Rattle.std.specs.Borrow.{Bor}
use Rattle.layout.specs.declared.rect.Rect.{Rect}
use Rattle.layout.specs.Rects.{in_rect}
use Rattle.scanline.specs.Lines.{inside, Sorted}
use Rattle.scanline.specs.declared.span.Span.{Span}

-- whether a column lies in a span's columns
abbrev pub across : Span → ℕ → Bool
across s x = nat_le s.left x && nat_lt x s.right

-- whether some span has the column; whether some span that has begun still has it in row y; whether some span covers the square
unfoldable pub any_across : List Span → ℕ → Bool
any_across [] x = false
any_across (s ∷ ss) x = across s x || any_across ss x

unfoldable pub any_still : List Span → ℕ → ℕ → Bool
any_still [] x y = false
any_still (s ∷ ss) x y = (across s x && nat_lt y s.bottom) || any_still ss x y

unfoldable pub any_covers : List Span → ℕ → ℕ → Bool
any_covers [] x y = false
any_covers (s ∷ ss) x y = (across s x && (nat_le s.top y && nat_lt y s.bottom)) || any_covers ss x y

-- neither its rows nor its columns are empty
abbrev pub Solid : Span → Type 0
Solid s = (s.left < s.right) × (s.top < s.bottom)

-- a span that covers nothing
abbrev pub no_span : Span
no_span = record { top = 0; left = 0; right = 0; bottom = 0 }

-- the span of a box, or that the box covers nothing of the layer
abbrev pub Spanned : ℕ → Rect → Option Span → Type 0
Spanned l q None = (x y : ℕ) → in_rect q l x y ≡ false
Spanned l q (Some s) = Solid s × ((x y : ℕ) → in_rect q l x y ≡ (across s x && (nat_le s.top y && nat_lt y s.bottom)))

-- the first span of the list begins below s, or in the same row and not to the left of it
abbrev pub Leads : Span → List Span → Type 0
Leads s [] = Unit {0}
Leads s (t ∷ ts) = (s.top < t.top) ⊎ ((s.top ≡ t.top) × (s.left ≤ t.left))

-- solid spans in the order of their rows, from row p on, those of a row in the order of their columns
abbrev pub ByRows : ℕ → List Span → Type 0
ByRows p [] = Unit {0}
ByRows p (s ∷ ss) = (p ≤ s.top) × Solid s × Leads s ss × ByRows s.top ss

-- a span begins no further right than the first of a list
abbrev pub ByFirst : Span → List Span → Type 0
ByFirst s [] = Unit {0}
ByFirst s (t ∷ ts) = s.left ≤ t.left

-- spans in the order of their first columns, from column p on
abbrev pub ByColumns : ℕ → List Span → Type 0
ByColumns p [] = Unit {0}
ByColumns p (s ∷ ss) = (p ≤ s.left) × (s.left < s.right) × ByColumns s.left ss

-- the line of all columns that some span has
pub record Union (ss : List Span) (r : List ℕ) : Type 0 where
  pub ordered : Sorted r
  pub holds : (x : ℕ) → inside r x ≡ any_across ss x

-- how many spans end after a row
abbrev pub alive : ℕ → List Span → ℕ
alive y [] = 0
alive y (s ∷ ss) = cond (nat_lt y s.bottom) (suc (alive y ss)) (alive y ss)

-- each span ends at row p or after
abbrev pub Last : ℕ → List Span → Type 0
Last p [] = Unit {0}
Last p (s ∷ ss) = (p ≤ s.bottom) × Last p ss

-- the leftmost of the first spans of two lists, and what is left of both
abbrev pub Picked : (live new : List Span) → Option (Span × Bor (List Span) × Bor (List Span)) → Type 0
Picked live new None = (live ≡ []) × (new ≡ [])
Picked live new (Some p) = ((live ≡ p.0 ∷ p.1.now) × (p.2.now ≡ new) × ByFirst p.0 new) ⊎ ((new ≡ p.0 ∷ p.2.now) × (p.1.now ≡ live) × ByFirst p.0 live)

-- some span has all columns of another, and ends no earlier
pub record Hidden (ss : List Span) (s : Span) : Type 0 where
  pub by : (x y : ℕ) → (across s x && nat_lt y s.bottom) ≡ true → any_still ss x y ≡ true

-- `after` is `before` with one span more, or without it where it has ended by the row, or another covers it from there on
abbrev pub Kept : ℕ → Span → List Span → List Span → Type 0
Kept row s before after =
    ((after ≡ before) × ((x y : ℕ) → row ≤ y → (across s x && nat_lt y s.bottom) ≡ true → any_still before x y ≡ true))
    ⊎ ((after ≡ before ++ s ∷ []) × (row < s.bottom))

-- spans that end after the row, in the order of their columns, that cover from that row on what two lists of spans do
pub record Advanced (row : ℕ) (live new r : List Span) : Type 0 where
  pub columns : ByColumns 0 r
  pub last : Last (suc row) r
  pub holds : (x y : ℕ) → row ≤ y → any_still r x y ≡ (any_still live x y || any_still new x y)
  pub few : length r ≤ alive row live + alive row new

-- the least of m and the rows at which the spans end
abbrev pub least_end : ℕ → List Span → ℕ
least_end m ss = fold (λ n s. min n s.bottom) m ss

-- the next row at which a span that has begun ends, or another begins
abbrev pub next_edge : List Span → List Span → Option ℕ
next_edge [] [] = None
next_edge (s ∷ ss) [] = Some (least_end s.bottom (s ∷ ss))
next_edge [] (t ∷ ts) = Some t.top
next_edge (s ∷ ss) (t ∷ ts) = Some (least_end t.top (s ∷ ss))
