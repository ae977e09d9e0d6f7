-- What the statements of a layout text draw, and when nodes draw it. Assumes nothing: these are definitions.
use Rattle.std.specs.Prelude.{◌≡◌, ℕ, Bool, true, false, cond, List, [], ◌∷◌, ◌++◌, Some, None, Ok, Option, slice_index_or}
use Rattle.layout.specs.Layout.{Layout, nothing, box, both, moved, turned, mirrored, row, column, drawn_with}
use Rattle.layout.specs.Numbers.{layout_in}
use Rattle.words.specs.Steps.{by_some}
use Rattle.text.specs.Readings.{State, said_in}
use Rattle.text.specs.declared.statement.Statement.{Statement}
use Rattle.text.specs.declared.statement.Statement.TheVariants as statement
use Rattle.text.specs.declared.statement.Said.{Said}

pub record Placed : Type 0 where
  pub what : Layout
  pub x : ℕ
  pub y : ℕ

-- the cells that have ended; the parts of the text and of the cell that is open; a put that waits for its turns
pub record Scene : Type 0 where
  pub cells : List Layout
  pub outer : List Layout
  pub inner : List Layout
  pub inside : Bool
  pub put : Option Placed

abbrev pub empty : Scene
empty = record { cells = []; outer = []; inner = []; inside = false; put = None }

-- all parts together, from the left
unfoldable pub together_with : Layout → List Layout → Layout
together_with a [] = a
together_with a (b ∷ bs) = together_with (both a b) bs

abbrev pub together : List Layout → Layout
together [] = nothing
together (a ∷ as') = together_with a as'

abbrev pub part_more : Scene → Layout → Scene
part_more s a =
    cond s.inside
    (record { cells = s.cells; outer = s.outer; inner = s.inner ++ a ∷ []; inside = s.inside; put = s.put })
    (record { cells = s.cells; outer = s.outer ++ a ∷ []; inner = s.inner; inside = s.inside; put = s.put })

abbrev pub holding : Scene → Option Placed → Scene
holding s p = record { cells = s.cells; outer = s.outer; inner = s.inner; inside = s.inside; put = p }

-- a put is moved after its turns
abbrev pub put_down : Scene → Scene
put_down s = by_some s.put s (λ p. part_more (holding s None) (moved p.x p.y p.what))

abbrev pub changed : Scene → (Layout → Layout) → Scene
changed s f = by_some s.put s (λ p. holding s (Some (record { what = f p.what; x = p.x; y = p.y })))

-- each statement but a turn
abbrev pub begins : Scene → Statement → Scene
begins s (statement.Box l x y a h) = part_more s (box l x y a h)
begins s statement.Cell = record { cells = s.cells; outer = s.outer; inner = []; inside = true; put = s.put }
begins s statement.Close = record { cells = s.cells ++ together s.inner ∷ []; outer = s.outer; inner = s.inner; inside = false; put = s.put }
begins s (statement.Put c x y) = holding s (Some (record { what = slice_index_or s.cells c nothing; x = x; y = y }))
begins s (statement.Turned k) = s
begins s (statement.Mirrored k) = s
begins s (statement.Row m f c) = part_more s (row m f (slice_index_or s.cells c nothing))
begins s (statement.Column m f c) = part_more s (column m f (slice_index_or s.cells c nothing))
begins s (statement.Pin l x y) = s

abbrev pub shown : Scene → Statement → Scene
shown s (statement.Box l x y a h) = begins (put_down s) (statement.Box l x y a h)
shown s statement.Cell = begins (put_down s) statement.Cell
shown s statement.Close = begins (put_down s) statement.Close
shown s (statement.Put c x y) = begins (put_down s) (statement.Put c x y)
shown s (statement.Turned k) = changed s (turned k)
shown s (statement.Mirrored k) = changed s (mirrored k)
shown s (statement.Row m f c) = begins (put_down s) (statement.Row m f c)
shown s (statement.Column m f c) = begins (put_down s) (statement.Column m f c)
shown s (statement.Pin l x y) = begins (put_down s) (statement.Pin l x y)

unfoldable pub all_shown : Scene → List Said → Scene
all_shown s [] = s
all_shown s (t ∷ ts) = all_shown (shown s t.statement) ts

-- the text is all its parts together
abbrev pub picture : List Said → Layout
picture ss = together (put_down (all_shown empty ss)).outer

-- nodes draw what a text says
abbrev pub Draws : List ℕ → List ℕ → Type 0
Draws text nodes = (s : State) → said_in text ≡ Ok s → (l x y : ℕ) → layout_in nodes l x y ≡ drawn_with (λ k l x y. false) (picture s.said) l x y
