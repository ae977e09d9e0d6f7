-- The text of a layout, and that it reads back as the same drawing. Assumes nothing: these are definitions.
use Rattle.std.specs.Prelude.{◌≡◌, ℕ, zero, suc, ◌+◌, ◌-◌, ◌*◌, ◌≤◌, cond, List, [], ◌∷◌, ◌++◌, Ok, Err, string_bytes, codes, Result, String, ◌==◌, slice_index}
use Rattle.std.specs.declared.alloc.Global.{Global}
use Rattle.layout.specs.Checks.{TurnedAway}
use Rattle.layout.specs.Numbers.{sixes, layout_in}
use Rattle.layout.specs.Pieces.{Sound}
use Rattle.layout.specs.Refusals.{number_of}
use Rattle.layout.specs.declared.refusal.Fault.{Fault}
use Rattle.layout.specs.declared.refusal.Fault.TheVariants.{Refused, Memory}
use Rattle.text.specs.LayoutTexts.{Meaning, layout_text as meant-by}
use Rattle.layout_writer.specs.Lines.{line_of, put_here, statement_words, open_words}
use Rattle.layout_writer.specs.Cells.{has_cell}

-- a node's statements after a margin: one line, or those of its two parts
abbrev pub node_text : (margin : List ℕ) → (ℕ → List ℕ) → (k a b c e f : ℕ) → List ℕ
node_text g part k a b c e f = cond (k == 0) [] (cond (k == 2) (part a ++ part b) (g ++ line_of (statement_words k a b c e f)))

abbrev pub put_line : (margin : List ℕ) → ℕ → List ℕ
put_line g n = g ++ line_of (put_here n)

-- a part that has a cell is put, any other is written where it stands
unfoldable pub statements : List ℕ → (margin : List ℕ) → (levels : ℕ) → ℕ → List ℕ
statements xs g zero n = []
statements xs g (suc l) n =
    node_text g (λ m. cond (has_cell xs m) (put_line g m) (statements xs g l m)) (slice_index xs (6 * n)) (slice_index xs (6 * n + 1)) (slice_index xs (6 * n + 2)) (slice_index xs (6 * n + 3)) (slice_index xs (6 * n + 4)) (slice_index xs (6 * n + 5))

abbrev pub cell_text : List ℕ → ℕ → List ℕ
cell_text xs n = line_of (open_words n) ++ (statements xs (codes "    ") (suc n) n ++ line_of (codes "}" ∷ []))

-- the cells of the first n nodes
unfoldable pub cells_text : List ℕ → ℕ → List ℕ
cells_text xs zero = []
cells_text xs (suc n) = cells_text xs n ++ cond (has_cell xs n) (cell_text xs n) []

-- and the statements of the last node
abbrev pub layout_text : List ℕ → List ℕ
layout_text xs = cells_text xs (sixes xs) ++ statements xs [] (sixes xs) (sixes xs - 1)

-- a text is read, has no pins, and its nodes draw each square of each layer that the layout draws, and no other
pub record ReadsBack (text xs : List ℕ) : Type 0 where
  pub meaning : Meaning
  pub read : meant-by text ≡ Ok meaning
  pub no_pins : meaning.pins ≡ []
  pub draws : (l x y : ℕ) → layout_in meaning.nodes l x y ≡ layout_in xs l x y

-- the text of a layout whose nodes are in order, however many boxes they are
abbrev pub Written : List ℕ → Result (String Global) Fault → Type 0
Written xs (Ok s) = Sound xs × (string_bytes s ≡ layout_text xs) × ReadsBack (string_bytes s) xs
Written xs (Err (Refused e)) = TurnedAway xs e × (number_of e ≤ 2)
Written xs (Err Memory) = Sound xs

abbrev pub RoundTrip : Type 0
RoundTrip = (xs : List ℕ) → Sound xs → ReadsBack (layout_text xs) xs
