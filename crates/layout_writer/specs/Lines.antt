-- Statements as lines of text. Assumes nothing: these are definitions.
use Rattle.layout.specs.declared.change.Change.{Change}
use Rattle.layout.specs.declared.change.Change.TheVariants.{Move, Turn, Mirror}
use Rattle.std.specs.Prelude.{ℕ, ◌+◌, ◌*◌, cond, List, [], ◌∷◌, ◌++◌, codes, decimal, ◌==◌, slice_index}

-- words with a blank between them, and a newline
abbrev pub after_words : List (List ℕ) → List ℕ
after_words [] = codes "\n"
after_words (w ∷ ws) = codes " " ++ (w ++ after_words ws)

abbrev pub line_of : List (List ℕ) → List ℕ
line_of [] = codes "\n"
line_of (w ∷ ws) = w ++ after_words ws

-- the cell of a node is named n and its number
abbrev pub name : ℕ → List ℕ
name n = codes "n" ++ decimal n

abbrev pub box_words : (layer x y across down : ℕ) → List (List ℕ)
box_words l x y a d = codes "box" ∷ decimal l ∷ decimal x ∷ decimal y ∷ decimal a ∷ decimal d ∷ []

abbrev pub put_words : ℕ → (x y : List ℕ) → List (List ℕ)
put_words a x y = codes "put" ∷ name a ∷ codes "at" ∷ x ∷ y ∷ []

abbrev pub put_here : ℕ → List (List ℕ)
put_here a = put_words a (codes "0") (codes "0")

-- a node that is changed: a turn follows a put that doesn't move
abbrev pub change_words : Change → ℕ → List (List ℕ)
change_words (Move r u) a = put_words a (decimal r) (decimal u)
change_words (Turn s) a = put_here a ++ codes "turned" ∷ decimal s ∷ []
change_words (Mirror s) a = put_here a ++ codes "mirrored" ∷ decimal s ∷ []

-- copies of a node, by `row` or `column`
abbrev pub copies_words : (word : List ℕ) → (many far a : ℕ) → List (List ℕ)
copies_words w n d a = w ∷ decimal n ∷ decimal d ∷ name a ∷ []

-- the statement of a node that is neither nothing nor both
abbrev pub statement_words : (k a b c e f : ℕ) → List (List ℕ)
statement_words k a b c e f =
    cond (k == 1) (box_words a b c e f)
    (cond (k == 3) (put_words c (decimal a) (decimal b))
    (cond (k == 4) (put_here b ++ codes "turned" ∷ decimal a ∷ [])
    (cond (k == 5) (put_here b ++ codes "mirrored" ∷ decimal a ∷ [])
    (cond (k == 6) (codes "row" ∷ decimal a ∷ decimal b ∷ name c ∷ [])
    (codes "column" ∷ decimal a ∷ decimal b ∷ name c ∷ [])))))

abbrev pub open_words : ℕ → List (List ℕ)
open_words n = codes "cell" ∷ name n ∷ codes "{" ∷ []

-- the six numbers of a node
abbrev pub numbers_of : List ℕ → ℕ → List ℕ
numbers_of xs n = slice_index xs (6 * n) ∷ slice_index xs (6 * n + 1) ∷ slice_index xs (6 * n + 2) ∷ slice_index xs (6 * n + 3) ∷ slice_index xs (6 * n + 4) ∷ slice_index xs (6 * n + 5) ∷ []

abbrev pub statement_line : List ℕ → List ℕ
statement_line xs = line_of (statement_words (slice_index xs 0) (slice_index xs 1) (slice_index xs 2) (slice_index xs 3) (slice_index xs 4) (slice_index xs 5))
