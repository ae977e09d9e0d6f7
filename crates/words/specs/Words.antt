-- The words of a text, with their lines. Assumes nothing: these are definitions.
use Rattle.std.specs.Prelude.{◌≡◌, ℕ, suc, ◌+◌, ◌≤◌, Bool, true, false, cond, ◌||◌, List, [], ◌∷◌, ◌++◌, map, length, ◌==◌}
use Rattle.std.specs.List.{between, AllByRecursion}
use Rattle.words.specs.declared.word.Word.{Word}
use Rattle.words.specs.declared.word.Marks.{Marks}
use Rattle.words.specs.declared.word.Marks.TheVariants.{Plain, Braces, Parentheses}
use Rattle.words.specs.declared.word.Kind.{Kind}
use Rattle.words.specs.declared.word.Kind.TheVariants.{Newline, Blank, Comment, Mark, Letter}

-- a word: the line and the places at which it stands, and how it is spelled
pub record Token : Type 0 where
  pub line : ℕ
  pub from : ℕ
  pub to : ℕ
  pub bytes : List ℕ

-- { and }, or ( and )
abbrev pub is_mark : Marks → ℕ → Bool
is_mark Plain b = false
is_mark Braces b = b == 123 || b == 125
is_mark Parentheses b = b == 40 || b == 41

-- a line ends at a newline; space, tab and carriage return are blanks; # begins a comment
abbrev pub kind_of : Marks → ℕ → Kind
kind_of m b = cond (b == 10) Newline (cond (b == 32 || (b == 9 || b == 13)) Blank (cond (b == 35) Comment (cond (is_mark m b) Mark Letter)))

abbrev pub is_letter : Kind → Bool
is_letter Newline = false
is_letter Blank = false
is_letter Comment = false
is_letter Mark = false
is_letter Letter = true

-- the letters that a text begins with
unfoldable pub letters : Marks → List ℕ → List ℕ
letters m [] = []
letters m (b ∷ bs) = cond (is_letter (kind_of m b)) (b ∷ letters m bs) []

unfoldable pub rest_of_line : List ℕ → List ℕ
rest_of_line [] = []
rest_of_line (b ∷ bs) = cond (b == 10) [] (b ∷ rest_of_line bs)

-- a word that ends here, unless it has no letters
abbrev pub ended : (line from : ℕ) → List ℕ → List Token
ended n p [] = []
ended n p (b ∷ bs) = record { line = n; from = p; to = p + length (b ∷ bs); bytes = b ∷ bs } ∷ []

abbrev pub by_kind : {A : Type 0} → Kind → (newline blank comment mark letter : A) → A
by_kind Newline n b c m l = n
by_kind Blank n b c m l = b
by_kind Comment n b c m l = c
by_kind Mark n b c m l = m
by_kind Letter n b c m l = l

-- the words from a place of a line on, in a comment or not; some letters of a word may have been read from there
unfoldable pub words_from : Marks → (line from : ℕ) (comment : Bool) (word : List ℕ) → List ℕ → List Token
words_from m n p c w [] = ended n p w
words_from m n p true w (b ∷ bs) = cond (b == 10) (words_from m (suc n) (p + 1) false [] bs) (words_from m n (p + 1) true w bs)
words_from m n p false w (b ∷ bs) =
    by_kind (kind_of m b)
    (ended n p w ++ words_from m (suc n) (p + length w + 1) false [] bs)
    (ended n p w ++ words_from m n (p + length w + 1) false [] bs)
    (ended n p w ++ words_from m n (p + length w + 1) true [] bs)
    (ended n p w ++ (record { line = n; from = p + length w; to = p + length w + 1; bytes = b ∷ [] } ∷ words_from m n (p + length w + 1) false [] bs))
    (words_from m n p false (w ++ b ∷ []) bs)

abbrev pub words_of : Marks → List ℕ → List Token
words_of m bs = words_from m 0 0 false [] bs

-- a word by its place in the text
abbrev pub token_of : Word → Token
token_of w = record { line = w.line; from = w.start; to = w.start + length w.bytes.now; bytes = w.bytes.now }

abbrev pub Inside : List ℕ → Word → Type 0
Inside text w = (w.start + length w.bytes.now ≤ length text) × (w.bytes.now ≡ between w.start (w.start + length w.bytes.now) text)

-- the words lie in the text, and are its words
pub record Cut (m : Marks) (text : List ℕ) (ws : List Word) : Type 0 where
  pub inside : AllByRecursion (Inside text) ws
  pub same : map token_of ws ≡ words_of m text
