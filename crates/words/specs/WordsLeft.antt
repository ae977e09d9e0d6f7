-- The words that an iterator has left. Assumes nothing: these are definitions.
use Rattle.std.specs.Prelude.{◌≡◌, ℕ, ◌-◌, false, List, [], length, Option, MatchOption, ◌∷◌}
use Rattle.words.specs.Words.{Token, words_from, token_of, Inside, kind_of}
use Rattle.words.specs.declared.word.Word.{Word}
use Rattle.words.specs.declared.word.Kind.{Kind}
use Rattle.words.specs.declared.word.Kind.TheVariants.{Newline, Blank, Comment, Mark, Letter}
use Rattle.words.specs.declared.left.Words.{Words}

-- the words of what is left of a text
abbrev pub words_left : Words → List Token
words_left w = words_from w.marks w.line (length w.text.now - length w.rest.now) false [] w.rest.now

-- a word begins with such a byte
abbrev pub is_first : Kind → Type 0
is_first Newline = ⊥
is_first Blank = ⊥
is_first Comment = ⊥
is_first Mark = Unit {0}
is_first Letter = Unit {0}

-- what is left begins with a word, if there is one
abbrev pub AtWord : Words → Type 0
AtWord w = (b : ℕ) (bs : List ℕ) → w.rest.now ≡ b ∷ bs → is_first (kind_of w.marks b)

-- the same words are left, and the first of them begins what is left
abbrev pub Skips : (s t : Words) → Type 0
Skips s t = (t.text.now ≡ s.text.now) × (words_left t ≡ words_left s) × AtWord t

-- the first word that is left, in its text, and the others
abbrev pub Gives : Words → Option Word → Words → Type 0
Gives s r t = (t.text.now ≡ s.text.now) × MatchOption r ((words_left s ≡ []) × (words_left t ≡ [])) (λ w. Inside s.text.now w × (words_left s ≡ token_of w ∷ words_left t))
