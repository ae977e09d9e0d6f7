-- The lines of a text. Assumes nothing: these are definitions.
use Rattle.std.specs.Prelude.{ℕ, suc, ◌-◌, List, [], ◌∷◌, length, take, Ok, Result, count_by, ◌==◌}
use Rattle.std.specs.List.{slice_split}
use Rattle.words.specs.Steps.{and_then}

abbrev pub newlines : List ℕ → ℕ
newlines bs = count_by (λ b. b == 10) bs

-- the last line, from 0: as many newlines come before the last byte
abbrev pub last_line : List ℕ → ℕ
last_line bs = newlines (take (length bs - 1) bs)

-- the lines, without their newlines: one more than there are newlines
abbrev pub lines_of : List ℕ → List (List ℕ)
lines_of bs = slice_split (λ b. b == 10) bs

-- a text read line by line, from line n on: what one line says is added to what was said before, or the number of the first that can't be read
unfoldable pub line_by_line : {S : Type 0} → (ℕ → S → List ℕ → Result S ℕ) → ℕ → S → List (List ℕ) → Result S ℕ
line_by_line f n s [] = Ok s
line_by_line f n s (l ∷ ls) = and_then (f n s l) (λ z. line_by_line f (suc n) z ls)
