-- Lines of output, byte by byte. Assumes nothing: these are definitions.
use Rattle.std.specs.Prelude.{ℕ, List, ◌++◌, codes, decimal}

-- a column and a row, and the line's end
abbrev pub place_text : (x y : ℕ) → List ℕ
place_text x y = codes ": " ++ (decimal x ++ (codes " " ++ (decimal y ++ codes "\n")))

-- where a rule is broken first: its message, the column and the row
abbrev pub broken_line : List ℕ → (x y : ℕ) → List ℕ
broken_line message x y = message ++ place_text x y
