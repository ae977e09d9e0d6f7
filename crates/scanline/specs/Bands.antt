-- Bands of rows: what a list of them covers, and when it is in normal form. Assumes nothing.
use Rattle.std.specs.Prelude.{◌≡◌, ℕ, suc, Bool, true, cond, not, ◌&&◌, ◌⊎◌, List, [], ◌∷◌, ◌++◌, ◌≢◌, nat_le}
use Rattle.std.specs.Str.{bytes_eq}
use Rattle.scanline.specs.Lines.{inside}
use Rattle.scanline.specs.Edges.{edges_of}
use Rattle.scanline.specs.declared.band.Band.{Band}

abbrev pub edges : Band → List ℕ
edges b = edges_of b.line

-- the line of the last band that begins at or before row y
abbrev pub line_at : List ℕ → List Band → ℕ → List ℕ
line_at line [] y = line
line_at line (b ∷ bs) y = line_at (cond (nat_le b.from y) (edges b) line) bs y

abbrev pub covers : List Band → ℕ → ℕ → Bool
covers bs x y = inside (line_at [] bs y) x

-- the bands begin at p or after, one after another, and each has another line than the one before it
abbrev pub canonical : List ℕ → ℕ → List Band → Bool
canonical line p [] = true
canonical line p (b ∷ bs) = nat_le p b.from && (not (bytes_eq line (edges b)) && canonical (edges b) (suc b.from) bs)

abbrev pub Canonical : List Band → Type 0
Canonical bs = canonical [] 0 bs ≡ true

abbrev pub lastLine : List ℕ → List Band → List ℕ
lastLine line [] = line
lastLine line (b ∷ bs) = lastLine (edges b) bs

-- `after` is `before` with a band at row y of the given line, or without where that line goes on
abbrev pub Added : ℕ → List ℕ → List Band → List Band → Type 0
Added y line before after =
    ((lastLine [] before ≡ line) × (after ≡ before))
    ⊎ ((lastLine [] before ≢ line) × ((b : Band) × (b.from ≡ y) × (edges b ≡ line) × (after ≡ before ++ b ∷ [])))
