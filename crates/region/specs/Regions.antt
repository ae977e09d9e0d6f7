-- Regions combined and compared. Assumes nothing.
use Rattle.std.specs.Prelude.{◌≡◌, ℕ, List, [], ◌∷◌}
use Rattle.scanline.specs.declared.Op.{Op}
use Rattle.scanline.specs.declared.band.Band.{Band}
use Rattle.scanline.specs.Lines.{applied}
use Rattle.scanline.specs.Bands.{edges, covers, Canonical}

pub record Combined (op : Op) (a b r : List Band) : Type 0 where
  pub holds : (x y : ℕ) → covers r x y ≡ applied op (covers a x y) (covers b x y)

-- the bands begin at the same rows, with the same lines
abbrev pub Alike : List Band → List Band → Type 0
Alike [] [] = Unit {0}
Alike [] (b ∷ bs) = ⊥
Alike (a ∷ xs) [] = ⊥
Alike (a ∷ xs) (b ∷ bs) = (a.from ≡ b.from) × (edges a ≡ edges b) × Alike xs bs

-- a set of squares has one list of bands in normal form
abbrev pub OneForm : Type 0
OneForm = (a b : List Band) → Canonical a → Canonical b → ((x y : ℕ) → covers a x y ≡ covers b x y) → Alike a b
