-- Laws of ways and nets. Assumes nothing: these are statements, and a function's contract names them.
use Rattle.std.specs.Prelude.{ℕ}
use Rattle.layout.specs.Layout.{Layout, Drawing, shifted, drawn}
use Rattle.nets.specs.Nets.{Technology, Spot, Way, Netted, moved_spot}

-- every layout has numbers for its spots that are equal exactly where one can go
abbrev pub HasNets : Type 0
HasNets = (k : Technology) (bodies : ℕ → Layout) (n : ℕ) (a : Layout) → (net : Spot → ℕ) × Netted k (drawn bodies n a) net

abbrev pub WaysBack : Type 0
WaysBack = (k : Technology) (d : Drawing) (s t : Spot) → Way k d s t → Way k d t s

abbrev pub WaysOn : Type 0
WaysOn = (k : Technology) (d : Drawing) (s t u : Spot) → Way k d s t → Way k d t u → Way k d s u

-- nets go by what is drawn, wherever: a way in a drawing is one in the drawing moved
abbrev pub WaysMove : Type 0
WaysMove = (k : Technology) (d : Drawing) (r b : ℕ) (s t : Spot) → Way k d s t → Way k (shifted r b d) (moved_spot r b s) (moved_spot r b t)
