-- Regions moved and widened in the four directions. Assumes nothing.
use Rattle.std.specs.Prelude.{◌≡◌, ℕ, ◌+◌, ◌-◌, ◌^◌, ◌<◌, ◌≤◌, Bool, true, ◌&&◌, ◌⊎◌, List, [], Decides, nat_le}
use Rattle.scanline.specs.Lines.{Near, Room}
use Rattle.scanline.specs.declared.lines.Line.{Line}
use Rattle.scanline.specs.Edges.{edges_of}
use Rattle.scanline.specs.declared.band.Band.{Band}
use Rattle.scanline.specs.Bands.{covers}

-- two lines of a row: neither holds anything, or one is made of the other
abbrev pub Lined : (Line → Line → Type 0) → List ℕ → List ℕ → Type 0
Lined R es fs = ((es ≡ []) × (fs ≡ [])) ⊎ ((l : Line) × (m : Line) × (edges_of l ≡ es) × (edges_of m ≡ fs) × R l m)

-- nothing changes from some row on, and n more can still be named by a u64
pub record RowRoom (n : ℕ) (a : List Band) : Type 0 where
  pub end : ℕ
  pub fits : end + n < 2 ^ 64
  pub still : (x y : ℕ) → end ≤ y → covers a x y ≡ covers a x end

-- each square n to the right, at each column that a u64 can name, and with room at all
pub record ShiftedRight (n : ℕ) (a r : List Band) : Type 0 where
  pub holds : (x y : ℕ) → (x < 2 ^ 64) ⊎ Room n (λ z. covers a z y) → covers r x y ≡ (nat_le n x && covers a (x - n) y)

-- each square n further down
pub record ShiftedDown (n : ℕ) (a r : List Band) : Type 0 where
  pub holds : (x y : ℕ) → (y < 2 ^ 64) ⊎ RowRoom n a → covers r x y ≡ (nat_le n y && covers a x (y - n))

-- to the left and up; what moves past the edge is gone
pub record ShiftedLeft (n : ℕ) (a r : List Band) : Type 0 where
  pub holds : (x y : ℕ) → covers r x y ≡ covers a (x + n) y

pub record ShiftedUp (n : ℕ) (a r : List Band) : Type 0 where
  pub holds : (x y : ℕ) → covers r x y ≡ covers a x (y + n)

-- x is in the set A, or at most n before a place in it
abbrev pub Ahead : ℕ → (ℕ → Bool) → ℕ → Type 0
Ahead n A x = (z : ℕ) × (x ≤ z) × (z ≤ x + n) × (A z ≡ true)

-- a square of a, or one at most n to the right of one
pub record WidenedRight (n : ℕ) (a r : List Band) : Type 0 where
  pub holds : (x y : ℕ) → (x < 2 ^ 64) ⊎ Room n (λ z. covers a z y) → Decides (covers r x y) (Near n (λ z. covers a z y) x)

-- at most n below one
pub record WidenedDown (n : ℕ) (a r : List Band) : Type 0 where
  pub holds : (x y : ℕ) → (y < 2 ^ 64) ⊎ RowRoom n a → Decides (covers r x y) (Near n (λ z. covers a x z) y)

-- at most n to the left of one
pub record WidenedLeft (n : ℕ) (a r : List Band) : Type 0 where
  pub holds : (x y : ℕ) → (x + n < 2 ^ 64) ⊎ Room n (λ z. covers a z y) → Decides (covers r x y) (Ahead n (λ z. covers a z y) x)

-- at most n above one
pub record WidenedUp (n : ℕ) (a r : List Band) : Type 0 where
  pub holds : (x y : ℕ) → (y + n < 2 ^ 64) ⊎ RowRoom n a → Decides (covers r x y) (Ahead n (λ z. covers a x z) y)
