-- Sets of squares that change no more far out. Assumes nothing: these are definitions.
use Rattle.std.specs.Prelude.{◌≡◌, ℕ, suc, ◌+◌, ◌^◌, ◌<◌, ◌≤◌, true, Decides}
use Rattle.region.specs.Firsts.{Squares}
use Rattle.blocks.specs.Blocks.{block}

-- nothing changes from column m on, nor from row m on
pub record Settled (m : ℕ) (s : Squares) : Type 0 where
  pub columns : (x y : ℕ) → m ≤ x → s x y ≡ s m y
  pub rows : (x y : ℕ) → m ≤ y → s x y ≡ s x m

-- x, y is in s, or at most n to the right and n below a square of it
pub record Behind (n : ℕ) (s : Squares) (x y : ℕ) : Type 0 where
  pub u : ℕ
  pub v : ℕ
  pub left : u ≤ x
  pub right : x ≤ u + n
  pub above : v ≤ y
  pub below : y ≤ v + n
  pub is : s u v ≡ true

pub record Dilated (n : ℕ) (s r : Squares) : Type 0 where
  pub holds : (x y : ℕ) → Decides (r x y) (Behind n s x y)

-- r is what `f` makes of s at each square, wherever s settles so early that n more can be named by a u64
pub record Exactly (n : ℕ) (s f r : Squares) : Type 0 where
  pub holds : (m : ℕ) → m + n < 2 ^ 64 → Settled m s → (x y : ℕ) → r x y ≡ f x y

-- r has the upper left squares of all blocks of n + 1 by n + 1 squares within s, and settles where s does
pub record Corners (m n : ℕ) (s r : Squares) : Type 0 where
  pub holds : (x y : ℕ) → r x y ≡ block (suc n) s x y
  pub settles : Settled m r
