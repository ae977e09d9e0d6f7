-- Squares near others, and square blocks of them. Assumes nothing: these are definitions.
use Rattle.std.specs.Prelude.{ℕ, zero, suc, ◌+◌, ◌-◌, ◌*◌, Bool, true, false, not, ◌&&◌, ◌||◌, nat_le}
use Rattle.region.specs.Firsts.{Squares}

-- some, and each, of the numbers below n passes a test
unfoldable pub any_of : ℕ → (ℕ → Bool) → Bool
any_of zero f = false
any_of (suc n) f = f n || any_of n f

unfoldable pub all_of : ℕ → (ℕ → Bool) → Bool
all_of zero f = true
all_of (suc n) f = f n && all_of n f

-- some square no farther than n across and n down; beyond the upper and left edges there are none
unfoldable pub near : ℕ → Squares → Squares
near n s x y = any_of (2 * n + 1) (λ i. any_of (2 * n + 1) (λ j. nat_le n (x + i) && (nat_le n (y + j) && s (x + i - n) (y + j - n))))

-- all squares of the block of n by n squares whose upper left one is u, v
unfoldable pub block : ℕ → Squares → Squares
block n s u v = all_of n (λ i. all_of n (λ j. s (u + i) (v + j)))

-- some block of n by n squares with x, y in it has all its squares in s
unfoldable pub in_a_block : ℕ → Squares → Squares
in_a_block n s x y = any_of n (λ i. any_of n (λ j. nat_le i x && (nat_le j y && block n s (x - i) (y - j))))

-- a set of squares drawn n further right and down, so that there is room around it
unfoldable pub drawn_in : ℕ → Squares → Squares
drawn_in n s x y = nat_le n x && (nat_le n y && s (x - n) (y - n))

-- some block of n by n squares with x, y in it is free of s, and may reach over the upper and left edges
unfoldable pub free_block : ℕ → Squares → Squares
free_block n s x y = in_a_block n (λ u v. not (drawn_in n s u v)) (x + n) (y + n)
