-- Numbers in decimal digits. Assumes nothing: these are definitions.
use Rattle.std.specs.Prelude.{ℕ, ◌+◌, ◌-◌, ◌*◌, ◌^◌, Bool, true, cond, ◌&&◌, List, [], ◌∷◌, length, Some, None, Option, nat_le, nat_lt}

unfoldable pub all_digits : List ℕ → Bool
all_digits [] = true
all_digits (b ∷ bs) = (nat_le 48 b && nat_le b 57) && all_digits bs

-- the number of some digits after those of another
unfoldable pub decimal : ℕ → List ℕ → ℕ
decimal n [] = n
decimal n (b ∷ bs) = decimal (n * 10 + (b - 48)) bs

-- one digit at least, nothing else, and no more than a u64 holds
abbrev pub number_in : List ℕ → Option ℕ
number_in bs = cond (nat_le 1 (length bs) && (all_digits bs && nat_lt (decimal 0 bs) (2 ^ 64))) (Some (decimal 0 bs)) None
