-- Which nodes get a cell of their own. Assumes nothing: these are definitions.
use Rattle.std.specs.Prelude.{ℕ, zero, suc, ◌+◌, ◌*◌, Bool, cond, List, ◌==◌, nat_le, slice_index}
use Rattle.layout.specs.Numbers.{sixes}

abbrev pub once : (a m : ℕ) → ℕ
once a m = cond (a == m) 1 0

-- how often a node of these numbers stands on node m: a part of both once, what is moved, turned, mirrored or copied twice, since it has to have a name
abbrev pub uses : (k a b c m : ℕ) → ℕ
uses k a b c m =
    cond (nat_le k 1) 0 (cond (k == 2) (once a m + once b m) (cond (k == 4) (2 * once b m) (cond (k == 5) (2 * once b m) (2 * once c m))))

unfoldable pub uses_below : List ℕ → (m n : ℕ) → ℕ
uses_below xs m zero = 0
uses_below xs m (suc n) = uses_below xs m n + uses (slice_index xs (6 * n)) (slice_index xs (6 * n + 1)) (slice_index xs (6 * n + 2)) (slice_index xs (6 * n + 3)) m

-- a node that has a name, or stands in two places
abbrev pub has_cell : List ℕ → ℕ → Bool
has_cell xs m = nat_le 2 (uses_below xs m (sixes xs))
