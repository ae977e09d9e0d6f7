-- A technology in numbers: how many layers, how many joins, the gate's layer, the crossed layer; for each layer 1 if it carries, else 0; and threes for joins. Assumes nothing: these are definitions.
use Rattle.std.specs.Prelude.{ℕ, zero, suc, ◌+◌, ◌*◌, Bool, false, ◌&&◌, ◌||◌, List, length, take, drop, ◌==◌, nat_le, nat_lt, slice_index}
use Rattle.layout.specs.Numbers.{all_at_most}
use Rattle.nets.specs.Limits.{max_layers, max_joins}
use Rattle.nets.specs.Nets.{Technology}

unfoldable pub joins_in : List ℕ → ℕ → ℕ → (j a b : ℕ) → Bool
joins_in xs from zero j a b = false
joins_in xs from (suc n) j a b = (slice_index xs (from + 3 * n) == j && (slice_index xs (from + 3 * n + 1) == a && slice_index xs (from + 3 * n + 2) == b)) || joins_in xs from n j a b

unfoldable pub technology_in : List ℕ → Technology
technology_in xs = record {
  carries = λ l. nat_lt l (slice_index xs 0) && (slice_index xs (4 + l) == 1);
  joins = joins_in xs (4 + slice_index xs 0) (slice_index xs 1);
  gate = slice_index xs 2;
  crossed = slice_index xs 3;
}

-- marks of 0 and 1, few layers and joins, of the length that it says, and the gate's layer carries
unfoldable pub technology_ok : List ℕ → Bool
technology_ok xs =
    all_at_most 1 (take (slice_index xs 0) (drop 4 xs)) && (nat_le 4 (length xs) && (nat_le (slice_index xs 0) max_layers && (nat_le (slice_index xs 1) max_joins && (length xs == 4 + slice_index xs 0 + 3 * slice_index xs 1 && (technology_in xs).carries (slice_index xs 2)))))
