-- Regions made of layers, rules about them, and which squares break a rule. Assumes nothing: these are definitions.
use Rattle.std.specs.Prelude.{ℕ, ◌+◌, ◌-◌, ◌*◌, not, ◌&&◌, ◌||◌, nat_le}
use Rattle.layout.specs.Layout.{Drawing}
use Rattle.region.specs.Firsts.{Squares}
use Rattle.blocks.specs.Blocks.{all_of, near, in_a_block, free_block}

-- the squares of a layer; of two regions both, either, or the first without the second; or of one grown by n
pub data Region : Type 0 where
  layer : ℕ → Region
  and : Region → Region → Region
  or : Region → Region → Region
  without : Region → Region → Region
  grown : ℕ → Region → Region

unfoldable pub squares : Drawing → Region → Squares
squares d (layer l) x y = d l x y
squares d (and a b) x y = squares d a x y && squares d b x y
squares d (or a b) x y = squares d a x y || squares d b x y
squares d (without a b) x y = squares d a x y && not (squares d b x y)
squares d (grown n a) x y = near n (squares d a) x y

-- at least n wide everywhere; at least n apart everywhere; the first at least n inside the second; none at all
pub data Rule : Type 0 where
  wide : Region → ℕ → Rule
  apart : Region → ℕ → Rule
  inside : Region → Region → ℕ → Rule
  never : Region → Rule

-- all squares no farther than n across and down are there, and in s
unfoldable pub surrounded : ℕ → Squares → Squares
surrounded n s x y = all_of (2 * n + 1) (λ i. all_of (2 * n + 1) (λ j. nat_le n (x + i) && (nat_le n (y + j) && s (x + i - n) (y + j - n))))

-- wide: in the region, and no n by n block around the square is all in it
-- apart: not in the region, and no n by n block around the square is free of it, blocks reaching over the edges as they like
-- inside: in the first region, and not all squares as near as n are there and in the second
unfoldable pub breaks : Drawing → Rule → Squares
breaks d (wide r n) x y = squares d r x y && not (in_a_block n (squares d r) x y)
breaks d (apart r n) x y = not (squares d r x y) && not (free_block n (squares d r) x y)
breaks d (inside a b n) x y = squares d a x y && not (surrounded n (squares d b) x y)
breaks d (never r) x y = squares d r x y
