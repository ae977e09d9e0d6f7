-- The tiles of a region: the intervals of its bands. Assumes nothing.
use Rattle.std.specs.Prelude.{◌≡◌, ℕ, ◌^◌, ◌≤◌, false, ◌&&◌, List, [], ◌∷◌, ◌++◌, ◌==◌}
use Rattle.std.specs.List.{AllByRecursion}
use Rattle.scanline.specs.declared.band.Band.{Band}
use Rattle.scanline.specs.Bands.{edges, covers}
use Rattle.tiles.specs.declared.tile.Tile.{Tile}
use Rattle.tiles.specs.Tiles.{held, Ordered}

-- the intervals of a line, from edge to edge
abbrev pub line_tiles : (layer top bottom : ℕ) → List ℕ → List Tile
line_tiles l t b [] = []
line_tiles l t b (e ∷ []) = []
line_tiles l t b (e ∷ (f ∷ es)) = record { layer = l; left = e; right = f; top = t; bottom = b } ∷ line_tiles l t b es

-- those of each band, up to where the next one begins
abbrev pub band_tiles : ℕ → List Band → List Tile
band_tiles l [] = []
band_tiles l (b ∷ []) = []
band_tiles l (b ∷ (c ∷ bs)) = line_tiles l b.from c.from (edges b) ++ band_tiles l (c ∷ bs)

-- from here on nothing of a layout lies
abbrev pub far : ℕ
far = 2 ^ 40

-- nothing is covered far to the right or far below
pub record Bounded (bs : List Band) : Type 0 where
  pub across : (x y : ℕ) → far ≤ x → covers bs x y ≡ false
  pub down : (x y : ℕ) → far ≤ y → covers bs x y ≡ false

-- `after` has the tiles of a region of a layer more: in order, and together what the region covers
pub record Cut (layer : ℕ) (bs : List Band) (before after : List Tile) : Type 0 where
  pub fresh : List Tile
  pub adds : after ≡ before ++ fresh
  pub ordered : Ordered fresh
  pub layers : AllByRecursion (λ t. t.layer ≡ layer) fresh
  pub holds : (l x y : ℕ) → held fresh l x y ≡ (l == layer && covers bs x y)
