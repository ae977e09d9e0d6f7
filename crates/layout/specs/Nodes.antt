-- What a node says. Assumes nothing: these are definitions.
use Rattle.std.specs.Prelude.{◌≡◌, ℕ, ◌+◌, ◌*◌, ◌<◌, ◌≤◌, Bool, true, false, List, [], ◌∷◌, Some, None, Option, slice_index}
use Rattle.layout.specs.Limits.{max_number}
use Rattle.layout.specs.Layout.{Layout, nothing, box, both, row, column}
use Rattle.layout.specs.Numbers.{node_of, earlier_1}
use Rattle.layout.specs.Rects.{Within}
use Rattle.layout.specs.declared.node.Node.{Node}
use Rattle.layout.specs.declared.node.Node.TheVariants.{Nothing, One, Both, Changed, Row, Column}
use Rattle.layout.specs.declared.change.Change.TheVariants.{Move, Turn, Mirror}
use Rattle.layout.specs.Changes.{changed, Little}

-- the layout that a node is, with what the named ones are
abbrev pub layout_of : (ℕ → Layout) → Node → Layout
layout_of f Nothing = nothing
layout_of f (One q) = box q.layer q.x q.y q.across q.down
layout_of f (Both a b) = both (f a) (f b)
layout_of f (Changed w a) = changed w (f a)
layout_of f (Row n d a) = row n d (f a)
layout_of f (Column n d a) = column n d (f a)

-- it names nodes below n, and its numbers are small
abbrev pub Modest : ℕ → Node → Type 0
Modest n Nothing = Unit {0}
Modest n (One q) = Within (2 * max_number) q
Modest n (Both a b) = (a < n) × (b < n)
Modest n (Changed w a) = (a < n) × Little w
Modest n (Row k d a) = (a < n) × (k ≤ max_number) × (d ≤ max_number)
Modest n (Column k d a) = (a < n) × (k ≤ max_number) × (d ≤ max_number)

unfoldable pub numbered : (ℕ → Layout) → List ℕ → ℕ → Layout
numbered f xs n = node_of f (slice_index xs (6 * n)) (slice_index xs (6 * n + 1)) (slice_index xs (6 * n + 2)) (slice_index xs (6 * n + 3)) (slice_index xs (6 * n + 4)) (slice_index xs (6 * n + 5))

unfoldable pub orderly : List ℕ → ℕ → Bool
orderly xs n = earlier_1 n (slice_index xs (6 * n)) (slice_index xs (6 * n + 1)) (slice_index xs (6 * n + 2)) (slice_index xs (6 * n + 3))

-- the numbers that spell it: its kind, and what it says
abbrev pub Spelled : (k a b c e f : ℕ) → Node → Type 0
Spelled k a b c e f Nothing = k ≡ 0
Spelled k a b c e f (One q) = (k ≡ 1) × (a ≡ q.layer) × (b ≡ q.x) × (c ≡ q.y) × (e ≡ q.across) × (f ≡ q.down)
Spelled k a b c e f (Both i j) = (k ≡ 2) × (a ≡ i) × (b ≡ j)
Spelled k a b c e f (Changed (Move r u) i) = (k ≡ 3) × (a ≡ r) × (b ≡ u) × (c ≡ i)
Spelled k a b c e f (Changed (Turn s) i) = (k ≡ 4) × (a ≡ s) × (b ≡ i)
Spelled k a b c e f (Changed (Mirror s) i) = (k ≡ 5) × (a ≡ s) × (b ≡ i)
Spelled k a b c e f (Row m d i) = (k ≡ 6) × (a ≡ m) × (b ≡ d) × (c ≡ i)
Spelled k a b c e f (Column m d i) = (k ≡ 7) × (a ≡ m) × (b ≡ d) × (c ≡ i)

-- these numbers, zeros where it says nothing
abbrev pub numbers_of : Node → List ℕ
numbers_of Nothing = 0 ∷ 0 ∷ 0 ∷ 0 ∷ 0 ∷ 0 ∷ []
numbers_of (One q) = 1 ∷ q.layer ∷ q.x ∷ q.y ∷ q.across ∷ q.down ∷ []
numbers_of (Both i j) = 2 ∷ i ∷ j ∷ 0 ∷ 0 ∷ 0 ∷ []
numbers_of (Changed (Move r u) i) = 3 ∷ r ∷ u ∷ i ∷ 0 ∷ 0 ∷ []
numbers_of (Changed (Turn s) i) = 4 ∷ s ∷ i ∷ 0 ∷ 0 ∷ 0 ∷ []
numbers_of (Changed (Mirror s) i) = 5 ∷ s ∷ i ∷ 0 ∷ 0 ∷ 0 ∷ []
numbers_of (Row m d i) = 6 ∷ m ∷ d ∷ i ∷ 0 ∷ 0 ∷ []
numbers_of (Column m d i) = 7 ∷ m ∷ d ∷ i ∷ 0 ∷ 0 ∷ []

pub record Read (xs : List ℕ) (n : ℕ) (d : Node) : Type 0 where
  pub spelled : Spelled (slice_index xs (6 * n)) (slice_index xs (6 * n + 1)) (slice_index xs (6 * n + 2)) (slice_index xs (6 * n + 3)) (slice_index xs (6 * n + 4)) (slice_index xs (6 * n + 5)) d
  pub orders : orderly xs n ≡ true
  pub same : (f : ℕ → Layout) → numbered f xs n ≡ layout_of f d
  pub modest : Modest n d

abbrev pub Reads : List ℕ → ℕ → Option Node → Type 0
Reads xs n None = orderly xs n ≡ false
Reads xs n (Some d) = Read xs n d
