-- Laws of rules. Assumes nothing: these are statements, and a function's contract names them.
use Rattle.std.specs.Prelude.{◌≡◌, ℕ, ◌+◌, ◌<◌, ◌≤◌, true, false, ◌⊎◌}
use Rattle.layout.specs.Layout.{Layout, nothing, box, both, Drawing, shifted, drawn}
use Rattle.region.specs.Firsts.{First}
use Rattle.rules.specs.Rules.{Region, layer, and, or, without, grown, Rule, wide, apart, inside, never, breaks}

-- how far from a square what is drawn can make it one of the region
abbrev pub reach_of : Region → ℕ
reach_of (layer l) = 0
reach_of (and a b) = reach_of a + reach_of b
reach_of (or a b) = reach_of a + reach_of b
reach_of (without a b) = reach_of a + reach_of b
reach_of (grown n a) = n + reach_of a

-- and can make it break the rule
abbrev pub reach : Rule → ℕ
reach (wide r n) = n + reach_of r
reach (apart r n) = n + reach_of r
reach (inside a b n) = n + (reach_of a + reach_of b)
reach (never r) = reach_of r

-- of every layout and rule: no square breaks the rule, or there is a first one that does
abbrev pub Decided : Type 0
Decided =
    (bodies : ℕ → Layout) (n : ℕ) (a : Layout) (r : Rule) → ((x y : ℕ) → breaks (drawn bodies n a) r x y ≡ false) ⊎ ((x : ℕ) × (y : ℕ) × First (breaks (drawn bodies n a) r) x y)

-- five columns of three squares, and after a free one a single column
abbrev pub two_boxes : Drawing
two_boxes = drawn (λ k. nothing) 0 (both (box 0 0 0 5 3) (box 0 6 0 1 3))

-- exactly the first three squares of a column break the rule
abbrev pub ThreeBreak : Drawing → Rule → ℕ → Type 0
ThreeBreak d r c =
    (breaks d r c 0 ≡ true) × (breaks d r c 1 ≡ true) × (breaks d r c 2 ≡ true) × ((x y : ℕ) → breaks d r x y ≡ true → (x ≡ c) × (y < 3)) × First (breaks d r) c 0

-- the single column is too narrow, and the free one too
abbrev pub Table : Type 0
Table = ThreeBreak two_boxes (wide (layer 0) 2) 6 × ThreeBreak two_boxes (apart (layer 0) 2) 5

-- a drawing that keeps clear of the upper and left edges is judged alike wherever it is moved
abbrev pub RulesMove : Type 0
RulesMove =
    (d : Drawing) (k : Rule) (m r b x y : ℕ) → reach k ≤ m → ((l u v : ℕ) → (u < m) ⊎ (v < m) → d l u v ≡ false) → breaks (shifted r b d) k (x + r) (y + b) ≡ breaks d k x y
