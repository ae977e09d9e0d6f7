-- Regions as trees, how each is spelled, and which nodes it is: a law that the reader keeps. Assumes nothing: these are definitions and a statement that a contract names.
use Rattle.std.specs.Prelude.{◌≡◌, ℕ, ◌+◌, ◌-◌, ◌*◌, List, [], ◌∷◌, ◌++◌, length, Some, codes}
use Rattle.words.specs.Numbers.{number_in}
use Rattle.words.specs.Words.{Token}
use Rattle.rule_text.specs.Expressions.{Found, region_in}

-- a layer; two regions by and, or or without; a region grown by a number
pub data Joint : Type 0 where
  and or without : Joint

pub data Tree : Type 0 where
  layer : ℕ → Tree
  two : Joint → Tree → Tree → Tree
  grown : (by : ℕ) → Tree → Tree

abbrev pub word_of : Joint → List ℕ
word_of and = codes "and"
word_of or = codes "or"
word_of without = codes "without"

abbrev pub kind_of : Joint → ℕ
kind_of and = 1
kind_of or = 2
kind_of without = 3

-- the words of a region: its operands in parentheses
unfoldable pub Spells : Tree → List Token → Type 0
Spells (layer n) ts = (t : Token) × (ts ≡ t ∷ []) × (number_in t.bytes ≡ Some n)
Spells (two j a b) ts =
    (p : Token) × (xs : List Token) × (q : Token) × (ys : List Token) × (r : Token)
    × (ts ≡ p ∷ (xs ++ (q ∷ (ys ++ (r ∷ [])))))
    × (p.bytes ≡ codes "(") × Spells a xs × (q.bytes ≡ word_of j) × Spells b ys × (r.bytes ≡ codes ")")
Spells (grown n a) ts =
    (p : Token) × (xs : List Token) × (q : Token) × (m : Token) × (r : Token)
    × (ts ≡ p ∷ (xs ++ (q ∷ (m ∷ (r ∷ [])))))
    × (p.bytes ≡ codes "(") × Spells a xs × (q.bytes ≡ codes "grown") × (number_in m.bytes ≡ Some n) × (r.bytes ≡ codes ")")

-- how many nodes a region is, and which, from a number on: operands first, left before right
unfoldable pub count : Tree → ℕ
count (layer n) = 1
count (two j a b) = count a + count b + 1
count (grown n a) = count a + 1

unfoldable pub numbered : ℕ → Tree → List ℕ
numbered k (layer n) = 0 ∷ n ∷ 0 ∷ []
numbered k (two j a b) = (numbered k a ++ numbered (k + count a) b) ++ (kind_of j ∷ (k + count a - 1) ∷ (k + count a + count b - 1) ∷ [])
numbered k (grown n a) = numbered k a ++ (4 ∷ n ∷ (k + count a - 1) ∷ [])

-- a region that is spelled is read as its nodes, up to its end and no further
abbrev pub ReadsSpelled : Type 0
ReadsSpelled =
    (r : Tree) (ts rest : List Token) (ns : List ℕ) (k : ℕ) → length ns ≡ 3 * k → Spells r ts → region_in ns (ts ++ rest) ≡ Some (record { nodes = ns ++ numbered k r; rest = rest })

-- what is read as a region is spelled so
abbrev pub ReadsOnlySpelled : Type 0
ReadsOnlySpelled =
    (ts : List Token) (ns : List ℕ) (k : ℕ) (f : Found) → length ns ≡ 3 * k → region_in ns ts ≡ Some f → (r : Tree) × (us : List Token) × (ts ≡ us ++ f.rest) × Spells r us × (f.nodes ≡ ns ++ numbered k r)
