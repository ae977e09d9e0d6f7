-- A rule in numbers: up to sixteen regions of three numbers that name earlier regions only, the rule's kind and its number. Assumes nothing: these are definitions.
use Rattle.std.specs.Prelude.{◌≡◌, ℕ, zero, suc, ◌+◌, ◌-◌, ◌*◌, ◌≤◌, ◌&&◌, ◌||◌, List, [], ◌∷◌, ◌++◌, length, get_or, Some, None, Option, ◌==◌, nat_le, nat_lt, slice_index, slice_index_or}
use Rattle.layout.specs.Layout.{pick}
use Rattle.layout.specs.declared.refusal.Refusal.{Refusal}
use Rattle.layout.specs.declared.refusal.Refusal.TheVariants.{Nodes, Number, Node, Boxes, Regions, Region, Technology, Spots, Room, Circuit, Text}
use Rattle.rules.specs.Rules as rules
use Rattle.rules.specs.Rules.{layer, and, or, without, grown, Rule, wide, apart, inside, never}

abbrev pub max_regions : ℕ
max_regions = 16

abbrev pub max_number : ℕ
max_number = 255

-- 0 layer a, 1 and a b, 2 or a b, 3 without a b, 4 grown a b: grown by a of the region b
abbrev pub region_of : (ℕ → rules.Region) → (k a b : ℕ) → rules.Region
region_of f k a b = pick (k == 0) (layer a) (pick (k == 1) (and (f a) (f b)) (pick (k == 2) (or (f a) (f b)) (pick (k == 3) (without (f a) (f b)) (grown a (f b)))))

-- each three numbers say one region more, made of those before it
unfoldable pub regions_from : List rules.Region → List ℕ → List rules.Region
regions_from done [] = done
regions_from done (k ∷ []) = done
regions_from done (k ∷ (a ∷ [])) = done
regions_from done (k ∷ (a ∷ (b ∷ xs))) = regions_from (done ++ region_of (λ i. get_or done i (layer 0)) k a b ∷ []) xs

abbrev pub regions_in : List ℕ → List rules.Region
regions_in xs = regions_from [] xs

-- the region that many places from the end
abbrev pub meant : ℕ → List ℕ → rules.Region
meant back xs = slice_index_or (regions_in xs) (length (regions_in xs) - back) (layer 0)

-- kinds of rules: 0 wide, 1 apart, 2 inside, 3 never; the last region is meant, and for inside the last two
abbrev pub rule_in : List ℕ → (kind number : ℕ) → Rule
rule_in xs k n = pick (k == 0) (wide (meant 1 xs) n) (pick (k == 1) (apart (meant 1 xs) n) (pick (k == 2) (inside (meant 2 xs) (meant 1 xs) n) (never (meant 1 xs))))

-- how many regions a rule needs
abbrev pub least_regions : ℕ → ℕ
least_regions k = pick (k == 2) 2 1

-- the first of the numbers k a b of region n that can't stand there: a kind above 4; a layer, a growth or a number without use above the limit; a name that isn't an earlier region
abbrev pub region_fault : (n k a b : ℕ) → Option ℕ
region_fault n k a b =
    pick (nat_lt 4 k) (Some 0)
    (pick (pick (k == 0 || k == 4) (nat_lt max_number a) (nat_le n a)) (Some 1)
    (pick (pick (k == 0) (nat_lt max_number b) (nat_le n b)) (Some 2) None))

abbrev pub further : ℕ → Option ℕ → Option ℕ
further n None = None
further n (Some p) = Some (n + p)

abbrev pub or_else : Option ℕ → Option ℕ → Option ℕ
or_else None b = b
or_else (Some p) b = Some p

-- the first of the numbers of the first n regions that can't stand where it stands
unfoldable pub regions_fault : List ℕ → ℕ → Option ℕ
regions_fault xs zero = None
regions_fault xs (suc n) = or_else (regions_fault xs n) (further (3 * n) (region_fault n (slice_index xs (3 * n)) (slice_index xs (3 * n + 1)) (slice_index xs (3 * n + 2))))

-- after the regions the rule's kind, and its number, which for wide and apart is not 0
abbrev pub number_fault : (kind number : ℕ) → Option ℕ
number_fault k n = pick (nat_lt 3 k) (Some 0) (pick (nat_lt max_number n || (nat_le k 1 && n == 0)) (Some 1) None)

abbrev pub rule_fault : (regions : ℕ) → List ℕ → (kind number : ℕ) → Option ℕ
rule_fault m xs k n = or_else (regions_fault xs m) (further (3 * m) (number_fault k n))

-- which refusal a rule meets, and where; the refusals of other entries never come
abbrev pub RuleTurned : (xs : List ℕ) (k n : ℕ) → Refusal → Type 0
RuleTurned xs k n (Nodes p) = ⊥
RuleTurned xs k n (Number p) = ⊥
RuleTurned xs k n (Node p) = ⊥
RuleTurned xs k n (Boxes p) = ⊥
RuleTurned xs k n (Regions p) = (p ≡ length xs) × ((m : ℕ) → length xs ≡ 3 * m → least_regions k ≤ m → m ≤ max_regions → ⊥)
RuleTurned xs k n (Region p) = (m : ℕ) × (length xs ≡ 3 * m) × (least_regions k ≤ m) × (m ≤ max_regions) × (rule_fault m xs k n ≡ Some p)
RuleTurned xs k n (Technology p) = ⊥
RuleTurned xs k n (Spots p) = ⊥
RuleTurned xs k n (Room p) = ⊥
RuleTurned xs k n (Circuit p) = ⊥
RuleTurned xs k n (Text p) = ⊥

-- a rule is taken
pub record Taken (xs : List ℕ) (k n : ℕ) : Type 0 where
  pub many : ℕ
  pub length_is : length xs ≡ 3 * many
  pub enough : least_regions k ≤ many
  pub few : many ≤ max_regions
  pub sound : rule_fault many xs k n ≡ None
