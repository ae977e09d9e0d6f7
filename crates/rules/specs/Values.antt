-- What the terms of a rule come to. Assumes nothing: these are definitions.
use Rattle.std.specs.Prelude.{◌≡◌, ℕ, zero, suc, ◌+◌, ◌-◌, ◌*◌, ◌^◌, ◌<◌, ◌≤◌, Bool, true, false, not, ◌&&◌, ◌||◌, List, [], ◌∷◌, ◌++◌, length, get_or, vec_items, slice_index_or}
use Rattle.std.specs.List.{AllByRecursion}
use Rattle.layout.specs.Layout.{Drawing}
use Rattle.scanline.specs.Bands.{covers}
use Rattle.region.specs.declared.regions.Region.{Region}
use Rattle.region.specs.Firsts.{Squares}
use Rattle.blocks.specs.Blocks.{near}
use Rattle.blocks.specs.Settled.{Settled, Exactly}
use Rattle.rules.specs.Rules as rules
use Rattle.rules.specs.Rules.{squares, breaks}
use Rattle.rules.specs.Terms.{named, term_region}
use Rattle.rules.specs.Sound.{needs}
use Rattle.rules.specs.Tests.{test_rule, terms_of}
use Rattle.rules.specs.Layers.{shows}
use Rattle.rules.specs.declared.term.Term.{Term}
use Rattle.rules.specs.declared.term.Term.TheVariants.{Layer, And, Or, Without, Grown}
use Rattle.rules.specs.declared.rule.Rule.{Rule}
use Rattle.rules.specs.declared.layers.Layers.{Layers}

-- the regions of the first n terms
unfoldable pub values : List Term → ℕ → List rules.Region
values ts zero = []
values ts (suc n) = values ts n ++ term_region (λ i. get_or (values ts n) i (rules.layer 0)) (slice_index_or ts n (Layer 0)) ∷ []

-- the region of term n
abbrev pub value : List Term → ℕ → rules.Region
value ts n = term_region (λ i. get_or (values ts n) i (rules.layer 0)) (slice_index_or ts n (Layer 0))

-- the rule that is held
abbrev pub held_rule : Rule → rules.Rule
held_rule r = test_rule (value (terms_of r) (length (terms_of r) - 2)) (value (terms_of r) (length (terms_of r) - 1)) r.test

-- each term that a term names passes a test
abbrev pub Over : (ℕ → Bool) → Term → Type 0
Over p t = AllByRecursion (λ a. p a ≡ true) (named t)

abbrev pub among : List Bool → ℕ → Bool
among need i = slice_index_or need i false

-- what a term names is marked too, and what is marked stays so; from term n on nothing changes
pub record Marked (n : ℕ) (t : Term) (before after : List Bool) : Type 0 where
  pub over : Over (among after) t
  pub keeps : (i : ℕ) → among before i ≡ true → among after i ≡ true
  pub later : (i : ℕ) → n ≤ i → among after i ≡ among before i
  pub long : length after ≡ length before

-- the meant terms are marked, and with each term those that it names
pub record Needed (r : Rule) (need : List Bool) : Type 0 where
  pub last : among need (length (terms_of r) - 1) ≡ true
  pub before : needs r.test ≡ 2 → among need (length (terms_of r) - 2) ≡ true
  pub closed : (i : ℕ) → i < length (terms_of r) → among need i ≡ true → Over (among need) (slice_index_or (terms_of r) i (Layer 0))

-- the layers that the first n terms name show what is drawn, and all that is drawn settles at m
pub record Shown (d : Drawing) (m : ℕ) (s : Layers) (ts : List Term) (n : ℕ) : Type 0 where
  pub near : m + 65536 < 2 ^ 64
  pub settles : (l : ℕ) → Settled m (d l)
  pub shows_it : (i l x y : ℕ) → i < n → slice_index_or ts i (Layer 0) ≡ Layer l → shows s l x y ≡ d l x y

-- the squares of a region of the list
abbrev pub done_at : List Region → ℕ → Region → Squares
done_at done i e = covers (vec_items (get_or done i e).bands)

-- one term done: what it says of the regions that it names
abbrev pub TermDone : Layers → List Region → Term → Region → Type 0
TermDone s done (Layer l) v = (x y : ℕ) → covers (vec_items v.bands) x y ≡ shows s l x y
TermDone s done (And a b) v = (e : Region) (x y : ℕ) → covers (vec_items v.bands) x y ≡ (done_at done a e x y && done_at done b e x y)
TermDone s done (Or a b) v = (e : Region) (x y : ℕ) → covers (vec_items v.bands) x y ≡ (done_at done a e x y || done_at done b e x y)
TermDone s done (Without a b) v = (e : Region) (x y : ℕ) → covers (vec_items v.bands) x y ≡ (done_at done a e x y && not (done_at done b e x y))
TermDone s done (Grown n a) v = (e : Region) → Exactly (2 * n) (done_at done a e) (near n (done_at done a e)) (covers (vec_items v.bands))

-- the first n regions are those of the terms, where they are needed
pub record Evaluated (d : Drawing) (ts : List Term) (need : List Bool) (n : ℕ) (done : List Region) : Type 0 where
  pub holds : (i x y : ℕ) (e : Region) → i < n → among need i ≡ true → covers (vec_items (get_or done i e).bands) x y ≡ squares d (value ts i) x y

-- a region of the squares that break the rule
abbrev pub Breaking : Layers → Rule → Region → Type 0
Breaking s r v = (d : Drawing) (m : ℕ) → Shown d m s (terms_of r) (length (terms_of r)) → (x y : ℕ) → covers (vec_items v.bands) x y ≡ breaks d (held_rule r) x y
