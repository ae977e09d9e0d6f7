-- A rule as it is held: terms, and what is asked of the meant ones. Assumes nothing: these are definitions.
use Rattle.std.specs.Prelude.{◌≡◌, ℕ, ◌+◌, ◌*◌, ◌<◌, ◌≤◌, ◌⊎◌, List, length, take, Some, None, Ok, Err, Result, ◌==◌, slice_index, slice_index_or}
use Rattle.layout.specs.Layout.{pick}
use Rattle.layout.specs.declared.refusal.Refusal.{Refusal}
use Rattle.rules.specs.Rules as rules
use Rattle.rules.specs.Numbers.{number_fault, least_regions, max_number, regions_fault, further, RuleTurned}
use Rattle.rules.specs.Terms.{Read}
use Rattle.rules.specs.Sound.{Mild, needs}
use Rattle.layout.specs.Refusals.{place_of}
use Rattle.layout.specs.declared.refusal.Refusal.TheVariants.{Region}
use Rattle.rules.specs.declared.term.Term.{Term}
use Rattle.rules.specs.declared.term.Term.TheVariants.{Layer}
use Rattle.rules.specs.declared.rule.Test.{Test}
use Rattle.rules.specs.declared.rule.Test.TheVariants.{Wide, Apart, Inside, Never}
use Rattle.rules.specs.declared.rule.Rule.{Rule}

-- the terms that a rule has
abbrev pub terms_of : Rule → List Term
terms_of r = take r.len r.terms

-- the rule that a test is of the last region, and for inside of the one before it
abbrev pub test_rule : (before last : rules.Region) → Test → rules.Rule
test_rule a b (Wide n) = rules.wide b n
test_rule a b (Apart n) = rules.apart b n
test_rule a b (Inside n) = rules.inside a b n
test_rule a b (Never) = rules.never b

pub record TestRead (k n : ℕ) (t : Test) : Type 0 where
  pub sound : number_fault k n ≡ None
  pub mild : Mild t
  pub many : needs t ≡ least_regions k
  pub same : (a b : rules.Region) → pick {A = rules.Rule} (k == 0) (rules.wide b n) (pick (k == 1) (rules.apart b n) (pick (k == 2) (rules.inside a b n) (rules.never b))) ≡ test_rule a b t

-- a small number that isn't 0, or that it is no such number
abbrev pub Side : (number place : ℕ) → Result ℕ Refusal → Type 0
Side x p (Ok y) = (0 < x) × (x ≤ max_number) × (y ≡ x)
Side x p (Err e) = ((x ≡ 0) ⊎ (max_number < x)) × (e ≡ Region p)

-- the test of two numbers, or the place of the first of them at fault
abbrev pub Tests : (k n at : ℕ) → Result Test Refusal → Type 0
Tests k n at (Ok t) = TestRead k n t
Tests k n at (Err e) = (e ≡ Region (place_of e)) × (further at (number_fault k n) ≡ Some (place_of e))

-- the first m terms are those of the numbers
abbrev pub TermsRead : (xs : List ℕ) (m : ℕ) → List Term → Type 0
TermsRead xs m ts = (i : ℕ) → i < m → Read i (slice_index xs (3 * i)) (slice_index xs (3 * i + 1)) (slice_index xs (3 * i + 2)) (slice_index_or ts i (Layer 0))

abbrev pub Terms : (xs : List ℕ) (m : ℕ) → Result (List Term) Refusal → Type 0
Terms xs m (Ok ts) = (length (take m ts) ≡ m) × (regions_fault xs m ≡ None) × TermsRead xs m (take m ts)
Terms xs m (Err e) = (e ≡ Region (place_of e)) × (regions_fault xs m ≡ Some (place_of e))

pub record RuleRead (xs : List ℕ) (k n : ℕ) (r : Rule) : Type 0 where
  pub length_is : length xs ≡ 3 * length (terms_of r)
  pub terms : TermsRead xs (length (terms_of r)) (terms_of r)
  pub test : TestRead k n r.test
  pub sound : regions_fault xs (length (terms_of r)) ≡ None

-- the rule of numbers that are taken, or why they are turned away
abbrev pub RulesRead : (xs : List ℕ) (k n : ℕ) → Result Rule Refusal → Type 0
RulesRead xs k n (Ok r) = RuleRead xs k n r
RulesRead xs k n (Err e) = RuleTurned xs k n e
