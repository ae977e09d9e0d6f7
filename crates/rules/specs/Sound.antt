-- When terms and a test make a rule. Assumes nothing: these are definitions.
use Rattle.std.specs.Prelude.{ℕ, ◌<◌, ◌≤◌, List, length, slice_index_or}
use Rattle.rules.specs.Numbers.{max_number, max_regions}
use Rattle.rules.specs.Terms.{Names}
use Rattle.rules.specs.declared.term.Term.{Term}
use Rattle.rules.specs.declared.term.Term.TheVariants.{Layer}
use Rattle.rules.specs.declared.rule.Test.{Test}
use Rattle.rules.specs.declared.rule.Test.TheVariants.{Wide, Apart, Inside, Never}

-- its number, and the least that it may be
abbrev pub number_of : Test → ℕ
number_of (Wide n) = n
number_of (Apart n) = n
number_of (Inside n) = n
number_of (Never) = 0

abbrev pub least_number : Test → ℕ
least_number (Wide n) = 1
least_number (Apart n) = 1
least_number (Inside n) = 0
least_number (Never) = 0

-- its number is small, and not 0 where the rule needs one
abbrev pub Mild : Test → Type 0
Mild t = (least_number t ≤ number_of t) × (number_of t ≤ max_number)

-- how many terms a test is of
abbrev pub needs : Test → ℕ
needs (Wide n) = 1
needs (Apart n) = 1
needs (Inside n) = 2
needs (Never) = 1

-- the terms name earlier ones only, there are enough of them, and the test's number is small
pub record Sound (ts : List Term) (t : Test) : Type 0 where
  pub enough : needs t ≤ length ts
  pub few : length ts ≤ max_regions
  pub names : (i : ℕ) → i < length ts → Names i (slice_index_or ts i (Layer 0))
  pub mild : Mild t
