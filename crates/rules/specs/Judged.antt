-- What judging a rule answers. Assumes nothing: these are definitions.
use Rattle.std.specs.Prelude.{◌≡◌, ℕ, ◌<◌, Bool, true, false, ◌⊎◌, List, length, Ok, Err, Result, slice_index_or}
use Rattle.layout.specs.Numbers.{layout_refusal, layout_in}
use Rattle.layout.specs.Checks.{TurnedAway}
use Rattle.layout.specs.declared.refusal.Fault.{Fault}
use Rattle.layout.specs.declared.refusal.Fault.TheVariants as fault
use Rattle.region.specs.Firsts.{First, Squares}
use Rattle.rules.specs.Rules.{breaks}
use Rattle.rules.specs.Numbers.{rule_in, RuleTurned, Taken}
use Rattle.rules.specs.Tests.{terms_of}
use Rattle.rules.specs.Values.{among}
use Rattle.rules.specs.declared.term.Term.TheVariants.{Layer}
use Rattle.rules.specs.declared.rule.Rule.{Rule}
use Rattle.rules.specs.declared.judge.Verdict.{Verdict}
use Rattle.rules.specs.declared.judge.Verdict.TheVariants.{Clean, Broken}

-- the layers of all terms are marked, and what was marked stays so
pub record LayersMarked (r : Rule) (before after : List Bool) : Type 0 where
  pub marks : (i l : ℕ) → i < length (terms_of r) → slice_index_or (terms_of r) i (Layer 0) ≡ Layer l → among after l ≡ true
  pub keeps : (l : ℕ) → among before l ≡ true → among after l ≡ true

-- no square breaks the rule, or this is the first one that does
abbrev pub Verdicts : Squares → Verdict → Type 0
Verdicts s Clean = (x y : ℕ) → s x y ≡ false
Verdicts s (Broken x y) = First s x y

-- what judging says; or the layout's refusal, or else the rule's; or that there was no memory for a layout that is taken
abbrev pub Judges : (xs rs : List ℕ) (k n : ℕ) → Result Verdict Fault → Type 0
Judges xs rs k n (Ok v) = (layout_refusal xs ≡ 0) × Taken rs k n × Verdicts (breaks (layout_in xs) (rule_in rs k n)) v
Judges xs rs k n (Err (fault.Refused e)) = TurnedAway xs e ⊎ ((layout_refusal xs ≡ 0) × RuleTurned rs k n e)
Judges xs rs k n (Err fault.Memory) = layout_refusal xs ≡ 0
