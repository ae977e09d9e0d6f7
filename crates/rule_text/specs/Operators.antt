-- The words of rules and regions. Assumes nothing: these are definitions.
use Rattle.std.specs.Prelude.{ℕ, cond, List, Some, None, codes, Option}
use Rattle.std.specs.Str.{bytes_eq}
use Rattle.rule_text.specs.declared.operator.Operator.{Operator}
use Rattle.rule_text.specs.declared.operator.Operator.TheVariants.{And, Or, Without, Grown}
use Rattle.rule_text.specs.declared.operator.RuleKind.{RuleKind}
use Rattle.rule_text.specs.declared.operator.RuleKind.TheVariants.{Wide, Apart, Inside, Never}

abbrev pub operator_of : List ℕ → Option Operator
operator_of w =
    cond (bytes_eq w (codes "and")) (Some And)
    (cond (bytes_eq w (codes "or")) (Some Or)
    (cond (bytes_eq w (codes "without")) (Some Without)
    (cond (bytes_eq w (codes "grown")) (Some Grown) None)))

-- the kind of an operator's node
abbrev pub number_of : Operator → ℕ
number_of And = 1
number_of Or = 2
number_of Without = 3
number_of Grown = 4

abbrev pub rule_kind_of : List ℕ → Option RuleKind
rule_kind_of w =
    cond (bytes_eq w (codes "wide")) (Some Wide)
    (cond (bytes_eq w (codes "apart")) (Some Apart)
    (cond (bytes_eq w (codes "inside")) (Some Inside)
    (cond (bytes_eq w (codes "never")) (Some Never) None)))

abbrev pub rule_number : RuleKind → ℕ
rule_number Wide = 0
rule_number Apart = 1
rule_number Inside = 2
rule_number Never = 3
