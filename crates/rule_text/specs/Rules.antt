-- Rules as they are written, one to a line. Assumes nothing: these are definitions.
use Rattle.std.specs.Prelude.{◌≡◌, ℕ, ◌-◌, List, [], ◌∷◌, ◌++◌, map, length, take, drop, Some, None, vec_items, Option}
use Rattle.std.specs.List.{between}
use Rattle.words.specs.Numbers.{number_in}
use Rattle.words.specs.Words.{Token, token_of}
use Rattle.words.specs.Steps.{by_some}
use Rattle.rule_text.specs.Operators.{rule_kind_of}
use Rattle.rule_text.specs.Expressions.{Found, region_in}
use Rattle.rule_text.specs.declared.operator.RuleKind.{RuleKind}
use Rattle.rule_text.specs.declared.operator.RuleKind.TheVariants.{Wide, Apart, Inside, Never}
use Rattle.rule_text.specs.declared.rule.Number.{Number}
use Rattle.rule_text.specs.declared.rule.RuleText.{RuleText}

-- all nodes of a region but the last, and the last, which is the region
abbrev pub operands : List ℕ → List ℕ
operands ns = take (length ns - 3) ns

abbrev pub root : List ℕ → List ℕ
root ns = drop (length ns - 3) ns

-- two regions: the operands of the second, the first with its operands, and the second
abbrev pub inside_in : List Token → Option Found
inside_in ts =
    by_some (region_in [] ts) None
    (λ a. by_some (region_in [] a.rest) None
    (λ b. by_some (region_in (operands b.nodes) ts) None
    (λ c. Some (record { nodes = c.nodes ++ root b.nodes; rest = b.rest }))))

abbrev pub regions_in : RuleKind → List Token → Option Found
regions_in Wide ts = region_in [] ts
regions_in Apart ts = region_in [] ts
regions_in Inside ts = inside_in ts
regions_in Never ts = region_in [] ts

-- a number, and the words after it
pub record Counted : Type 0 where
  pub value : ℕ
  pub rest : List Token

abbrev pub number_first : List Token → Option Counted
number_first [] = None
number_first (t ∷ ts) = by_some (number_in t.bytes) None (λ n. Some (record { value = n; rest = ts }))

-- a never has no number
abbrev pub number_after : RuleKind → List Token → Option Counted
number_after Wide ts = number_first ts
number_after Apart ts = number_first ts
number_after Inside ts = number_first ts
number_after Never ts = Some (record { value = 0; rest = ts })

abbrev pub NumberRead : Option Counted → Option Number → Type 0
NumberRead m None = m ≡ None
NumberRead m (Some n) = m ≡ Some (record { value = n.value; rest = map token_of n.rest.now })

-- the message: from the first of the words that are left to the end of the last, with all that stands between them
unfoldable pub last_end : ℕ → List Token → ℕ
last_end e [] = e
last_end e (t ∷ ts) = last_end t.to ts

abbrev pub message_of : List ℕ → List Token → List ℕ
message_of text [] = []
message_of text (t ∷ ts) = between t.from (last_end t.to ts) text

pub record Rule : Type 0 where
  pub kind : RuleKind
  pub regions : List ℕ
  pub number : ℕ
  pub message : List ℕ
  pub line : ℕ

abbrev pub rule_of : RuleText → Rule
rule_of r = record { kind = r.kind; regions = vec_items r.regions; number = r.number; message = vec_items r.message; line = r.line }

abbrev pub after_kind : List ℕ → List Token → ℕ → RuleKind → Option Rule
after_kind text ts line k =
    by_some (regions_in k ts) None
    (λ f. by_some (number_after k f.rest) None
    (λ n. Some (record { kind = k; regions = f.nodes; number = n.value; message = message_of text n.rest; line = line })))

-- the rule that the words of a line are
abbrev pub rule_in : List ℕ → List Token → ℕ → Option Rule
rule_in text [] line = None
rule_in text (t ∷ ts) line = by_some (rule_kind_of t.bytes) None (after_kind text ts line)
