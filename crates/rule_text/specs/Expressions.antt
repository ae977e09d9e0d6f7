-- Regions as they are written, word by word: a layer's number, or two regions with and, or or without, or one with grown and a number, in parentheses. Assumes nothing: these are definitions.
use Rattle.std.specs.Prelude.{ℕ, ◌-◌, ◌/◌, Bool, true, false, cond, List, [], ◌∷◌, ◌++◌, map, length, take, Some, None, vec_items, codes, Option, Result, ◌==◌, slice_index_or}
use Rattle.std.specs.Str.{bytes_eq}
use Rattle.words.specs.Numbers.{number_in}
use Rattle.words.specs.Words.{Token, token_of}
use Rattle.words.specs.Steps.{by_some}
use Rattle.rule_text.specs.Operators.{operator_of, number_of}
use Rattle.rule_text.specs.declared.operator.Operator.{Operator}
use Rattle.rule_text.specs.declared.operator.Operator.TheVariants as operator
use Rattle.rule_text.specs.declared.expression.Frame.{Frame}
use Rattle.rule_text.specs.declared.expression.Frame.TheVariants as frame
use Rattle.rule_text.specs.declared.expression.Awaits.{Awaits}
use Rattle.rule_text.specs.declared.expression.Awaits.TheVariants as awaits
use Rattle.rule_text.specs.declared.expression.Expression.{Expression}
use Rattle.rule_text.specs.declared.expression.Region.{Region}
use Rattle.rule_text.specs.declared.stop.Stop.{Stop}
use Rattle.rule_text.specs.Faults.{Reads}

-- the nodes so far, operands first; the open parentheses, the innermost last; what the next word has to be
pub record Reading : Type 0 where
  pub nodes : List ℕ
  pub frames : List Frame
  pub next : Awaits

abbrev pub expression_of : Expression → Reading
expression_of e = record { nodes = vec_items e.nodes; frames = vec_items e.frames; next = e.awaits }

abbrev pub last_node : Reading → ℕ
last_node e = length e.nodes / 3 - 1

-- a region is at its end where no parenthesis is open
abbrev pub after_operand : Reading → Awaits
after_operand e = cond (length e.frames == 0) awaits.Nothing awaits.Further

abbrev pub added : Reading → List ℕ → Reading
added e node = record { nodes = e.nodes ++ node; frames = e.frames; next = after_operand e }

abbrev pub opened : Reading → Frame → Reading
opened e f = record { nodes = e.nodes; frames = e.frames ++ f ∷ []; next = e.next }

abbrev pub awaiting : Reading → Awaits → Reading
awaiting e a = record { nodes = e.nodes; frames = e.frames; next = a }

-- a layer, or an opening parenthesis
abbrev pub operand : Reading → List ℕ → Option Reading
operand e w = cond (bytes_eq w (codes "(")) (Some (opened e frame.Open)) (by_some (number_in w) None (λ l. Some (added e (0 ∷ l ∷ 0 ∷ []))))

abbrev pub grew : Reading → List ℕ → Option Reading
grew e w = by_some (number_in w) None (λ n. Some (awaiting (opened e (frame.Grown n (last_node e))) awaits.Further))

abbrev pub joins : Reading → Operator → Reading
joins e operator.And = awaiting (opened e (frame.Two operator.And (last_node e))) awaits.Operand
joins e operator.Or = awaiting (opened e (frame.Two operator.Or (last_node e))) awaits.Operand
joins e operator.Without = awaiting (opened e (frame.Two operator.Without (last_node e))) awaits.Operand
joins e operator.Grown = awaiting e awaits.Growth

abbrev pub operated : Reading → List ℕ → Option Reading
operated e w = by_some (operator_of w) None (λ o. Some (joins e o))

abbrev pub ended : Reading → List ℕ → List ℕ → Option Reading
ended e w node = cond (bytes_eq w (codes ")")) (Some (added e node)) None

-- the innermost parenthesis, and the others
abbrev pub innermost : Reading → Option Frame
innermost e = cond (length e.frames == 0) None (Some (slice_index_or e.frames (length e.frames - 1) frame.Open))

abbrev pub closed : Reading → Reading
closed e = record { nodes = e.nodes; frames = take (length e.frames - 1) e.frames; next = e.next }

abbrev pub further_in : Reading → List ℕ → Frame → Option Reading
further_in e w frame.Open = operated e w
further_in e w (frame.Two o l) = ended e w (number_of o ∷ l ∷ last_node e ∷ [])
further_in e w (frame.Grown n a) = ended e w (4 ∷ n ∷ a ∷ [])

abbrev pub further : Reading → List ℕ → Option Reading
further e w = by_some (innermost e) None (further_in (closed e) w)

abbrev pub accepted : Reading → List ℕ → Awaits → Option Reading
accepted e w awaits.Operand = operand e w
accepted e w awaits.Growth = grew e w
accepted e w awaits.Further = further e w
accepted e w awaits.Nothing = None

-- one word more, unless it can't stand here
abbrev pub accept : Reading → List ℕ → Option Reading
accept e w = accepted e w e.next

abbrev pub nothing_next : Awaits → Bool
nothing_next awaits.Operand = false
nothing_next awaits.Growth = false
nothing_next awaits.Further = false
nothing_next awaits.Nothing = true

abbrev pub is_done : Reading → Bool
is_done e = nothing_next e.next

-- the nodes of a region, and the words after it
pub record Found : Type 0 where
  pub nodes : List ℕ
  pub rest : List Token

unfoldable pub region_from : Reading → List Token → Option Found
region_from e [] = None
region_from e (t ∷ ts) = by_some (accept e t.bytes) None (λ z. cond (is_done z) (Some (record { nodes = z.nodes; rest = ts })) (region_from z ts))

-- a region whose nodes come after others
abbrev pub region_in : List ℕ → List Token → Option Found
region_in nodes ts = region_from (record { nodes = nodes; frames = []; next = awaits.Operand }) ts

-- a word is taken, or can't stand here
abbrev pub Takes : Option Reading → Reading → Result (Unit {0}) Stop → Type 0
Takes m e r = Reads m (λ u. e) r

abbrev pub found_of : Region → Found
found_of r = record { nodes = vec_items r.nodes; rest = map token_of r.rest.now }

abbrev pub RegionRead : Option Found → Result Region Stop → Type 0
RegionRead m r = Reads m found_of r
