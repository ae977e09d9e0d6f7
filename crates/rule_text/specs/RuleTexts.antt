-- Which rules a text means: one to a line. Assumes nothing: these are definitions.
use Rattle.std.specs.Prelude.{◌≡◌, ℕ, cond, List, [], ◌∷◌, ◌++◌, map, length, Ok, Err, vec_items, Result, Vec, ◌==◌}
use Rattle.std.specs.declared.alloc.Global.{Global}
use Rattle.layout.specs.Refusals.{place_of}
use Rattle.layout.specs.declared.refusal.Fault.{Fault}
use Rattle.layout.specs.declared.refusal.Fault.TheVariants.{Refused, Memory}
use Rattle.layout.specs.declared.refusal.Refusal.TheVariants.{Text}
use Rattle.words.specs.Lines.{lines_of, line_by_line}
use Rattle.words.specs.Words.{words_of}
use Rattle.words.specs.declared.word.Marks.TheVariants.{Parentheses}
use Rattle.words.specs.Steps.{by_some}
use Rattle.rule_text.specs.Rules.{Rule, rule_in, rule_of}
use Rattle.rule_text.specs.declared.rule.RuleText.{RuleText}

-- the rules after one line more, or its number where it can't be read; a line without words holds no rule
abbrev pub lined : ℕ → List Rule → List ℕ → Result (List Rule) ℕ
lined n rules line =
    cond (length (words_of Parentheses line) == 0) (Ok rules)
    (by_some (rule_in line (words_of Parentheses line) n) (Err n) (λ r. Ok (rules ++ r ∷ [])))

-- the rules of a text, or the number of the first line that can't be read
abbrev pub rules_text : List ℕ → Result (List Rule) ℕ
rules_text text = line_by_line lined 0 [] (lines_of text)

abbrev pub RulesRead : List ℕ → Result (Vec RuleText Global) Fault → Type 0
RulesRead text (Ok v) = rules_text text ≡ Ok (map rule_of (vec_items v))
RulesRead text (Err (Refused e)) = (e ≡ Text (place_of e)) × (rules_text text ≡ Err (place_of e))
RulesRead text (Err Memory) = Unit {0}
