-- What `read_region` keeps true as it goes round.
use Rattle.std.proofs.Common.{◌≡◌, map, drop, vec_items}
use Rattle.words.specs.Words.{token_of}
use Rattle.rule_text.specs.Expressions.{region_in, region_from, expression_of}
use Rattle.rule_text.proofs.expression.read_region.Given as goal

abbrev pub invariant-loop-at : goal.invariant-loop-at
invariant-loop-at l = region_from (expression_of l.expression) (map token_of (drop l.at l.words)) ≡ region_in (vec_items l.fn.nodes) (map token_of l.words)
