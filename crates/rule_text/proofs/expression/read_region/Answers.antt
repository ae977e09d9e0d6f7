-- What `read_region` needs beyond what the search finds.
use Rattle.std.proofs.Common.{List, map, vec_items, Some, sym, ap, ◌∙◌}
use Rattle.std.proofs.lemmas.Result.{err_from_is_err_and}
use Rattle.words.specs.Words.{token_of}
use Rattle.words.specs.declared.word.Word.{Word}
use Rattle.rule_text.specs.Expressions.{expression_of}
use Rattle.rule_text.proofs.Expressions.{stopped, done, more, none_left}
use Rattle.rule_text.proofs.expression.read_region.Goals as goal

pub returns-in_err-accept : goal.returns-in_err-accept
returns-in_err-accept c =
    let p = err_from_is_err_and c.from_residual.result c.from_residual.ensures.1 in
    rw (p.1, p.2) (stopped _ _ _ _ c.loop-at.invariant _ c.loop-at-test.true (expression_of c.accept.new.self) _ c.in_err-accept.ensures)

pub returns-then-is_done : goal.returns-then-is_done
returns-then-is_done c =
    done _ _ _ _ c.loop-at.invariant _ c.loop-at-test.true _ c.in_ok-accept.ensures c.if-is_done.ensures
    ∙ ap (λ (ws : List Word). Some (record { nodes = vec_items c.accept.new.self.nodes; rest = map token_of ws })) (sym c.split_at.ensures.back)

pub loop-at-preserved : goal.loop-at-preserved
loop-at-preserved c = more _ _ _ _ c.loop-at.invariant _ c.loop-at-test.true _ c.in_ok-accept.ensures c.if-is_done.ensures

pub returns : goal.returns
returns c = none_left _ _ _ _ c.loop-at.invariant c.loop-at-test.false
