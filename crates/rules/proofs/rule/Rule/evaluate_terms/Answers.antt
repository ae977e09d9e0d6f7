-- What `evaluate_terms` needs beyond what the search finds.
use Rattle.std.proofs.Common.{◌≡◌, ◌+◌, ◌<◌, length, get_or, vec_items, sym, refl, ap, ◌∙◌, subst, arith}
use Rattle.rules.specs.Terms.{Names}
use Rattle.rules.specs.Tests.{terms_of}
use Rattle.rules.specs.Values.{Evaluated, TermDone}
use Rattle.rules.specs.declared.term.Term.TheVariants.{Layer}
use Rattle.rules.proofs.Evaluations.{evaluated_none, evaluated-more}
use Rattle.rules.proofs.rule.Rule.evaluate_terms.Goals as goal

pub loop-n-init : goal.loop-n-init
loop-n-init c = (c.new-done.ensures.len, λ d m s. evaluated_none d _ _ _)

pub evaluate_needed-requires : goal.evaluate_needed-requires
evaluate_needed-requires c =
    let e : c.loop-n.n ≡ length c.as_slice.result.now = sym (c.as_slice.ensures.len ∙ c.loop-n.invariant.0) in
    let here : c.loop-n.n < length (terms_of c.args.self.now) = omega (arith, c.loop-n-test.true, ap length c.terms-term-items.ensures.value) in
    rw c.terms-term-items.ensures.value (subst (λ n. Names n (get_or (terms_of c.args.self.now) c.loop-n.n (Layer 0))) e (c.args.self.now.sound.names c.loop-n.n here))

pub loop-n-preserved : goal.loop-n-preserved
loop-n-preserved c =
    let n = c.loop-n.n in
    let long = c.loop-n.invariant.0 in
    let p = c.in_ok-push.ensures.by_index in
    let rule = c.args.self.now in
    let here : n < length (terms_of rule) = omega (arith, c.loop-n-test.true, ap length c.terms-term-items.ensures.value) in
    let before = vec_items c.loop-n.done in (
      c.in_ok-push.ensures.len ∙ ap (λ v. v + 1) long,
      λ d m s. evaluated-more d m c.args.layers.now (terms_of rule) (length (terms_of rule)) s c.args.self.now.sound.names c.args.self.now.sound.few c.args.need.now n here before (c.loop-n.invariant.1 d m s) _ c.in_ok-region.region
          (λ k e l. p.0 k e (omega (arith, long)))
          (λ e. subst (λ v. get_or (vec_items c.push.new.self) v e ≡ c.in_ok-region.region) long (p.1 e refl))
          (c.args.self.now.sound.names n here)
          (λ t. c.requires.closed n here t)
          (λ t. subst (λ v. TermDone c.args.layers.now v (get_or (terms_of rule) n (Layer 0)) c.in_ok-region.region) c.as_slice.ensures.value (rw c.terms-term-items.ensures.value at (c.in_ok-region.ensures t))),
    )

pub returns : goal.returns
returns c =
    let e : c.loop-n.n ≡ length (terms_of c.args.self.now) = omega (arith, ap length c.terms-term-items.ensures.value) in
    record {
      long = c.loop-n.invariant.0 ∙ e;
      values = λ d m s. subst (λ n. Evaluated d (terms_of c.args.self.now) c.args.need.now n (vec_items c.loop-n.done)) e (c.loop-n.invariant.1 d m s);
    }
