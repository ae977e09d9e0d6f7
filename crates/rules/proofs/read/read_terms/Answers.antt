-- What `read_terms` needs beyond what the search finds.
use Rattle.std.proofs.Common.{◌≡◌, ◌<◌, ◌≤◌, length, None, refl, subst, arith, length-set}
use Rattle.std.proofs.lemmas.List.{length-take-le}
use Rattle.std.proofs.lemmas.Result.{err_from_is_err_and}
use Rattle.rules.specs.Numbers.{regions_fault}
use Rattle.rules.specs.Tests.{TermsRead}
use Rattle.layout.specs.Refusals.{place_of}
use Rattle.rules.proofs.Readings.{no_fault, fault_more, fault_of, terms-more, terms_taken}
use Rattle.rules.proofs.read.read_terms.Goals as goal

pub loop-n-init : goal.loop-n-init
loop-n-init c = (refl, no_fault c.args.regions.now, λ i l. absurd (omega arith))

pub returns-in_err-term : goal.returns-in_err-term
returns-in_err-term c =
    let p = err_from_is_err_and c.from_residual.result c.from_residual.ensures.1 in
    let e = c.in_err-term.ensures in
    rw (p.1, p.2) (e.0, fault_of c.args.regions.now c.args.len c.loop-n.n (place_of c.in_err-term.field-0.0) c.loop-n-test.true c.loop-n.invariant.1 e.1)

pub loop-n-preserved : goal.loop-n-preserved
loop-n-preserved c =
    let r = c.in_ok-term.ensures in
    let few = c.requires.few in
    let l : c.loop-n.n < length c.loop-n.terms = omega (arith, c.loop-n.invariant.0) in (
      simp length-set c.loop-n.invariant.0,
      fault_more c.args.regions.now c.loop-n.n c.loop-n.invariant.1 r.sound,
      terms-more c.args.regions.now c.loop-n.n c.loop-n.terms c.in_ok-term.term l c.loop-n.invariant.2 r,
    )

pub returns : goal.returns
returns c =
    let e : c.loop-n.n ≡ c.args.len = omega arith in
    let few : c.args.len ≤ length c.loop-n.terms = omega (arith, c.requires.few, c.loop-n.invariant.0) in
    let h = subst (λ n. (regions_fault c.args.regions.now n ≡ None) × TermsRead c.args.regions.now n c.loop-n.terms) e (c.loop-n.invariant.1, c.loop-n.invariant.2) in
    (length-take-le c.args.len c.loop-n.terms few, h.0, terms_taken c.args.regions.now c.args.len c.loop-n.terms h.1)
