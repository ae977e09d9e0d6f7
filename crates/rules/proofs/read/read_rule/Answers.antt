-- What `read_rule` needs beyond what the search finds.
use Rattle.std.proofs.Common.{◌≡◌, ◌*◌, ◌/◌, ◌≤◌, length, sym, ap, ◌∙◌, subst, rules}
use Rattle.std.proofs.lemmas.Result.{err_from_is_err_and}
use Rattle.layout.specs.declared.refusal.Refusal.{Refusal}
use Rattle.rules.specs.Numbers.{least_regions, or_else, further, number_fault, RuleTurned}
use Rattle.rules.proofs.read.read_rule.Goals as goal

pub returns-in_err-terms : goal.returns-in_err-terms
returns-in_err-terms c =
    let m = length c.args.regions.now / 3 in
    let whole : length c.args.regions.now ≡ 3 * m = search rules in
    let enough : least_regions c.args.kind ≤ m = search rules in
    let few : m ≤ 16 = search rules in
    let p = err_from_is_err_and c.from_residual.result c.from_residual.ensures.1 in
    let e = c.in_err-terms.ensures in
    rw (p.1, p.2) (subst (λ (r : Refusal). RuleTurned c.args.regions.now c.args.kind c.args.number r) (sym e.0) (m, whole, enough, few, ap (λ o. or_else o (further (3 * m) (number_fault c.args.kind c.args.number))) e.1))

pub returns-in_err-test : goal.returns-in_err-test
returns-in_err-test c =
    let m = length c.args.regions.now / 3 in
    let whole : length c.args.regions.now ≡ 3 * m = search rules in
    let enough : least_regions c.args.kind ≤ m = search rules in
    let few : m ≤ 16 = search rules in
    let p = err_from_is_err_and c.from_residual-in_err-test.result c.from_residual-in_err-test.ensures.1 in
    let e = c.in_err-test.ensures in
    rw (p.1, p.2) (subst (λ (r : Refusal). RuleTurned c.args.regions.now c.args.kind c.args.number r) (sym e.0) (m, whole, enough, few, ap (λ o. or_else o (further (3 * m) (number_fault c.args.kind c.args.number))) c.in_ok-terms.ensures.1 ∙ e.1))
