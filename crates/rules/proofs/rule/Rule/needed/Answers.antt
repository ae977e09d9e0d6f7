-- What `needed` needs beyond what the search finds.
use Rattle.std.proofs.Common.{◌≡◌, suc, ◌-◌, false, length, replicate, refl, ap, subst, arith}
use Rattle.rules.proofs.Marks.{Marking, mark-needed, mark-not, mark-all, mark-last, mark-both}
use Rattle.rules.proofs.rule.Rule.needed.Goals as goal
use Rattle.rules.proofs.rule.Rule.needed.Goals.{in-Inside, in_default}

pub loop-n-init : goal.loop-n-init
loop-n-init c =
    elim c.match-self.branch [
      | in-Inside w ↦ rw (w.need-is, ap length c.terms-terms.ensures.value) (mark-both c.args.self.now (replicate 16 false) _ refl w.in-Inside.is)
      | in_default w ↦ rw (w.need-is, ap length c.terms-terms.ensures.value) (mark-last c.args.self.now (replicate 16 false) refl w.in_default.not-Inside)
    ]

pub loop-n-preserved-then-need-n : goal.loop-n-preserved-then-need-n
loop-n-preserved-then-need-n c =
    let k = c.loop-n.n - 1 in
    let e : c.loop-n.n ≡ suc k = omega arith in
    mark-needed c.args.self.now k c.loop-n.need _ (subst (λ n. Marking c.args.self.now n c.loop-n.need) e c.loop-n.invariant) (rw c.terms-terms.ensures.value at c.mark.ensures)

pub loop-n-preserved : goal.loop-n-preserved
loop-n-preserved c =
    let k = c.loop-n.n - 1 in
    let e : c.loop-n.n ≡ suc k = omega arith in
    mark-not c.args.self.now k c.loop-n.need (subst (λ n. Marking c.args.self.now n c.loop-n.need) e c.loop-n.invariant) c.if-need-n.false

pub returns : goal.returns
returns c =
    let e : c.loop-n.n ≡ 0 = omega arith in
    mark-all c.args.self.now c.loop-n.need (subst (λ n. Marking c.args.self.now n c.loop-n.need) e c.loop-n.invariant)
