-- What `mark` needs beyond what the search finds.
use Rattle.std.proofs.Common.{sym, subst, inl, inr}
use Rattle.rules.specs.Terms.{Names}
use Rattle.rules.specs.Values.{Over}
use Rattle.rules.proofs.Marks.{marked_one, marked_two}
use Rattle.rules.proofs.need.mark.Goals as goal

pub returns-in-Grown : goal.returns-in-Grown
returns-in-Grown c =
    let e = c.in-Grown.is in
    let n = subst (Names c.args.n) e c.requires.names in
    marked_one c.args.n c.in-Grown.of c.args.term c.args.need.now n.1.0 c.requires.within (λ p a. subst (Over p) (sym e) (a, tt))

pub returns-in-And : goal.returns-in-And
returns-in-And c =
    let n = c.requires.names in
    elim c.in-And.is [
      | inl e ↦ let n = subst (Names c.args.n) e c.requires.names in marked_two c.args.n c.in-And.a c.in-And.b c.args.term c.args.need.now n.1.0 n.1.1.0 c.requires.within (λ p a b. subst (Over p) (sym e) (a, (b, tt)))
      | inr f ↦ elim f [
        | inl e ↦ let n = subst (Names c.args.n) e c.requires.names in marked_two c.args.n c.in-And.a c.in-And.b c.args.term c.args.need.now n.1.0 n.1.1.0 c.requires.within (λ p a b. subst (Over p) (sym e) (a, (b, tt)))
        | inr e ↦ let n = subst (Names c.args.n) e c.requires.names in marked_two c.args.n c.in-And.a c.in-And.b c.args.term c.args.need.now n.1.0 n.1.1.0 c.requires.within (λ p a b. subst (Over p) (sym e) (a, (b, tt)))
      ]
    ]
