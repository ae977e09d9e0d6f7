-- What `first_late` needs beyond what the search finds.
use Rattle.std.proofs.Common.{◌≡◌, true, false, rules, arith}
use Rattle.std.proofs.lemmas.Iterator.{first_from_Range}
use borrow.Author.Tests.{tests}
use Rattle.layout.specs.Nodes.{orderly}
use Rattle.layout.proofs.Checks.{first_disorderly}
use Rattle.layout.proofs.nodes.read.first_late.Goals as goal

pub returns : goal.returns
returns c =
    first_disorderly c.args.numbers.now _ _ (omega (arith, c.requires.whole)) c.find.result
    (first_from_Range _ _ _ c.find.result (λ n. orderly c.args.numbers.now n ≡ false) (λ n. orderly c.args.numbers.now n ≡ true) c.find.ensures.ran (λ x q k. search (rules, tests)) (λ x q k. search (rules, tests)))
