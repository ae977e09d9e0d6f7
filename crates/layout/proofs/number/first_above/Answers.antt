-- What `first_above` needs beyond what the search finds.
use Rattle.std.proofs.Common.{◌<◌, ◌≤◌, rules}
use Rattle.std.proofs.lemmas.Iterator.{IsFirst-from_position, YieldsList-from_slice}
use borrow.Author.Tests.{tests}
use Rattle.layout.proofs.Checks.{first_large}
use Rattle.layout.proofs.number.first_above.Goals as goal

pub returns : goal.returns
returns c =
    first_large c.args.limit c.args.numbers.now c.position.result
    (IsFirst-from_position _ _ c.position.result (λ x. c.args.limit < x) (λ x. x ≤ c.args.limit) c.position.ensures.ran (YieldsList-from_slice c.args.numbers.now cc) (λ x q k. search (rules, tests)) (λ x q k. search (rules, tests)))
