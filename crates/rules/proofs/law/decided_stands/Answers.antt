-- Each drawing ends somewhere, so that a search below that finds the first square.
use Rattle.rules.proofs.Lawful.{decided}
use Rattle.rules.proofs.law.decided_stands.Goals as goal

pub returns : goal.returns
returns c = decided
