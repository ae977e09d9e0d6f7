-- Why same_is_decided does what its contract says.
use Rattle.circuits.proofs.Deciding.{compared}
use Rattle.circuits.proofs.law.same_is_decided.Goals as goal

pub returns : goal.returns
returns c = compared
