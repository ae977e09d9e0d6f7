-- Why same_stands does what its contract says.
use Rattle.circuits.proofs.Laws.{same_self, same_back, same-on}
use Rattle.circuits.proofs.law.same_stands.Goals as goal

pub returns : goal.returns
returns c = record { alone = same_self; back = same_back; on = same-on }
