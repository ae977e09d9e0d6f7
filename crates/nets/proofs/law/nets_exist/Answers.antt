-- Why `nets_exist` meets its contract.
use Rattle.nets.proofs.Existence.{has_nets}
use Rattle.nets.proofs.law.nets_exist.Goals as goal

pub returns : goal.returns
returns c = has_nets
