-- Why read_device does what its contract says.
use Rattle.std.proofs.Common.{arith}
use Rattle.circuits.proofs.Comparisons.{read-there}
use Rattle.circuits.proofs.netlist.read_device.Goals as goal

pub returns : goal.returns
returns c = read-there c.args.numbers.now c.args.place (omega arith)
