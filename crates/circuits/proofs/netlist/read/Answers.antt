-- Why read does what its contract says.
use Rattle.std.proofs.Common.{arith}
use Rattle.circuits.proofs.Rooms.{reading_none, reading_more, reading_all}
use Rattle.circuits.proofs.netlist.read.Goals as goal

pub loop-place-init : goal.loop-place-init
loop-place-init c = reading_none c.args.numbers.now

pub loop-place-preserved : goal.loop-place-preserved
loop-place-preserved c = reading_more _ _ _ _ (omega arith) c.loop-place.invariant c.read_device.ensures

pub returns : goal.returns
returns c = reading_all _ _ _ c.loop-place.invariant (omega arith)
