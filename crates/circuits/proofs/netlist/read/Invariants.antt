-- What the loop of read keeps.
use Rattle.circuits.proofs.Rooms.{Reading}
use Rattle.circuits.proofs.netlist.read.Given as goal

abbrev pub invariant-loop-place : goal.invariant-loop-place
invariant-loop-place l = Reading l.numbers l.room l.place
