-- What the loop of `write_devices` keeps true.
use Rattle.devices.specs.Readings.{Written}
use Rattle.devices.proofs.reading.write_devices.Given as goal

abbrev pub invariant-loop-i : goal.invariant-loop-i
invariant-loop-i l = Written l.devices l.i l.initial.room l.room
