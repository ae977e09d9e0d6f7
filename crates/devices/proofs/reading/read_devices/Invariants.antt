-- What the loop of `read_devices` keeps true.
use Rattle.std.proofs.Common.{vec_items}
use Rattle.layout.specs.Layout.{Drawing}
use Rattle.nets.specs.Nets.{Technology}
use Rattle.devices.specs.Readings.{Known}
use Rattle.devices.proofs.Readings.{Going}
use Rattle.devices.proofs.reading.read_devices.Given as goal

abbrev pub invariant-loop-i : goal.invariant-loop-i
invariant-loop-i l =
    (k : Technology) (d : Drawing) → Known k d (vec_items l.channels.tiles) (vec_items l.channels.roots) l.terminals →
    Going k d (vec_items l.channels.tiles) (vec_items l.channels.roots) l.i (vec_items l.devices)
