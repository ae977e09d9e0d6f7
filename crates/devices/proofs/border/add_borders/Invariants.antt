-- What the loop of `add_borders` keeps true.
use Rattle.std.proofs.Common.{vec_items}
use Rattle.devices.specs.Crossings.{Adding}
use Rattle.devices.proofs.border.add_borders.Given as goal

abbrev pub invariant-loop-tile : goal.invariant-loop-tile
invariant-loop-tile l = Adding l.direction l.crossing l.meetings l.tile-index (vec_items l.initial.borders) (vec_items l.borders)
