-- What the loop of `wire_tiles` keeps true.
use Rattle.std.proofs.Common.{vec_items}
use Rattle.layout.specs.Rects.{covered}
use Rattle.nets.specs.Nets.{wire}
use Rattle.nets.specs.Processes.{technology_of}
use Rattle.nets.proofs.Layers.{Layered}
use Rattle.nets.proofs.mask.Mask.wire_tiles.Given as goal

abbrev pub invariant-loop-layer : goal.invariant-loop-layer
invariant-loop-layer l = Layered (wire (technology_of l.self.process.now) (covered l.self.boxes.rects.now)) l.layer (vec_items l.tiles)
