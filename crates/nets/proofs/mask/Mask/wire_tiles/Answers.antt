-- Why `wire_tiles` meets its contract.
use Rattle.std.proofs.Common.{false, vec_items, arith}
use Rattle.std.proofs.lemmas.List.{get_or_past}
use Rattle.layout.specs.Rects.{covered}
use Rattle.nets.specs.Nets.{wire}
use Rattle.nets.specs.Processes.{technology_of}
use Rattle.nets.proofs.Layers.{bounded_from, far-wire, layered_more, layered_all}
use Rattle.nets.proofs.mask.Mask.wire_tiles.Goals as goal

pub add_region-requires : goal.add_region-requires
add_region-requires c =
    bounded_from _ _ c.in_ok-region.ensures (far-wire (technology_of c.args.self.now.process.now) c.args.self.now.boxes.rects.now c.loop-layer.layer c.args.self.now.boxes.near)

pub loop-layer-preserved : goal.loop-layer-preserved
loop-layer-preserved c =
    layered_more (wire (technology_of c.args.self.now.process.now) (covered c.args.self.now.boxes.rects.now)) c.loop-layer.layer _ _ _ c.loop-layer.invariant c.in_ok-region.ensures c.in_ok-add_region.ensures

pub returns : goal.returns
returns c =
    layered_all (technology_of c.args.self.now.process.now) (covered c.args.self.now.boxes.rects.now) c.loop-layer.layer _
    (λ l h. get_or_past (vec_items c.args.self.now.process.now.carries) l false (omega (arith, c.args.self.now.process.now.carries.ok.0))) c.loop-layer.invariant
