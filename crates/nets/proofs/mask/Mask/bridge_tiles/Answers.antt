-- Why `bridge_tiles` meets its contract.
use Rattle.std.proofs.Common.{vec_items}
use Rattle.nets.specs.Processes.{technology_of}
use Rattle.nets.proofs.Layers.{near-boxes, bounded_from, far-bridge, shows-bridge, bridges_from}
use Rattle.nets.proofs.mask.Mask.bridge_tiles.Goals as goal

pub add_region-requires : goal.add_region-requires
add_region-requires c =
    bounded_from _ _
    (shows-bridge (technology_of c.args.self.now.process.now) c.args.self.now.boxes.rects.now c.args.join _ _ _ _ _ c.in_ok-one.ensures c.in_ok-other.ensures c.in_ok-both.ensures
    c.in_ok-layer.ensures c.in_ok-region.ensures)
    (far-bridge (technology_of c.args.self.now.process.now) c.args.self.now.boxes.rects.now c.args.join c.args.self.now.boxes.near)

pub returns : goal.returns
returns c =
    bridges_from (technology_of c.args.self.now.process.now) c.args.self.now.boxes.rects.now c.args.join _ _ _ _ _ _ c.in_ok-one.ensures c.in_ok-other.ensures c.in_ok-both.ensures
    c.in_ok-layer.ensures c.in_ok-region.ensures
    (vec_items c.new-bridges.result) c.new-bridges.ensures.items c.in_ok-add_region.ensures

pub from_boxes-requires : goal.from_boxes-requires
from_boxes-requires c = near-boxes c.args.self.now.boxes.rects.now c.args.self.now.boxes.near
