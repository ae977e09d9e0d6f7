-- Why `channel_region` meets its contract.
use Rattle.nets.proofs.Layers.{near-boxes}
use Rattle.devices.proofs.channel.channel_region.Goals as goal

pub from_boxes-requires : goal.from_boxes-requires
from_boxes-requires c = near-boxes c.args.mask.now.boxes.rects.now c.args.mask.now.boxes.near

pub from_boxes-requires-2 : goal.from_boxes-requires-2
from_boxes-requires-2 c = near-boxes c.args.mask.now.boxes.rects.now c.args.mask.now.boxes.near
