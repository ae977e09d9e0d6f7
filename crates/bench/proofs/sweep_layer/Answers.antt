-- Why `sweep_layer` may sweep.
use Rattle.std.proofs.Common.{◌^◌, arith}
use Rattle.std.proofs.ByRecursion.{All-weaker}
use Rattle.layout.specs.Rects.{Within}
use Rattle.bench.proofs.sweep_layer.Goals as goal

pub from_boxes-requires : goal.from_boxes-requires
from_boxes-requires c = All-weaker (Within (2 ^ 40)) (Within (2 ^ 63)) (λ q h. (omega (arith, h.0), omega (arith, h.1))) c.args.boxes.now.rects.now c.args.boxes.now.near
