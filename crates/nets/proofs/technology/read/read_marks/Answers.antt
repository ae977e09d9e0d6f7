-- Why `read_marks` meets its contract.
use Rattle.std.proofs.Common.{vec_items}
use Rattle.nets.proofs.Technologies.{marks-more}
use Rattle.nets.proofs.technology.read.read_marks.Goals as goal

pub loop-layer-preserved : goal.loop-layer-preserved
loop-layer-preserved c = marks-more c.args.numbers.now c.loop-layer.layer (vec_items c.loop-layer.marks) (vec_items c.push.new.self) c.loop-layer.invariant c.in_ok-push.ensures.items
