-- Why `read_joins` meets its contract.
use Rattle.std.proofs.Common.{vec_items}
use Rattle.nets.proofs.Technologies.{joins-more}
use Rattle.nets.proofs.technology.read.read_joins.Goals as goal

pub loop-n-preserved : goal.loop-n-preserved
loop-n-preserved c = joins-more c.args.numbers.now c.args.from c.loop-n.n (vec_items c.loop-n.joins) (vec_items c.push.new.self) c.loop-n.invariant c.in_ok-push.ensures.items
