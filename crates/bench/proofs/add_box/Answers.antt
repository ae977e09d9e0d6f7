-- Why `add_box` keeps the boxes near.
use Rattle.std.proofs.Common.{◌^◌, vec_items}
use Rattle.std.proofs.ByRecursion.{All-push}
use Rattle.layout.specs.Rects.{Within}
use Rattle.bench.proofs.add_box.Goals as goal

pub returns-in_ok-push-in-Some : goal.returns-in_ok-push-in-Some
returns-in_ok-push-in-Some c = rw c.in_ok-push-in-Some.ensures.items (All-push (Within (2 ^ 40)) (vec_items c.args.rects.now) c.in-Some.rect c.requires c.in-Some.ensures)
