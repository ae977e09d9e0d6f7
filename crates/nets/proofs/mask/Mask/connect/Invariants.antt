-- What the loop of `connect` keeps true.
use Rattle.std.proofs.Common.{◌≡◌, length, vec_items}
use Rattle.layout.specs.Rects.{covered}
use Rattle.groups.specs.Names.{size, group}
use Rattle.nets.specs.Processes.{technology_of}
use Rattle.nets.proofs.Joins.{Connecting}
use Rattle.nets.proofs.mask.Mask.connect.Given as goal

abbrev pub invariant-loop-join : goal.invariant-loop-join
invariant-loop-join l =
    (size l.groups ≡ length l.tiles)
    × Connecting (technology_of l.self.process.now) (covered l.self.boxes.rects.now) l.tiles (vec_items l.self.process.now.joins) l.join-index (group l.groups)
