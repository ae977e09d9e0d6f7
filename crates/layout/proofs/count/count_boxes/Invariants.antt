-- What `count_boxes` keeps true as it goes round, and why it ends.
use Rattle.std.proofs.Common.{◌≡◌, length}
use Rattle.layout.specs.Limits.{max_nodes}
use Rattle.layout.specs.Counts.{Counted}
use Rattle.layout.proofs.count.count_boxes.Given as goal

abbrev pub invariant-loop-n : goal.invariant-loop-n
invariant-loop-n l = (length l.counts ≡ max_nodes) × Counted l.nodes.numbers.now l.counts l.n
