-- What `contains` needs beyond what the search finds.
use Rattle.std.proofs.Common.{leb, length, vec_items, ap, rules, arith}
use Rattle.std.proofs.lemmas.List.Sorted.{IsPartitionPoint-from_clause, IsPartitionedBy-leb}
use Rattle.scanline.proofs.Merge.{rises-from}
use Rattle.scanline.proofs.Walks.{rising, odd_inside}
use Rattle.scanline.proofs.lines.Line.contains.Goals as goal

pub returns : goal.returns
returns c =
    let es = vec_items c.args.self.now.edges in
    let parted = IsPartitionedBy-leb (λ e. e) es c.args.x (rising 0 es (rises-from 0 es c.args.self.now.sorted)) in
    odd_inside es c.args.x c.partition_point.result (omega (arith, c.partition_point.ensures.bound, ap length c.deref.ensures.value))
    (IsPartitionPoint-from_clause (λ e. leb e c.args.x) es _ (rw c.deref.ensures.value at c.partition_point.ensures.partitioned) parted (λ a r q k. search rules))
