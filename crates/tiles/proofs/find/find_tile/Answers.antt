-- Why the last tile that starts is the one that holds the square, if one does.
use Rattle.std.proofs.Common.{rules, subst, sym, arith}
use Rattle.std.specs.Bool.{one_answer}
use Rattle.std.proofs.lemmas.Bool.{both_ways}
use Rattle.std.proofs.lemmas.List.Sorted.{IsPartitionPoint-from_clause}
use Rattle.tiles.specs.Tiles.{Located}
use Rattle.tiles.proofs.Finds.{starts_test, starts_decides, starts-parted, none-after, only-last}
use Rattle.tiles.proofs.find.find_tile.Goals as goal

pub returns-in_err-last : goal.returns-in_err-last
returns-in_err-last c =
    let ts = c.args.tiles.now in
    let l = c.args.layer in
    let x = c.args.x in
    let y = c.args.y in
    let n = c.partition_point-begun.result in
    let point = IsPartitionPoint-from_clause (starts_test l x y) ts n c.partition_point-begun.ensures.partitioned (starts-parted ts c.requires l x y) (λ a r q k. search (rules, one_answer, starts_decides)) in
    subst (Located ts l x y) (sym c.from_residual.ensures) (λ i h. none-after ts c.requires l x y n c.partition_point-begun.ensures.bound point i (omega (arith, c.in_err-last.ensures)) h)

pub returns-else-contains : goal.returns-else-contains
returns-else-contains c =
    let ts = c.args.tiles.now in
    let l = c.args.layer in
    let x = c.args.x in
    let y = c.args.y in
    let n = c.partition_point-begun.result in
    let point = IsPartitionPoint-from_clause (starts_test l x y) ts n c.partition_point-begun.ensures.partitioned (starts-parted ts c.requires l x y) (λ a r q k. search (rules, one_answer, starts_decides)) in
    only-last ts c.requires l x y n c.partition_point-begun.ensures.bound point c.in_ok-last.last (omega (arith, c.in_ok-last.ensures)) (λ h. both_ways _ c.if-contains.false (c.contains.ensures.1 h))
