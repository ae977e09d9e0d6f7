-- Why `of_region` meets its contract.
use Rattle.std.proofs.Common.{vec_items, arith}
use Rattle.devices.proofs.Pieces.{linked-from}
use Rattle.devices.proofs.piece.Pieces.of_region.Goals as goal

pub returns : goal.returns
returns c =
    linked-from c.in_ok-groups.groups (vec_items c.in_ok-roots.roots) c.in_ok-roots.ensures.1 c.args.layer (vec_items c.args.region.now.bands) (vec_items c.new-tiles.result)
    (vec_items c.add_region.new.tiles) c.deref.result.now c.new-tiles.ensures.items c.in_ok-add_region.ensures c.deref.ensures.value c.in_ok-groups.ensures.1
    (omega (arith, c.in_ok-roots.ensures.0, c.add_region.new.tiles.ok.0, c.len.ensures))
