-- Why `of_wire` meets its contract.
use Rattle.std.proofs.Common.{vec_items, arith}
use Rattle.layout.specs.Rects.{covered}
use Rattle.nets.specs.Processes.{technology_of}
use Rattle.devices.proofs.Pieces.{wired-from}
use Rattle.devices.proofs.piece.Pieces.of_wire.Goals as goal

pub returns : goal.returns
returns c =
    wired-from c.in_ok-groups.groups (vec_items c.in_ok-roots.roots) c.in_ok-roots.ensures.1 (technology_of c.args.mask.now.process.now) (covered c.args.mask.now.boxes.rects.now)
    (vec_items c.in_ok-tiles.tiles) c.deref.result.now c.in_ok-tiles.ensures c.deref.ensures.value c.in_ok-groups.ensures.1
    (omega (arith, c.in_ok-roots.ensures.0, c.in_ok-tiles.tiles.ok.0, c.len.ensures))
