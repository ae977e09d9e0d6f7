-- Why `number` meets its contract.
use Rattle.std.proofs.Common.{length, vec_items, subst}
use Rattle.layout.specs.Rects.{covered}
use Rattle.groups.specs.Names.{group}
use Rattle.groups.specs.Numbers.{Numbered}
use Rattle.nets.specs.Processes.{technology_of}
use Rattle.nets.specs.Wires.{Named}
use Rattle.nets.specs.Spots.{tile_of_spot}
use Rattle.nets.proofs.Spots.{counted}
use Rattle.nets.proofs.mask.Mask.number.Goals as goal

pub returns : goal.returns
returns c =
    let k = technology_of c.args.self.now.process.now in
    let d = covered c.args.self.now.boxes.rects.now in
    let ts = vec_items c.in_ok-tiles.tiles in
    let f = group c.in_ok-groups.groups in (
      c.number_spots.auto.numbers,
      counted k d ts c.in_ok-tiles.ensures f (subst (λ v. Named k d v f) c.deref.ensures.value c.in_ok-groups.ensures.1) c.args.spots.now
          (length c.args.numbers.now) c.number_spots.new.numbers
          (subst (λ v. Numbered f (tile_of_spot v c.args.spots.now) (length c.args.numbers.now) c.number_spots.new.numbers) c.deref-2.ensures.value c.number_spots.ensures),
    )
