-- Why `span` meets its contract.
use Rattle.std.proofs.Common.{◌<◌, length, refl, ◌∙◌, arith}
use Rattle.groups.specs.Names.{group}
use Rattle.tiles.proofs.Tiles.{holds-within}
use Rattle.nets.proofs.Joins.{spanning-none, spanning-joined, spanning-all}
use Rattle.nets.proofs.join.span.Goals as goal

pub loop-bridge-init : goal.loop-bridge-init
loop-bridge-init c = (refl, spanning-none _ _ _ _)

pub returns : goal.returns
returns c = record { tied = spanning-all _ _ _ _ c.requires.ordered _ _ c.loop-bridge.invariant.1 c.loop-bridge-test.false; sizes = c.loop-bridge.invariant.0 }

pub join-requires : goal.join-requires
join-requires c =
    let p : c.in-Some.i < length c.args.tiles.now = holds-within c.args.tiles.now c.in-Some.i _ _ _ c.in-Some.ensures in
    let r : c.in-Some-find_tile.j < length c.args.tiles.now = holds-within c.args.tiles.now c.in-Some-find_tile.j _ _ _ c.in-Some-find_tile.ensures in
    record { i_within = omega (arith, p, c.loop-bridge.invariant.0, c.requires.sizes); j_within = omega (arith, r, c.loop-bridge.invariant.0, c.requires.sizes) }

pub loop-bridge-preserved : goal.loop-bridge-preserved
loop-bridge-preserved c = (
  c.join.ensures.len ∙ c.loop-bridge.invariant.0,
  spanning-joined _ _ _ _ c.requires.ordered _ (group c.loop-bridge.groups) c.loop-bridge.invariant.1 _ _ _ c.loop-bridge-test.true c.in-Some.ensures c.in-Some-find_tile.ensures c.join.ensures.joined,
)
