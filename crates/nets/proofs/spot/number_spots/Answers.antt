-- Why `number_spots` meets its contract.
use Rattle.std.proofs.Common.{◌<◌, length, Some, None, sym, refl, ◌∙◌, subst, arith}
use Rattle.groups.specs.Names.{group}
use Rattle.groups.specs.Numbers.{seen}
use Rattle.groups.proofs.Roots.{alike-on}
use Rattle.groups.proofs.Numbers.{Going, going-none, going-empty, going-some, given_length}
use Rattle.tiles.proofs.Tiles.{holds-within}
use Rattle.nets.specs.Spots.{tile_of_spot}
use Rattle.nets.proofs.Spots.{located_holder}
use Rattle.nets.proofs.spot.number_spots.Goals as goal
use Rattle.nets.proofs.spot.number_spots.Goals.{in-None, in-Some}

pub loop-i-init : goal.loop-i-init
loop-i-init c = (
  refl,
  c.requires.fresh.0,
  record { alike = λ a. refl },
  subst (λ n. Going (group c.args.groups.now) (tile_of_spot c.args.tiles.now c.args.spots.now) 0 (seen c.args.given.now) n c.args.numbers.now) (sym c.requires.fresh.2)
      (going-none _ _ _ _ c.requires.fresh.1),
)

pub find-root-requires : goal.find-root-requires
find-root-requires c =
    let p : c.in-Some.tile < length c.args.tiles.now = holds-within c.args.tiles.now c.in-Some.tile _ _ _ c.in-Some.ensures in
    omega (arith, p, c.loop-i.invariant.0, c.requires.sizes)

pub number-requires : goal.number-requires
number-requires c =
    let p : c.in-Some.tile < length c.args.tiles.now = holds-within c.args.tiles.now c.in-Some.tile _ _ _ c.in-Some.ensures in
    record { within = omega (arith, p, c.find-root.ensures.low, c.loop-i.invariant.1); room = omega (arith, c.loop-i.invariant.3.few) }

pub loop-i-preserved : goal.loop-i-preserved
loop-i-preserved c =
    let here : c.loop-i.i < length c.loop-i.numbers = omega (arith, c.loop-i.auto.numbers, c.loop-i-test.true) in
    let old = c.loop-i.invariant in
    elim c.match-find_tile.branch [
      | in-None w ↦ rw (w.groups-is, w.given-is, w.numbers-is) (
        old.0,
        old.1,
        old.2,
        going-empty _ _ _ _ _ _ here old.3 (located_holder c.args.tiles.now c.requires.ordered _ _ _ None w.in-None.ensures),
      )
      | in-Some w ↦
          let p : w.in-Some.tile < length c.args.tiles.now = holds-within c.args.tiles.now w.in-Some.tile _ _ _ w.in-Some.ensures in
          rw (w.groups-is, w.given-is, w.numbers-is) (
            w.find-root.ensures.len ∙ old.0,
            given_length _ _ _ _ _ _ w.number.ensures ∙ old.1,
            alike-on _ (group c.loop-i.groups) _ old.2 w.find-root.ensures.alike,
            going-some _ _ _ _ _ _ here old.3 w.in-Some.tile w.find-root.result _ _ _
                (located_holder c.args.tiles.now c.requires.ordered _ _ _ (Some w.in-Some.tile) w.in-Some.ensures)
                (w.find-root.ensures.root ∙ old.2.alike w.in-Some.tile)
                (omega (arith, p, w.find-root.ensures.low, old.1)) w.number.ensures,
          )
    ]
