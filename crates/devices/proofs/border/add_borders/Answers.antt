-- Why `add_borders` meets its contract.
use Rattle.std.proofs.Common.{◌≡◌, length, vec_items, sym, subst, arith}
use Rattle.std.proofs.ByRecursion.{All-get_or}
use Rattle.tiles.specs.Tiles.{none}
use Rattle.devices.specs.Borders.{Near}
use Rattle.devices.specs.Crossings.{Adding}
use Rattle.devices.proofs.Borders.{holds_at, added_none, added-skip, added_more}
use Rattle.devices.proofs.border.add_borders.Goals as goal

pub loop-tile-init : goal.loop-tile-init
loop-tile-init c = added_none _ _ _ _ _ _ _ _

pub channel-u-requires : goal.channel-u-requires
channel-u-requires c = let s = All-get_or Near c.args.meetings.now c.loop-tile.tile-index none c.loop-tile-test.true c.requires.near in record { across = omega arith; down = omega arith }

pub wire-x-requires : goal.wire-x-requires
wire-x-requires c = let s = All-get_or Near c.args.meetings.now c.loop-tile.tile-index none c.loop-tile-test.true c.requires.near in record { across = omega arith; down = omega arith }

pub loop-tile-preserved-in_default : goal.loop-tile-preserved-in_default
loop-tile-preserved-in_default c =
    added-skip _ _ _ _ _ _ _ _ _ _ c.loop-tile.invariant (λ i j p q. c.in_default.ensures i (holds_at _ _ _ _ _ _ c.channel-u.ensures.across c.channel-u.ensures.down p))

pub loop-tile-preserved-in_default-root_at : goal.loop-tile-preserved-in_default-root_at
loop-tile-preserved-in_default-root_at c =
    added-skip _ _ _ _ _ _ _ _ _ _ c.loop-tile.invariant (λ i j p q. c.in_default-root_at.ensures j (holds_at _ _ _ _ _ _ c.wire-x.ensures.across c.wire-x.ensures.down q))

pub loop-tile-preserved : goal.loop-tile-preserved
loop-tile-preserved c =
    let p = c.in-Some.ensures in
    let q = c.in-Some-root_at.ensures in
    added_more _ _ _ _ _ _ _ _ _ _ c.loop-tile.invariant _ _ c.in_ok-push.ensures.items (record {
      one = p.0;
      other = q.0;
      under = holds_at _ _ _ _ _ _ (sym c.channel-u.ensures.across) (sym c.channel-u.ensures.down) p.1;
      wired = holds_at _ _ _ _ _ _ (sym c.wire-x.ensures.across) (sym c.wire-x.ensures.down) q.1;
      channel = p.2;
      net = q.2;
      across = c.wire-x.ensures.across;
      down = c.wire-x.ensures.down;
    })

pub returns : goal.returns
returns c =
    let e : c.loop-tile.tile-index ≡ length c.args.meetings.now = omega (arith, c.loop-tile-test.false, c.loop-tile.auto.tile-index-end) in
    subst (λ n. Adding c.args.direction c.args.crossing.now c.args.meetings.now n (vec_items c.args.borders.now) (vec_items c.loop-tile.borders)) e c.loop-tile.invariant
