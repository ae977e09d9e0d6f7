-- Why `write_devices` meets its contract.
use Rattle.std.proofs.Common.{◌≡◌, length, subst, arith}
use Rattle.devices.specs.Readings.{Written}
use Rattle.devices.proofs.Writes.{put-from, written_none, written-more}
use Rattle.devices.proofs.reading.write_devices.Goals as goal

pub loop-i-init : goal.loop-i-init
loop-i-init c = written_none c.args.devices.now c.args.room.now

pub loop-i-preserved : goal.loop-i-preserved
loop-i-preserved c =
    let one = put-from _ _ _ c.loop-i.room c.write_spot.new.room (omega (arith, c.requires, c.loop-i-test.true, c.loop-i.auto.room)) c.write_spot.ensures in
    let two = put-from _ _ _ c.write_spot.new.room c.write_spot-in-loop-i.new.room (omega (arith, c.requires, c.loop-i-test.true, c.loop-i.auto.room, one.long)) c.write_spot-in-loop-i.ensures in
    let three = put-from _ _ _ c.write_spot-in-loop-i.new.room c.write_spot-in-loop-i-2.new.room (omega (arith, c.requires, c.loop-i-test.true, c.loop-i.auto.room, one.long, two.long)) c.write_spot-in-loop-i-2.ensures in
    written-more c.args.devices.now c.loop-i.i c.args.room.now c.loop-i.room c.write_spot.new.room c.write_spot-in-loop-i.new.room c.write_spot-in-loop-i-2.new.room c.loop-i.invariant one two three

pub returns : goal.returns
returns c =
    let e : c.loop-i.i ≡ length c.args.devices.now = omega (arith, c.loop-i-test.false, c.loop-i.auto.i-end) in
    subst (λ n. Written c.args.devices.now n c.args.room.now c.loop-i.room) e c.loop-i.invariant
