-- Why new does what its contract says.
use Rattle.std.proofs.Common.{◌≡◌, ℕ, ◌<◌, length, sym, ap, subst, arith, rules}
use Rattle.circuits.specs.Netlists.{Below, device_at}
use Rattle.circuits.proofs.Comparisons.{ok_sound, ok_netlist, room_is}
use Rattle.circuits.proofs.netlist.Circuit.new.Goals as goal

pub shared_ref_as_front-result : goal.shared_ref_as_front-result
shared_ref_as_front-result c = (ok_sound _ _ c.requires.circuit).few

pub invariant_of-result : goal.invariant_of-result
invariant_of-result c =
    let long : length c.args.room.now ≡ 256 = search rules in
    let e = room_is c.args.numbers.now c.args.room.now long (ok_sound _ _ c.requires.circuit).few c.requires.read in
    let n = ok_netlist _ _ c.requires.circuit in
    record {
      some = n.some;
      few = omega (arith, ap length e, n.few);
      low = subst (λ vs. (i : ℕ) → i < length vs → Below c.args.nets (device_at vs i)) (sym e) n.nets;
    }

pub returns-clause-devices : goal.returns-clause-devices
returns-clause-devices c =
    let long : length c.args.room.now ≡ 256 = search rules in
    room_is c.args.numbers.now c.args.room.now long (ok_sound _ _ c.requires.circuit).few c.requires.read
