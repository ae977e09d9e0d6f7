-- What `bands_area` needs beyond what the search finds.
use Rattle.std.proofs.Common.{◌<◌, ◌≤◌, length, arith, rules}
use Rattle.area.proofs.Areas.{adding_none, adding_next, adding_done}
use Rattle.area.proofs.bands_area.Goals as goal

pub loop-rest-init : goal.loop-rest-init
loop-rest-init c = adding_none c.args.bands.now c.requires

pub overflow_sub-next : goal.overflow_sub-next
overflow_sub-next c =
    let some : 2 ≤ length c.loop-rest.rest.now = search rules in
    let next = adding_next c.args.bands.now c.loop-rest.sum c.loop-rest.rest.now c.band-item.result c.next-item.result some c.band-item.is c.next-item.is c.loop-rest.invariant in
    omega (arith, next.rises)

pub band_area-requires : goal.band_area-requires
band_area-requires c =
    let some : 2 ≤ length c.loop-rest.rest.now = search rules in
    let next = adding_next c.args.bands.now c.loop-rest.sum c.loop-rest.rest.now c.band-item.result c.next-item.result some c.band-item.is c.next-item.is c.loop-rest.invariant in
    omega (arith, next.rises)

pub loop-rest-preserved : goal.loop-rest-preserved
loop-rest-preserved c =
    let some : 2 ≤ length c.loop-rest.rest.now = search rules in
    let next = adding_next c.args.bands.now c.loop-rest.sum c.loop-rest.rest.now c.band-item.result c.next-item.result some c.band-item.is c.next-item.is c.loop-rest.invariant in
    record { low = _; from = next.from; adds = omega (arith, next.more, c.in_ok-area.ensures, c.in_ok-sum.ensures) }

pub returns : goal.returns
returns c =
    let few : length c.loop-rest.rest.now < 2 = search rules in
    adding_done c.args.bands.now c.loop-rest.sum c.loop-rest.rest.now few c.loop-rest.invariant
