use Rattle.std.proofs.Common.{◌<◌, ◌≤◌, length, arith, rules}
use Rattle.area.proofs.Areas.{length_more, length-done}
use Rattle.area.proofs.line_length.Goals as goal

pub loop-rest-preserved : goal.loop-rest-preserved
loop-rest-preserved c =
    let some : 2 ≤ length c.loop-rest.rest.now = search rules in
    omega (arith, length_more c.loop-rest.rest.now some, c.in_ok-sum.ensures, c.saturating_sub.ensures, c.loop-rest.invariant)

pub returns : goal.returns
returns c =
    let few : length c.loop-rest.rest.now < 2 = search rules in
    omega (arith, length-done c.loop-rest.rest.now few, c.loop-rest.invariant)
