use Rattle.std.proofs.Common.{◌-◌, ◌≤◌, vec_items}
use Rattle.region.specs.Shifts.{WidenedDown}
use Rattle.region.proofs.regions.Region.widen_down.Given as goal

abbrev pub invariant-loop-reach : goal.invariant-loop-reach
invariant-loop-reach l = (l.reach ≤ l.by) × WidenedDown l.reach (vec_items l.self.bands) (vec_items l.out.bands)

abbrev pub decreases-loop-reach : goal.decreases-loop-reach
decreases-loop-reach l = l.by - l.reach
