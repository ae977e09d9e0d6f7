-- What the loop of `gather` keeps true.
use Rattle.std.proofs.Common.{◌≡◌, ℕ, length, get_or, take, vec_items}
use Rattle.devices.specs.declared.terminal.Terminals.TheVariants.{Isolated}
use Rattle.devices.specs.Terminals.{Sums}
use Rattle.devices.proofs.terminal.gather.Given as goal

abbrev pub invariant-loop-border : goal.invariant-loop-border
invariant-loop-border l = (length (vec_items l.all) ≡ l.count) × ((r : ℕ) → Sums (take l.border-index l.borders) r (get_or (vec_items l.all) r Isolated))
