-- What `number` keeps true as it goes round, and why it ends.
use Rattle.std.proofs.Common.{◌≡◌, ◌^◌, ◌<◌, drop}
use Rattle.words.specs.Numbers.{number_in}
use Rattle.words.proofs.Numbers.{number_after}
use Rattle.words.proofs.number.number.Given as goal

abbrev pub invariant-loop-b : goal.invariant-loop-b
invariant-loop-b l = (l.value < 2 ^ 64) × (number_after l.value (drop l.b-index l.word) ≡ number_in l.word)
