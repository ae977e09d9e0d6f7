-- proofs/left/Words/skip/Invariants.antt
-- What `skip` keeps true as it goes round, and why it ends.
use Rattle.std.proofs.Common.{◌≡◌, length}
use Rattle.words.specs.WordsLeft.{words_left}
use Rattle.words.proofs.left.Words.skip.Given as goal

abbrev pub invariant-loop-byte : goal.invariant-loop-byte
invariant-loop-byte l = (l.self.text.now ≡ l.initial.self.text.now) × (words_left l.self ≡ words_left l.initial.self)

abbrev pub decreases-loop-byte : goal.decreases-loop-byte
decreases-loop-byte l = length l.self.rest.now
