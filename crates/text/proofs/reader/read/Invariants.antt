-- proofs/reader/read/Invariants.antt
-- What `read` keeps true as it goes round.
use Rattle.std.proofs.Common.{◌≡◌}
use Rattle.words.specs.WordsLeft.{words_left}
use Rattle.text.specs.Readings.{start, read, state_of}
use Rattle.text.proofs.reader.read.Given as goal

abbrev pub invariant-loop-word : goal.invariant-loop-word
invariant-loop-word l = read (state_of l.reader) (words_left l.word-iterator) ≡ read start (words_left l.fn.words)
