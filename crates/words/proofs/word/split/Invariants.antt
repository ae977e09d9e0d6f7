-- proofs/word/split/Invariants.antt
-- What `split` keeps true as it goes round.
use Rattle.std.proofs.Common.{vec_items}
use Rattle.words.specs.WordsLeft.{words_left}
use Rattle.words.proofs.WordsLeft.{Cutting}
use Rattle.words.proofs.word.split.Given as goal

abbrev pub invariant-loop-word : goal.invariant-loop-word
invariant-loop-word l = Cutting l.fn.marks l.text (vec_items l.words) l.word-iterator.text.now (words_left l.word-iterator)
