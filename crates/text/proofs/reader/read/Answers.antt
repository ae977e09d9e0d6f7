-- proofs/reader/read/Answers.antt
-- What `read` needs beyond what the search finds.
use Rattle.std.proofs.lemmas.Result.{err_from_is_err_and}
use Rattle.text.specs.Readings.{state_of}
use Rattle.text.proofs.Readings.{accepted, stopped, all_read}
use Rattle.text.proofs.reader.read.Goals as goal

pub returns-in_err-accept : goal.returns-in_err-accept
returns-in_err-accept c =
    let p = err_from_is_err_and c.from_residual.result c.from_residual.ensures.1 in
    rw (p.1, p.2) (stopped _ _ _ c.loop-word.invariant c.in-Some.word _ c.in-Some.ensures.steps.1.1 (state_of c.accept.new.self) c.in_err-accept.field-0.0 c.in_err-accept.ensures)

pub loop-word-preserved : goal.loop-word-preserved
loop-word-preserved c = accepted _ _ _ c.loop-word.invariant c.in-Some.word _ c.in-Some.ensures.steps.1.1 _ c.in_ok-accept.ensures

pub returns : goal.returns
returns c = all_read _ _ _ c.loop-word.invariant c.in-None.ensures.steps.1.0
