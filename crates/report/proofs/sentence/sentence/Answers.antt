-- Why the sentence of a technology is what its contract says.
use Rattle.std.proofs.Common.{refl}
use Rattle.report.proofs.sentence.sentence.Goals as goal

pub returns-in-Technology : goal.returns-in-Technology
returns-in-Technology c = rw c.in-Technology.is refl
