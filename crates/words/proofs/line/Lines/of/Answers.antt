-- Why a text has few enough lines to be counted.
use Rattle.std.proofs.Common.{◌==◌, arith}
use Rattle.std.proofs.lemmas.List.Splits.{length-slice_split}
use Rattle.std.proofs.lemmas.List.Sums.{count_by-le-length}
use Rattle.words.proofs.line.Lines.of.Goals as goal

pub returns-clause-few : goal.returns-clause-few
returns-clause-few c = omega (arith, length-slice_split (λ b. b == 10) c.args.text.now, count_by-le-length (λ b. b == 10) c.args.text.now)
