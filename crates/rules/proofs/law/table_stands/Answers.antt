-- The squares as far as the drawing extends are tried, each.
use Rattle.rules.proofs.Lawful.{table}
use Rattle.rules.proofs.law.table_stands.Goals as goal

pub returns : goal.returns
returns c = table
