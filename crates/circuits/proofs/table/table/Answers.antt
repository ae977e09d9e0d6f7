-- Why table does what its contract says.
use Rattle.std.proofs.Common.{rules, of_calls, arith}
use Rattle.circuits.proofs.Tables.{given}
use Rattle.circuits.proofs.table.table.Goals as goal

pub returns : goal.returns
returns g c i d l = given _ (λ j y. goal.F-post g c.args.entry j y) _ c.from_fn.result (λ x y q k. search (rules, of_calls)) g.row.N 0 c.from_fn.ensures.items.each i d (omega arith) (omega (arith, l))
