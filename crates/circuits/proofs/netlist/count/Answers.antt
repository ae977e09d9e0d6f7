-- Why count does what its contract says.
use Rattle.std.proofs.Common.{ℕ, Bool, cond, ◌∙◌, arith, rules, tests}
use Rattle.std.proofs.lemmas.Iterator.{YieldsList-from_slice, YieldsList-from_map}
use Rattle.std.proofs.lemmas.Iterator.Consumers.{YieldsList-at, sum_by_from_yields_List, fits_by_from_yields_list}
use Rattle.std.proofs.lemmas.List.Sums.{count_by-le-length}
use Rattle.circuits.specs.Netlists.{fits}
use Rattle.circuits.specs.declared.netlist.Device.{Device}
use Rattle.circuits.proofs.Comparisons.{counted}
use Rattle.circuits.proofs.netlist.count.Goals as goal

pub sum-requires-clause-fits : goal.sum-requires-clause-fits
sum-requires-clause-fits c =
    let test : Device → Bool = λ p. fits p c.args.device in
    let like : Device → ℕ = λ p. cond (test p) 1 0 in
    fits_by_from_yields_list like c.args.devices.now c.map.result _
    (YieldsList-from_map _ like (YieldsList-at c.map.ensures.source (YieldsList-from_slice c.args.devices.now cc)) c.map.ensures.closure (λ x r q k. search (rules, tests)))
    (omega (arith, count_by-le-length test c.args.devices.now))

pub returns : goal.returns
returns c =
    let like : Device → ℕ = λ p. cond (fits p c.args.device) 1 0 in
    sum_by_from_yields_List like c.args.devices.now c.map.result _ c.sum.ensures.ran
    (YieldsList-from_map _ like (YieldsList-at c.map.ensures.source (YieldsList-from_slice c.args.devices.now cc)) c.map.ensures.closure (λ x r q k. search (rules, tests)))
    ∙ counted c.args.devices.now c.args.device
