-- Why compare does what its contract says.
use Rattle.std.proofs.Common.{◌≤◌, sym, refl, ◌∙◌, inl, inr, arith}
use Rattle.std.proofs.lemmas.Bool.{le-leb, and_from}
use Rattle.circuits.specs.Comparisons.{ComparisonSays}
use Rattle.circuits.specs.Pairings.{Missing, Pairable}
use Rattle.circuits.proofs.Comparisons.{as_given, ok_netlist, names-not, same_from, not_same}
use Rattle.circuits.proofs.compare.Goals as goal

pub returns-then-not-is_circuit : goal.returns-then-not-is_circuit
unfolding ComparisonSays
returns-then-not-is_circuit c = inl (refl, sym c.is_circuit.ensures ∙ c.if-not-is_circuit.true)

pub returns-then-not-is_circuit-2 : goal.returns-then-not-is_circuit-2
unfolding ComparisonSays
returns-then-not-is_circuit-2 c =
    inr (inl (refl, sym c.is_circuit.ensures ∙ c.if-not-is_circuit.false, sym c.is_circuit-2.ensures ∙ c.if-not-is_circuit-2.true))

pub returns-then-named-min : goal.returns-then-named-min
unfolding ComparisonSays
returns-then-named-min c =
    inr (inr (inl (
      refl,
      sym c.is_circuit.ensures ∙ c.if-not-is_circuit.false,
      sym c.is_circuit-2.ensures ∙ c.if-not-is_circuit-2.false,
      names-not c.args.named c.args.nets_a c.args.nets_b (omega (arith, c.min.ensures)),
    )))

pub returns-then-pairable_from : goal.returns-then-pairable_from
unfolding ComparisonSays
returns-then-pairable_from c =
    let a = sym c.is_circuit.ensures ∙ c.if-not-is_circuit.false in
    let b = sym c.is_circuit-2.ensures ∙ c.if-not-is_circuit-2.false in
    let hm : c.args.named ≤ c.args.nets_a = omega (arith, c.min.ensures) in
    let hn : c.args.named ≤ c.args.nets_b = omega (arith, c.min.ensures) in
    let first = c.new-first.ensures in
    let second = c.new-second.ensures in
    let found = as_given (λ m n as' bs. Pairable m n as' bs c.own_partners-own.result) _ _ _ _ first.nets second.nets first.devices second.devices c.if-pairable_from.ensures in
    inr (inr (inr (
      a,
      b,
      and_from _ _ (le-leb _ _ hm) (le-leb _ _ hn),
      inl (refl, same_from _ _ _ _ _ (ok_netlist _ _ a) (ok_netlist _ _ b) _ hm c.own_partners-own.ensures found),
    )))

pub returns-else-pairable_from : goal.returns-else-pairable_from
unfolding ComparisonSays
returns-else-pairable_from c =
    let a = sym c.is_circuit.ensures ∙ c.if-not-is_circuit.false in
    let b = sym c.is_circuit-2.ensures ∙ c.if-not-is_circuit-2.false in
    let hm : c.args.named ≤ c.args.nets_a = omega (arith, c.min.ensures) in
    let hn : c.args.named ≤ c.args.nets_b = omega (arith, c.min.ensures) in
    let first = c.new-first.ensures in
    let second = c.new-second.ensures in
    let found = as_given (λ m n as' bs. Missing m n as' bs c.own_partners-own.result) _ _ _ _ first.nets second.nets first.devices second.devices c.if-pairable_from.ensures in
    inr (inr (inr (
      a,
      b,
      and_from _ _ (le-leb _ _ hm) (le-leb _ _ hn),
      inr (refl, not_same _ _ _ _ _ (ok_netlist _ _ a) (ok_netlist _ _ b) _ hm c.own_partners-own.ensures found),
    )))
