-- Why is_circuit does what its contract says.
use Rattle.std.proofs.Common.{ltb, sym, ◌∙◌, arith, rules, tests}
use Rattle.std.proofs.lemmas.Iterator.{YieldsList-from_slice}
use Rattle.std.proofs.lemmas.Iterator.Search.{all_from_yields_List}
use Rattle.circuits.proofs.Comparisons.{all_below, sound_ok, unsound}
use Rattle.circuits.proofs.netlist.is_circuit.Goals as goal

pub returns-then-numbers-ne0 : goal.returns-then-numbers-ne0
returns-then-numbers-ne0 c = unsound _ _ (λ s. omega (arith, s.threes, c.if-numbers-ne0.true))

pub returns-then-numbers-gt-MAX_DEVICES : goal.returns-then-numbers-gt-MAX_DEVICES
returns-then-numbers-gt-MAX_DEVICES c = unsound _ _ (λ s. omega (arith, s.few))

pub returns-then-nets-eq0 : goal.returns-then-nets-eq0
returns-then-nets-eq0 c = unsound _ _ (λ s. omega (arith, s.some))

pub returns-then-nets-gt-MAX_NETS : goal.returns-then-nets-gt-MAX_NETS
returns-then-nets-gt-MAX_NETS c = unsound _ _ (λ s. omega (arith, s.nets))

pub returns : goal.returns
returns c =
    all_from_yields_List (λ x. ltb x c.args.nets) _ _ _ c.all.ensures.ran (YieldsList-from_slice c.args.numbers.now cc) (λ x b q k. search (rules, tests))
    ∙ (all_below c.args.nets c.args.numbers.now (omega arith) ∙ sym (sound_ok _ _ (omega arith) (omega arith) (omega arith) (omega arith)))
