-- Why `is_sound` meets its contract.
use Rattle.std.proofs.Common.{◌≡◌, ◌+◌, ◌-◌, get_or, take, drop, sym, ap, ◌∙◌, arith}
use Rattle.layout.specs.Numbers.{all_at_most}
use Rattle.nets.proofs.Technologies.{facts_ok, not-ok, none_above}
use Rattle.nets.proofs.technology.read.is_sound.Goals as goal

pub returns-then-numbers-lt4 : goal.returns-then-numbers-lt4
returns-then-numbers-lt4 c = sym (not-ok _ (λ f. omega (arith, f.long, c.if-numbers-lt4.true)))

pub returns-then-layers-gt-MAX_LAYERS : goal.returns-then-layers-gt-MAX_LAYERS
returns-then-layers-gt-MAX_LAYERS c = sym (not-ok _ (λ f. omega arith))

pub returns-then-joins-gt-MAX_JOINS : goal.returns-then-joins-gt-MAX_JOINS
returns-then-joins-gt-MAX_JOINS c = sym (not-ok _ (λ f. omega arith))

pub returns-then-numbers-layers : goal.returns-then-numbers-layers
returns-then-numbers-layers c = sym (not-ok _ (λ f. omega arith))

pub returns-then-gate-layers : goal.returns-then-gate-layers
returns-then-gate-layers c = sym (not-ok _ (λ f. omega arith))

pub returns-then-numbers-gate-ne1 : goal.returns-then-numbers-gate-ne1
returns-then-numbers-gate-ne1 c = sym (not-ok _ (λ f. omega arith))

pub returns : goal.returns
returns c =
    let xs = c.args.numbers.now in
    let n : 4 + get_or xs 0 0 - 4 ≡ get_or xs 0 0 = omega arith in
    none_above 1 _ c.first_above.result c.is_none.result c.first_above.ensures c.is_none.ensures ∙ (ap (λ k. all_at_most 1 (take k (drop 4 xs))) n ∙ sym (facts_ok xs (record {
      long = c.if-numbers-lt4.false;
      layers = c.if-layers-gt-MAX_LAYERS.false;
      joins = c.if-joins-gt-MAX_JOINS.false;
      whole = c.if-numbers-layers.false;
      gate = c.if-gate-layers.false;
      mark = c.if-numbers-gate-ne1.false;
    })))
