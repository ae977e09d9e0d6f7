-- Why `gather` meets its contract.
use Rattle.std.proofs.Common.{◌≡◌, ◌<◌, length, get_or, vec_items, ap, ◌∙◌, subst, arith}
use Rattle.std.proofs.lemmas.List.{length-replicate, length-set, take_all, get_or_read, get_or_default}
use Rattle.std.proofs.ByRecursion.{All-get_or}
use Rattle.devices.specs.declared.border.Border.{Border}
use Rattle.devices.specs.declared.terminal.Terminals.{Terminals}
use Rattle.devices.specs.declared.terminal.Terminals.TheVariants.{Isolated}
use Rattle.devices.specs.Terminals.{Sums, with_one}
use Rattle.devices.proofs.Terminals.{terminal_of, sums_none, sums-step}
use Rattle.devices.proofs.terminal.gather.Goals as goal

pub loop-border-init : goal.loop-border-init
loop-border-init c =
    let e = c.in_ok-all.ensures.items_if_clones_equal (λ y e. e) in
    (ap length e ∙ length-replicate {A = Terminals} c.args.count Isolated, sums_none c.args.count c.args.borders.now (vec_items c.in_ok-all.all) e)

pub index-requires : goal.index-requires
index-requires c =
    omega (
      arith,
      All-get_or (λ b. b.channel < c.args.count) c.args.borders.now c.loop-border.border-index (record { channel = 0; net = 0; x = 0; y = 0 }) c.loop-border-test.true c.requires,
      c.loop-border.invariant.0,
      c.loop-border.all.ok.0,
    )

pub index_mut-requires : goal.index_mut-requires
index_mut-requires c =
    omega (
      arith,
      All-get_or (λ b. b.channel < c.args.count) c.args.borders.now c.loop-border.border-index (record { channel = 0; net = 0; x = 0; y = 0 }) c.loop-border-test.true c.requires,
      c.loop-border.invariant.0,
      c.loop-border.all.ok.0,
    )

pub loop-border-preserved : goal.loop-border-preserved
loop-border-preserved c =
    let bs = c.args.borders.now in
    let i = c.loop-border.border-index in
    let es = vec_items c.loop-border.all in
    let b : Border = get_or bs i (record { channel = 0; net = 0; x = 0; y = 0 }) in
    let inside : b.channel < length es = omega (arith, All-get_or (λ b. b.channel < c.args.count) bs i (record { channel = 0; net = 0; x = 0; y = 0 }) c.loop-border-test.true c.requires, c.loop-border.invariant.0) in
    let read : c.index.result.now ≡ get_or es b.channel Isolated = get_or_read es b.channel c.index.result.now inside c.index.ensures Isolated in (
      length-set es b.channel c.with_one.result ∙ c.loop-border.invariant.0,
      sums-step bs i es b c.loop-border-test.true (get_or_default bs i b (record { channel = 0; net = 0; x = 0; y = 0 }) c.loop-border-test.true) inside c.loop-border.invariant.1 c.with_one.result
          (c.with_one.ensures ∙ ap (λ t. with_one t (terminal_of b)) read),
    )

pub returns : goal.returns
returns c = record {
  long = c.loop-border.invariant.0;
  each = λ r h. subst (λ l. Sums l r (get_or (vec_items c.loop-border.all) r Isolated)) (take_all c.loop-border.border-index c.args.borders.now c.loop-border-test.false) (c.loop-border.invariant.1 r);
}
