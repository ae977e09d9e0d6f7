-- What `has_cell` needs beyond what the search finds.
use Rattle.std.proofs.Common.{◌≡◌, leb, refl, ap, ◌∙◌, arith}
use Rattle.layout.specs.Numbers.{sixes}
use Rattle.layout_writer.specs.Cells.{uses_below}
use Rattle.layout_writer.proofs.Used.{uses-more}
use Rattle.layout_writer.proofs.cell.has_cell.Goals as goal

pub loop-n-init : goal.loop-n-init
unfolding uses_below
loop-n-init c = (refl, omega arith)

pub loop-n-preserved : goal.loop-n-preserved
loop-n-preserved c =
    let xs = c.args.nodes.now.numbers.now in
    let by = c.uses-total.ensures.same _ _ _ _ _ _ c.node.ensures.spelled in
    (uses-more xs c.args.m c.loop-n.n c.loop-n.total c.uses-total.result c.loop-n.invariant.0 by, omega (arith, c.loop-n.invariant.1, c.uses-total.ensures.few))

pub returns : goal.returns
returns c =
    let xs = c.args.nodes.now.numbers.now in
    let all : c.loop-n.n ≡ sixes xs = omega (arith, c.loop-n-test.false, c.loop-n.auto.n-end, c.len-n-end.ensures) in
    ap (leb 2) (c.loop-n.invariant.0 ∙ ap (uses_below xs c.args.m) all)
