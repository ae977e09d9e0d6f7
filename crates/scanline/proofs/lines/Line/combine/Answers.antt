-- What `combine` needs beyond what the search finds.
use Rattle.std.proofs.Common.{sym}
use Rattle.scanline.proofs.Merge.{start, finish, kept, pushed, same, first-none, first-less}
use Rattle.scanline.proofs.lines.Line.combine.Goals as goal

pub loop-edge-init : goal.loop-edge-init
loop-edge-init c = simp (c.in_ok-edges.ensures.items, c.edges-a.ensures, c.edges-b.ensures) (start c.args.op _ _ c.args.self.now.sorted c.args.other.now.sorted)

pub loop-edge-smaller-then-next-within : goal.loop-edge-smaller-then-next-within
loop-edge-smaller-then-next-within c =
    rw (c.pass.ensures.rest, c.pass-in-Some.ensures.rest) (first-less c.loop-edge.a.now c.loop-edge.b.now c.in-Some.edge (sym c.in-Some.ensures))

pub loop-edge-preserved-then-next-within : goal.loop-edge-preserved-then-next-within
loop-edge-preserved-then-next-within c =
    simp (c.in_ok-push.ensures.items, c.apply-next.ensures, c.pass.ensures.rest, c.pass-in-Some.ensures.rest, c.begins-in_a.ensures, c.begins-in_b.ensures)
    (pushed _ _ _ _ _ _ _ _ _ c.loop-edge.invariant c.in-Some.edge (sym c.in-Some.ensures) (rw (c.apply-next.ensures, c.begins-in_a.ensures, c.begins-in_b.ensures) at c.if-next-within.true))

pub loop-edge-smaller : goal.loop-edge-smaller
loop-edge-smaller c =
    rw (c.pass.ensures.rest, c.pass-in-Some.ensures.rest) (first-less c.loop-edge.a.now c.loop-edge.b.now c.in-Some.edge (sym c.in-Some.ensures))

pub loop-edge-preserved : goal.loop-edge-preserved
loop-edge-preserved c =
    let s = rw (c.apply-next.ensures, c.begins-in_a.ensures, c.begins-in_b.ensures) at (same c.apply-next.result c.loop-edge.within c.if-next-within.false) in
    rw (c.pass.ensures.rest, c.pass-in-Some.ensures.rest, c.begins-in_a.ensures, c.begins-in_b.ensures, ← s)
    (kept _ _ _ _ _ _ _ _ _ c.loop-edge.invariant c.in-Some.edge (sym c.in-Some.ensures) s)

pub invariant_of-result : goal.invariant_of-result
invariant_of-result c =
    let e = first-none c.loop-edge.a.now c.loop-edge.b.now (sym c.in_default.ensures) in
    record { sorted = (finish _ _ _ _ _ _ _ (rw (e.0, e.1) at c.loop-edge.invariant)).ordered }

pub returns : goal.returns
returns c =
    let e = first-none c.loop-edge.a.now c.loop-edge.b.now (sym c.in_default.ensures) in
    finish _ _ _ _ _ _ _ (rw (e.0, e.1) at c.loop-edge.invariant)
