-- What `combine` needs beyond what the search finds.
use Rattle.std.proofs.Common.{sym, ap, ◌∙◌}
use Rattle.scanline.specs.Edges.{edges_of}
use Rattle.scanline.specs.Bands.{lastLine}
use Rattle.region.proofs.Turns.{start, finish, added, first-none, first-less, line_here}
use Rattle.region.proofs.regions.Region.combine.Goals as goal

pub loop-row-init : goal.loop-row-init
loop-row-init c = simp (c.new-bands.ensures.items, c.bands-a.ensures, c.bands-b.ensures) (start c.args.op _ _ _ c.empty-none.ensures c.args.self.now.canonical c.args.other.now.canonical)

pub loop-row-smaller : goal.loop-row-smaller
loop-row-smaller c =
    rw (c.pass.ensures.rest, c.pass-in-Some.ensures.rest) (first-less c.loop-row.a.now c.loop-row.b.now c.in-Some.row (sym c.in-Some.ensures))

pub loop-row-preserved : goal.loop-row-preserved
loop-row-preserved c =
    let row = c.in-Some.row in
    let a = c.line_after-line_a.ensures ∙ ap (lastLine (edges_of c.loop-row.line_a.now)) c.pass.ensures.here ∙ line_here row (edges_of c.loop-row.line_a.now) c.loop-row.a.now in
    let b = c.line_after-line_b.ensures ∙ ap (lastLine (edges_of c.loop-row.line_b.now)) c.pass-in-Some.ensures.here ∙ line_here row (edges_of c.loop-row.line_b.now) c.loop-row.b.now in
    let made = rw (a, b) at c.in_ok-line.ensures in
    rw (c.pass.ensures.rest, c.pass-in-Some.ensures.rest, a, b)
    (added _ _ _ _ _ _ _ _ c.loop-row.invariant row (sym c.in-Some.ensures) (edges_of c.in_ok-line.line) made _ c.in_ok-add_band.ensures)

pub invariant_of-result : goal.invariant_of-result
invariant_of-result c =
    let e = first-none c.loop-row.a.now c.loop-row.b.now (sym c.in_default.ensures) in
    record { canonical = (finish _ _ _ _ _ _ (rw (e.0, e.1) at c.loop-row.invariant)).0 }

pub returns : goal.returns
returns c =
    let e = first-none c.loop-row.a.now c.loop-row.b.now (sym c.in_default.ensures) in
    (finish _ _ _ _ _ _ (rw (e.0, e.1) at c.loop-row.invariant)).1
