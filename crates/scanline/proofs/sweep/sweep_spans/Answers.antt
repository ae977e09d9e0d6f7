use Rattle.std.proofs.Common.{◌≡◌, Some, None, vec_items, sym}
use Rattle.scanline.specs.Edges.{edges_of}
use Rattle.scanline.specs.Spans.{next_edge}
use Rattle.scanline.proofs.Spannings.{split_at}
use Rattle.scanline.proofs.Sweeps.{sweep_none, sweep_all, swept, swept-less, begun}
use Rattle.scanline.proofs.sweep.sweep_spans.Goals as goal

pub loop-row-init : goal.loop-row-init
loop-row-init c = rw (c.new-bands.ensures.items, c.new-live.ensures.items) (sweep_none c.args.spans.now c.requires)

pub advance-requires : goal.advance-requires
advance-requires c =
    let e : next_edge (vec_items c.loop-row.live) c.loop-row.rest.now ≡ Some c.in-Some.row = rw (← c.as_slice.ensures.value) (sym c.in-Some.ensures) in
    let sp = split_at c.in-Some.row c.loop-row.rest.now c.begin_at.result (begun _ _ _ _ c.loop-row.invariant _ e) c.begin_at.ensures.within c.begin_at.ensures.begin c.begin_at.ensures.next in
    record { live = rw c.as_slice-in-Some.ensures.value c.loop-row.invariant.columns; new = rw c.split_at.ensures.front sp.columns }

pub loop-row-smaller : goal.loop-row-smaller
loop-row-smaller c =
    let e : next_edge (vec_items c.loop-row.live) c.loop-row.rest.now ≡ Some c.in-Some.row = rw (← c.as_slice.ensures.value) (sym c.in-Some.ensures) in
    let sp = split_at c.in-Some.row c.loop-row.rest.now c.begin_at.result (begun _ _ _ _ c.loop-row.invariant _ e) c.begin_at.ensures.within c.begin_at.ensures.begin c.begin_at.ensures.next in
    let a = rw (c.as_slice-in-Some.ensures.value, c.split_at.ensures.front) at c.in_ok-live.ensures in
    rw c.split_at.ensures.back (swept-less _ _ _ _ c.loop-row.invariant _ e c.begin_at.result sp _ a c.begin_at.ensures.within c.begin_at.ensures.next)

pub loop-row-preserved : goal.loop-row-preserved
loop-row-preserved c =
    let e : next_edge (vec_items c.loop-row.live) c.loop-row.rest.now ≡ Some c.in-Some.row = rw (← c.as_slice.ensures.value) (sym c.in-Some.ensures) in
    let sp = split_at c.in-Some.row c.loop-row.rest.now c.begin_at.result (begun _ _ _ _ c.loop-row.invariant _ e) c.begin_at.ensures.within c.begin_at.ensures.begin c.begin_at.ensures.next in
    let a = rw (c.as_slice-in-Some.ensures.value, c.split_at.ensures.front) at c.in_ok-live.ensures in
    let u = rw c.as_slice-in-Some-2.ensures.value at c.in_ok-line.ensures in
    rw c.split_at.ensures.back (swept _ _ _ _ c.loop-row.invariant _ e c.begin_at.result sp _ a (edges_of c.in_ok-line.line) u _ c.in_ok-add_band.ensures)

pub returns : goal.returns
returns c =
    let e : next_edge (vec_items c.loop-row.live) c.loop-row.rest.now ≡ None = rw (← c.as_slice.ensures.value) (sym c.in_default.ensures) in
    let h = sweep_all _ _ _ _ e c.loop-row.invariant in
    record { canonical = h.0; covers = h.1 }
