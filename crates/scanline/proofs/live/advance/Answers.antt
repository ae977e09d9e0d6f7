use Rattle.scanline.proofs.Advances.{advance_none, advance-more, advance_all, picked_less}
use Rattle.scanline.proofs.live.advance.Goals as goal

pub loop-span-init : goal.loop-span-init
loop-span-init c = rw c.new-out.ensures.items (advance_none c.args.row c.args.live.now c.args.new.now c.requires.live c.requires.new)

pub loop-span-smaller : goal.loop-span-smaller
loop-span-smaller c = picked_less _ _ _ _ _ c.in-Some.ensures

pub loop-span-preserved : goal.loop-span-preserved
loop-span-preserved c = advance-more _ _ _ _ _ c.in-Some.span c.in_ok-keep.ensures _ _ _ _ c.in-Some.ensures c.loop-span.invariant

pub returns : goal.returns
returns c =
    let e = c.in_default.ensures in
    advance_all _ _ _ _ (rw (e.0, e.1) at c.loop-span.invariant)
