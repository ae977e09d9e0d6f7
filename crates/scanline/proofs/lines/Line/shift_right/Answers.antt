-- What `shift_right` needs beyond what the search finds.
use Rattle.scanline.proofs.Slides.{right-none, right-more, right_far, right-all}
use Rattle.scanline.proofs.lines.Line.shift_right.Goals as goal

pub loop-edge-init : goal.loop-edge-init
loop-edge-init c = simp c.in_ok-edges.ensures.items (right-none c.args.by _ (rw c.deref-edge-items.ensures.value c.args.self.now.sorted))

pub invariant_of-result : goal.invariant_of-result
invariant_of-result c = record { sorted = (right_far _ _ _ _ (rw c.deref-edge-items.ensures.value c.args.self.now.sorted) c.loop-edge-test.true c.in_default.ensures c.loop-edge.invariant).0 }

pub returns-in_default : goal.returns-in_default
returns-in_default c = rw (← c.deref-edge-items.ensures.value) (right_far _ _ _ _ (rw c.deref-edge-items.ensures.value c.args.self.now.sorted) c.loop-edge-test.true c.in_default.ensures c.loop-edge.invariant).1

pub loop-edge-preserved : goal.loop-edge-preserved
loop-edge-preserved c = rw (c.in_ok-push.ensures.items, c.in-Some.ensures.1) (right-more _ _ _ _ c.loop-edge-test.true c.loop-edge.invariant)

pub invariant_of-result-2 : goal.invariant_of-result-2
invariant_of-result-2 c = record { sorted = (right-all _ _ _ _ c.loop-edge-test.false c.loop-edge.invariant).0 }

pub returns : goal.returns
returns c = rw (← c.deref-edge-items.ensures.value) (right-all _ _ _ _ c.loop-edge-test.false c.loop-edge.invariant).1
