-- What `shift_left` needs beyond what the search finds.
use Rattle.std.proofs.Common.{vec_items, subst}
use Rattle.scanline.specs.Lines.{Toggled}
use Rattle.scanline.proofs.Slides.{left-none, left-more, left-all}
use Rattle.scanline.proofs.lines.Line.shift_left.Goals as goal

pub loop-edge-init : goal.loop-edge-init
loop-edge-init c = simp c.in_ok-edges.ensures.items (left-none c.args.by _ (rw c.deref-edge-items.ensures.value c.args.self.now.sorted))

pub loop-edge-preserved : goal.loop-edge-preserved
loop-edge-preserved c = left-more _ _ _ _ _ c.loop-edge-test.true (subst (λ e. Toggled e (vec_items c.loop-edge.edges) (vec_items c.toggle.new.edges)) c.saturating_sub.ensures c.in_ok-toggle.ensures) c.loop-edge.invariant

pub invariant_of-result : goal.invariant_of-result
invariant_of-result c = record { sorted = (left-all _ _ _ _ c.loop-edge-test.false c.loop-edge.invariant).0 }

pub returns : goal.returns
returns c = rw (← c.deref-edge-items.ensures.value) (left-all _ _ _ _ c.loop-edge-test.false c.loop-edge.invariant).1
