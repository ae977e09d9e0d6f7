-- What `shift_up` needs beyond what the search finds.
use Rattle.std.proofs.Common.{◌-◌, vec_items, ap, ◌∙◌, subst}
use Rattle.scanline.specs.Edges.{edges_of}
use Rattle.scanline.specs.Bands.{Added}
use Rattle.region.proofs.Moves.{rise_none, rise-top, rise-more, rise_all}
use Rattle.region.proofs.regions.Region.shift_up.Goals as goal
use Rattle.region.proofs.regions.Region.shift_up.Goals.{then-band-by, else-band-by}

pub loop-band-init : goal.loop-band-init
loop-band-init c = simp c.new-bands.ensures.items (rise_none c.args.by _ (rw c.deref-band-items.ensures.value c.args.self.now.canonical))

pub loop-band-preserved : goal.loop-band-preserved
loop-band-preserved c =
    let d = subst (λ v. Added v (edges_of c.in_ok-line.line) (vec_items c.if-band-by.bands) (vec_items c.add_band.new.bands)) c.saturating_sub.ensures c.in_ok-add_band.ensures in
    let b = c.band-item.result in
    elim c.if-band-by.branch [
      | then-band-by w ↦ rise-top _ _ _ _ b c.loop-band-test.true c.band-item.is c.loop-band.invariant (edges_of c.in_ok-line.line) c.in_ok-line.ensures.cases _ w.if-band-by.true
          (subst (λ v. Added (b.from - c.args.by) (edges_of c.in_ok-line.line) v (vec_items c.add_band.new.bands)) (ap vec_items w.bands-is ∙ w.clear.ensures.items) d)
      | else-band-by w ↦ rise-more _ _ _ _ b c.loop-band-test.true c.band-item.is c.loop-band.invariant (edges_of c.in_ok-line.line) c.in_ok-line.ensures.cases _ w.if-band-by.false
          (subst (λ v. Added (b.from - c.args.by) (edges_of c.in_ok-line.line) v (vec_items c.add_band.new.bands)) (ap vec_items w.bands-is) d)
    ]

pub invariant_of-result : goal.invariant_of-result
invariant_of-result c = record { canonical = (rise_all _ _ _ _ c.loop-band-test.false c.loop-band.invariant).0 }

pub returns : goal.returns
returns c = rw (← c.deref-band-items.ensures.value) (rise_all _ _ _ _ c.loop-band-test.false c.loop-band.invariant).1
