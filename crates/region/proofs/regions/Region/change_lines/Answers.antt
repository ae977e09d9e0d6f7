-- What `change_lines` needs beyond what the search finds.
use Rattle.std.proofs.Common.{Ok, refl, inl, inr}
use Rattle.std.specs.Fn.{FnReturnsAt}
use Rattle.std.proofs.lemmas.Fn.{says_at}
use Rattle.scanline.specs.Edges.{edges_of}
use Rattle.region.specs.Shifts.{Lined}
use Rattle.region.proofs.Lifts.{lift_none, lift_more, lift_all}
use Rattle.region.proofs.regions.Region.change_lines.Goals as goal

pub loop-band-init : goal.loop-band-init
loop-band-init g c = simp c.new-bands.ensures.items (lift_none (Lined (λ a b. FnReturnsAt g.F.Fn c.args.change a (Ok b))) _ (rw c.deref-band-items.ensures.value c.args.self.now.canonical) (inl (refl, refl)))

pub loop-band-preserved : goal.loop-band-preserved
loop-band-preserved g c =
    lift_more (Lined (λ a b. FnReturnsAt g.F.Fn c.args.change a (Ok b))) _ _ _ _ c.band-item.result (edges_of c.in_ok-line.line) c.loop-band-test.true c.band-item.is (inr (c.band-item.result.line, c.in_ok-line.line, refl, refl, says_at g.F.Fn c.change.ensures c.in_ok-line.was)) c.in_ok-add_band.ensures c.loop-band.invariant

pub invariant_of-result : goal.invariant_of-result
invariant_of-result g c = record { canonical = (lift_all (Lined (λ a b. FnReturnsAt g.F.Fn c.args.change a (Ok b))) _ _ _ c.loop-band-test.false c.loop-band.invariant).0 }

pub returns : goal.returns
returns g c = rw (← c.deref-band-items.ensures.value) (lift_all (Lined (λ a b. FnReturnsAt g.F.Fn c.args.change a (Ok b))) _ _ _ c.loop-band-test.false c.loop-band.invariant).1
