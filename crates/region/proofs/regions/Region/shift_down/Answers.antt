-- What `shift_down` needs beyond what the search finds.
use Rattle.region.proofs.Moves.{move_more, move_all, move_stop}
use Rattle.region.proofs.regions.Region.shift_down.Goals as goal

pub loop-band-init : goal.loop-band-init
loop-band-init c = simp c.new-bands.ensures.items (record { moved = tt })

pub invariant_of-result : goal.invariant_of-result
invariant_of-result c = record { canonical = (move_stop _ _ _ _ c.band-item.result (rw c.deref-band-items.ensures.value c.args.self.now.canonical) c.loop-band.invariant c.loop-band-test.true c.band-item.is c.in_default.ensures).0 }

pub returns-in_default : goal.returns-in_default
returns-in_default c = rw (← c.deref-band-items.ensures.value) (move_stop _ _ _ _ c.band-item.result (rw c.deref-band-items.ensures.value c.args.self.now.canonical) c.loop-band.invariant c.loop-band-test.true c.band-item.is c.in_default.ensures).1

pub loop-band-preserved : goal.loop-band-preserved
loop-band-preserved c =
    rw c.in_ok-push.ensures.items
    (move_more _ _ _ _ c.band-item.result _ c.loop-band.invariant c.loop-band-test.true c.band-item.is c.in-Some.ensures.1 c.in_ok-line.ensures.cases)

pub invariant_of-result-2 : goal.invariant_of-result-2
invariant_of-result-2 c = record { canonical = (move_all _ _ _ _ (rw c.deref-band-items.ensures.value c.args.self.now.canonical) c.loop-band.invariant c.loop-band-test.false).0 }

pub returns : goal.returns
returns c = rw (← c.deref-band-items.ensures.value) (move_all _ _ _ _ (rw c.deref-band-items.ensures.value c.args.self.now.canonical) c.loop-band.invariant c.loop-band-test.false).1
