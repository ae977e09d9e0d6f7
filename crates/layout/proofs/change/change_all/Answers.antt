-- What `change_all` needs beyond what the search finds.
use Rattle.std.proofs.Common.{◌^◌, sym, subst, arith}
use Rattle.std.proofs.ByRecursion.{All-get_or}
use Rattle.layout.specs.Changes.{change_rect}
use Rattle.layout.specs.Rects.{Within}
use Rattle.layout.proofs.Changes.{over-at, over-more, over-all}
use Rattle.layout.proofs.change.change_all.Goals as goal

pub changed-requires : goal.changed-requires
changed-requires c =
    let same = over-at (change_rect c.args.by) c.args.rects.now c.loop-q.rects c.loop-q.q-index _ (omega arith) c.loop-q.invariant in
    record { within = subst (Within (2 ^ 48)) (sym same) (All-get_or (Within (2 ^ 48)) _ c.loop-q.q-index _ (omega arith) c.requires.within); mild = c.requires.mild }

pub loop-q-preserved : goal.loop-q-preserved
loop-q-preserved c = over-more (change_rect c.args.by) _ _ c.loop-q.q-index _ _ (omega arith) c.loop-q.invariant c.changed.ensures

pub returns : goal.returns
returns c = over-all (change_rect c.args.by) _ _ c.loop-q.q-index (omega arith) c.loop-q.invariant
