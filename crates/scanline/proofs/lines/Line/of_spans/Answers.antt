-- What `of_spans` needs beyond what the search finds.
use Rattle.std.proofs.Common.{◌≡◌, ◌<◌, length, rules}
use Rattle.std.proofs.lemmas.List.{take_rest, nil_from_length}
use Rattle.scanline.proofs.Unions.{unite_none, unite_start, unite_at, unite-gap, unite-join, unite_end, both_ends}
use Rattle.scanline.proofs.lines.Line.of_spans.Goals as goal
use Rattle.scanline.proofs.lines.Line.of_spans.Goals.{then-to-span+in_ok-extend_from_slice, else-to-span}

pub returns-in_default : goal.returns-in_default
returns-in_default c =
    let none : length c.args.spans.now ≡ 0 = search rules in
    rw (c.empty.ensures, nil_from_length c.args.spans.now none) unite_none.holds

pub loop-span-init : goal.loop-span-init
loop-span-init c =
    let some : 0 < length c.args.spans.now = search rules in
    rw (c.new-edges.ensures.items, take_rest c.args.spans.now 1) (unite_start c.args.spans.now _ some c.requires)

pub loop-span-preserved : goal.loop-span-preserved
loop-span-preserved c =
    let h = unite_at _ _ _ _ _ c.loop-span.span-index (record { top = 0; left = 0; right = 0; bottom = 0 }) c.loop-span-test.true c.loop-span.invariant in
    elim c.if-to-span.branch [
      | then-to-span+in_ok-extend_from_slice w ↦ rw (w.edges-is, w.from-is, w.to-is, w.in_ok-extend_from_slice.ensures.items, both_ends _ _ _) (unite-gap _ _ _ _ _ _ h w.if-to-span.true)
      | else-to-span w ↦ rw (w.edges-is, w.from-is, w.to-is, w.max-to.ensures) (unite-join _ _ _ _ _ _ h w.if-to-span.false)
    ]

pub invariant_of-result : goal.invariant_of-result
invariant_of-result c = let s = (unite_end _ _ _ _ _ _ c.loop-span-test.false c.loop-span.invariant).ordered in record { sorted = rw (c.in_ok-extend_from_slice-2.ensures.items, both_ends _ _ _) s }

pub returns : goal.returns
returns c = rw (c.in_ok-extend_from_slice-2.ensures.items, both_ends _ _ _) (unite_end _ _ _ _ _ _ c.loop-span-test.false c.loop-span.invariant).holds
