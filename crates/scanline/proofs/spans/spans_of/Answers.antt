use Rattle.std.proofs.Common.{ap, ◌∙◌}
use Rattle.std.proofs.lemmas.List.{take_all}
use Rattle.std.proofs.ByRecursion.{All-get_or, All-push}
use Rattle.layout.specs.Rects.{Within, covered}
use Rattle.scanline.specs.Spans.{Solid}
use Rattle.scanline.proofs.Spannings.{collect_start, collect-none, collect-some}
use Rattle.scanline.proofs.spans.spans_of.Goals as goal
use Rattle.scanline.proofs.spans.spans_of.Goals.{in-Some+in_ok-push, in_default}

pub loop-b-init : goal.loop-b-init
loop-b-init c = rw c.new-out.ensures.items (tt, λ x y. collect_start c.args.layer x y)

pub span_of-requires : goal.span_of-requires
span_of-requires c = All-get_or (Within 9223372036854775808) c.args.boxes.now c.loop-b.b-index _ c.loop-b-test.true c.requires

pub loop-b-preserved : goal.loop-b-preserved
loop-b-preserved c =
    elim c.match-span_of.branch [
      | in-Some+in_ok-push w ↦ rw (w.out-is, w.in_ok-push.ensures.items) (
        All-push Solid _ w.in-Some.span c.loop-b.invariant.0 w.in-Some.ensures.0,
        collect-some c.args.boxes.now c.args.layer c.loop-b.b-index _ c.loop-b-test.true _ c.loop-b.invariant.1 w.in-Some.span w.in-Some.ensures.1,
      )
      | in_default w ↦ rw w.out-is (c.loop-b.invariant.0, collect-none c.args.boxes.now c.args.layer c.loop-b.b-index _ c.loop-b-test.true _ c.loop-b.invariant.1 w.in_default.ensures)
    ]

pub returns : goal.returns
returns c = record {
  solid = c.loop-b.invariant.0;
  covers = λ x y. c.loop-b.invariant.1 x y ∙ ap (λ v. covered v c.args.layer x y) (take_all c.loop-b.b-index c.args.boxes.now c.loop-b-test.false);
}
