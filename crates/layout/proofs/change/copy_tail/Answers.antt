-- What `copy_tail` needs beyond what the search finds.
use Rattle.std.proofs.Common.{◌≡◌, ◌^◌, ◌≤◌, List, vec_items, length, drop, sym, ap, ◌∙◌, subst, mul-le-mul_right, arith}
use Rattle.std.proofs.lemmas.List.{drop_at}
use Rattle.std.specs.List.{AllByRecursion}
use Rattle.layout.specs.Rects.{Within}
use Rattle.layout.specs.declared.rect.Rect.{Rect}
use Rattle.layout.proofs.Copies.{copied_none, copied-part, copied-again}
use Rattle.layout.proofs.change.copy_tail.Goals as goal

pub loop-k-init : goal.loop-k-init
loop-k-init c =
    let long = c.len-end.ensures ∙ c.args.out.now.ok.0 in
    copied_none (vec_items c.args.out.now) c.args.start c.len-end.result c.args.right c.args.below long

pub change_tail-requires : goal.change_tail-requires
change_tail-requires c =
    let long = c.len-end.ensures ∙ c.args.out.now.ok.0 in
    let at : c.len-at.result ≡ length (vec_items c.loop-k.out) = c.len-at.ensures ∙ c.loop-k.out.ok.0 in
    let items = c.in_ok-extend_from_within.ensures.items in
    let k = c.loop-k.k in
    let before : k ≤ c.args.many = omega arith in
    let part = copied-part (vec_items c.args.out.now) c.args.start c.len-end.result c.args.right c.args.below long k (vec_items c.loop-k.out) c.loop-k.invariant in
    record {
      start = omega (arith, c.in_ok-extend_from_within.ensures.len);
      within = subst (λ (us : List Rect). AllByRecursion (Within (2 ^ 48)) us) (sym (ap (drop c.len-at.result) items ∙ drop_at (vec_items c.loop-k.out) _ c.len-at.result (sym at) ∙ part)) c.requires.within;
      mild = (omega (arith, mul-le-mul_right c.args.right before), omega (arith, mul-le-mul_right c.args.below before));
    }

pub loop-k-preserved : goal.loop-k-preserved
loop-k-preserved c =
    let long = c.len-end.ensures ∙ c.args.out.now.ok.0 in
    copied-again (vec_items c.args.out.now) c.args.start c.len-end.result c.args.right c.args.below long c.loop-k.k c.len-at.result _ _ _ c.loop-k.invariant (c.len-at.ensures ∙ c.loop-k.out.ok.0) c.in_ok-extend_from_within.ensures.items c.change_tail.ensures
