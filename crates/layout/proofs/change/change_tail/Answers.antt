-- What `change_tail` needs beyond what the search finds.
use Rattle.std.proofs.Common.{◌^◌, List, drop, sym, ap, ◌∙◌, subst}
use Rattle.std.proofs.lemmas.List.{take_rest}
use Rattle.std.specs.List.{AllByRecursion}
use Rattle.layout.specs.Changes.{change_rect}
use Rattle.layout.specs.Rects.{Within}
use Rattle.layout.specs.declared.rect.Rect.{Rect}
use Rattle.layout.proofs.Changes.{tail_over}
use Rattle.layout.proofs.change.change_tail.Goals as goal

pub change_all-requires : goal.change_all-requires
change_all-requires c =
    let s = c.args.start in
    let e = take_rest c.as_mut_slice.result.now s ∙ ap (drop s) c.as_mut_slice.ensures.value in
    record { within = subst (λ (qs : List Rect). AllByRecursion (Within (2 ^ 48)) qs) (sym e) c.requires.within; mild = c.requires.mild }

pub returns : goal.returns
returns c = tail_over (change_rect c.args.by) _ _ c.change_all.new.rects c.args.start _ c.as_mut_slice.ensures.value c.args.out.now.ok.0 c.requires.start c.change_all.ensures
