-- What `boxes` needs beyond what the search finds.
use Rattle.std.proofs.Common.{◌≡◌, ◌+◌, ◌-◌, ◌^◌, List, ◌++◌, length, vec_items, sym, ap, ◌∙◌, subst, arith}
use Rattle.std.specs.List.{AllByRecursion}
use Rattle.layout.specs.Numbers.{sixes}
use Rattle.layout.specs.Pieces.{piece}
use Rattle.layout.specs.Rects.{rects, covered, Within}
use Rattle.layout.specs.declared.rect.Rect.{Rect}
use Rattle.layout.proofs.Sizes.{rects-length}
use Rattle.layout.proofs.Pieces.{piece-near}
use Rattle.layout.proofs.Checks.{sound_of, few-of, draws}
use Rattle.layout.proofs.layout.Layout.boxes.Goals as goal

pub returns : goal.returns
returns c =
    let d = c.args.self.now in
    let xs = d.nodes.numbers.now in
    let s = d.nodes.sound in
    let p = c.len.result - 1 in
    let last : p + 1 ≡ sixes xs = omega (arith, s.some) in
    let made : vec_items c.put.new.out ≡ rects (piece xs p) = c.in_ok-put.ensures ∙ ap (λ (qs : List Rect). qs ++ rects (piece xs p)) c.new-out.ensures.items in
    record {
      draws = λ l x y. ap (λ (qs : List Rect). covered qs l x y) made ∙ draws xs s p last l x y;
      few = omega (arith, c.put.new.out.ok.0, ap length made, rects-length (piece xs p), few-of xs s p last (sound_of xs d.taken).1);
      near = subst (λ (qs : List Rect). AllByRecursion (Within (2 ^ 40)) qs) (sym made) (piece-near xs s p (omega arith));
    }
