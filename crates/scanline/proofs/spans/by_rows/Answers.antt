use Rattle.std.proofs.Common.{◌≡◌, ◌+◌, false, get_or, vec_items, ◌∙◌, arith}
use Rattle.std.specs.Ordering.{is_lt, nat_cmp, ordering_then}
use Rattle.std.proofs.lemmas.Bool.Decides.{nat_tests}
use Rattle.std.proofs.ByRecursion.{all_shuffled}
use Rattle.scanline.specs.declared.span.Span.{Span}
use Rattle.scanline.specs.Spans.{Solid, no_span}
use Rattle.scanline.proofs.Spannings.{Upto, rows-from, shuffled_covers}
use Rattle.scanline.proofs.spans.by_rows.Goals as goal

-- the order of spans is that of their fields, one after another
upto : (a b : Span) → is_lt (ordering_then (nat_cmp b.top a.top) (ordering_then (nat_cmp b.left a.left) (ordering_then (nat_cmp b.right a.right) (nat_cmp b.bottom a.bottom)))) ≡ false → Upto a b
upto a b h = grind (arith, nat_tests)

pub returns : goal.returns
returns c =
    let before = vec_items c.in_ok-spans.spans in
    let after = vec_items c.sort_unstable.new.self in
    let h = c.sort_unstable.ensures in
    record {
      rows = rows-from 0 after (all_shuffled Solid before after c.sort_unstable.ensures.permutation c.in_ok-spans.ensures.solid) (λ l. omega arith)
          (λ i l. upto (get_or after i no_span) (get_or after (i + 1) no_span) (h.sorted i no_span (omega arith) (omega (arith, c.sort_unstable.ensures.len, c.sort_unstable.new.self.ok.0))));
      covers = λ x y. shuffled_covers before after x y c.sort_unstable.ensures.permutation ∙ c.in_ok-spans.ensures.covers x y;
    }
