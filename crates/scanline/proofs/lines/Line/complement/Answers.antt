use Rattle.std.proofs.Common.{vec_items}
use Rattle.scanline.specs.Lines.{Sorted}
use Rattle.scanline.proofs.Walks.{toggled-inside, toggled-sorted}
use Rattle.scanline.proofs.lines.Line.complement.Goals as goal

pub invariant_of-result : goal.invariant_of-result
invariant_of-result c =
    let s : Sorted (vec_items c.in_ok-edges.edges) = rw (c.in_ok-edges.ensures, c.as_slice.ensures.value) (toggled-sorted (vec_items c.args.self.now.edges) c.args.self.now.sorted) in
    record { sorted = s }

pub returns : goal.returns
returns c = λ x. rw (c.in_ok-edges.ensures, c.as_slice.ensures.value) (toggled-inside _ x)
