-- What `of_spans` keeps true as it goes round.
use Rattle.std.proofs.Common.{drop, vec_items}
use Rattle.scanline.proofs.Unions.{Uniting}
use Rattle.scanline.proofs.lines.Line.of_spans.Given as goal

abbrev pub invariant-loop-span : goal.invariant-loop-span
invariant-loop-span l = Uniting l.spans (vec_items l.edges) l.from l.to (drop l.span-index l.rest)
