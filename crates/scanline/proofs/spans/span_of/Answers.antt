use Rattle.scanline.proofs.Spannings.{span_some, span_none}
use Rattle.scanline.proofs.spans.span_of.Goals as goal

pub returns-then-b-layer : goal.returns-then-b-layer
returns-then-b-layer c = let h = span_some c.args.b c.args.layer c.if-b-layer.true in ((h.0, h.1), h.2)

pub returns : goal.returns
returns c = span_none c.args.b c.args.layer c.if-b-layer.false
