-- Why `wire_region` meets its contract.
use Rattle.std.proofs.Common.{sym, ◌∙◌}
use Rattle.std.proofs.lemmas.Result.{IfOk-weaker}
use Rattle.nets.specs.Processes.{technology_of}
use Rattle.nets.proofs.Layers.{near-boxes, shows-none, shows-whole, shows-crossed}
use Rattle.nets.proofs.mask.Mask.wire_region.Goals as goal

pub returns-then-not-carries : goal.returns-then-not-carries
returns-then-not-carries c =
    shows-none (technology_of c.args.self.now.process.now) c.args.self.now.boxes.rects.now c.args.layer _ (sym c.carries.ensures ∙ c.if-not-carries.true) c.empty.ensures

pub returns-then-layer-self : goal.returns-then-layer-self
returns-then-layer-self c =
    shows-whole (technology_of c.args.self.now.process.now) c.args.self.now.boxes.rects.now c.args.layer _ (sym c.carries.ensures ∙ c.if-not-carries.false) c.if-layer-self.true c.in_ok-region.ensures

pub returns : goal.returns
returns c =
    IfOk-weaker c.combine.result _ _
    (λ v h. shows-crossed (technology_of c.args.self.now.process.now) c.args.self.now.boxes.rects.now c.args.layer _ _ _ (sym c.carries.ensures ∙ c.if-not-carries.false) c.if-layer-self.false
    c.in_ok-region.ensures c.in_ok-gates.ensures h) c.combine.ensures

pub from_boxes-requires : goal.from_boxes-requires
from_boxes-requires c = near-boxes c.args.self.now.boxes.rects.now c.args.self.now.boxes.near

pub from_boxes-requires-2 : goal.from_boxes-requires-2
from_boxes-requires-2 c = near-boxes c.args.self.now.boxes.rects.now c.args.self.now.boxes.near
