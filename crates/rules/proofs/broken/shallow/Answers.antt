-- What `shallow` needs beyond what the search finds.
use Rattle.std.proofs.Common.{not, ◌&&◌, leb, vec_items, ap, ◌∙◌}
use Rattle.std.proofs.lemmas.Result.{IfOk-weaker}
use Rattle.scanline.specs.Bands.{covers}
use Rattle.blocks.proofs.Dilations.{settled_not}
use Rattle.rules.proofs.Surroundings.{surrounded_is}
use Rattle.rules.proofs.broken.shallow.Goals as goal

pub returns : goal.returns
returns c =
    let a = covers (vec_items c.args.a.now.bands) in
    let b = covers (vec_items c.args.b.now.bands) in
    let o = covers (vec_items c.in_ok-outside.outside.bands) in
    let flip = c.in_ok-outside.ensures in
    IfOk-weaker c.combine-2.result _ _ (λ v h. record {
      holds = λ m f s x y.
          h.holds x y
          ∙ ap (λ v. a x y && not v)
          (c.in_ok-safe.ensures.holds x y
          ∙ ap (λ v. v && not (covers (vec_items c.in_ok-near.near.bands) x y)) (c.in_ok-inner.ensures x y)
          ∙ ap (λ v. (leb c.args.by x && leb c.args.by y) && not v) (c.in_ok-near.ensures.holds m f (settled_not m b o s flip) x y)
          ∙ surrounded_is c.args.by b o flip x y);
    }) c.combine-2.ensures
