use Rattle.std.proofs.Common.{◌<◌, length, rules}
use Rattle.std.proofs.lemmas.Bool.{and_parts, leb-true}
use Rattle.scanline.proofs.Advances.{hides}
use Rattle.scanline.proofs.live.hidden.Goals as goal

pub returns-in-len1-up : goal.returns-in-len1-up
returns-in-len1-up c t =
    let some : 0 < length c.args.spans.now = search rules in
    let u = and_parts _ _ t in
    let v = and_parts _ _ u.0 in
    hides c.args.spans.now c.args.span some (leb-true _ _ v.0) (leb-true _ _ v.1) (leb-true _ _ u.1)
