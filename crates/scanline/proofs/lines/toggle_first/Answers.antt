use Rattle.std.proofs.Common.{◌≡◌, ◌<◌, length, get_or, ◌∙◌, rules}
use Rattle.std.proofs.lemmas.List.{take_rest}
use Rattle.std.proofs.lemmas.Result.{IfOk-weaker}
use Rattle.scanline.proofs.Walks.{toggled-zero}
use Rattle.scanline.proofs.lines.toggle_first.Goals as goal

pub returns-in-0 : goal.returns-in-0
returns-in-0 c =
    let es = c.args.edges.now in
    let some : 0 < length es = search rules in
    let zero-first : get_or es 0 0 ≡ 0 = search rules in
    IfOk-weaker c.from_slice.result _ _ (λ v h. h ∙ take_rest es 1 ∙ toggled-zero es some zero-first) c.from_slice.ensures.items
