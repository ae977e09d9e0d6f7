-- Why a line that is added is what its contract says.
use Rattle.std.proofs.Common.{◌++◌, vec_items, ap, ◌∙◌, append_assoc}
use Rattle.report.proofs.line.add_broken.Goals as goal

pub returns : goal.returns
returns c =
    let out = vec_items c.args.out.now in
    c.in_ok-extend_from_slice-2.ensures.items
    ∙ ap (λ v. v ++ c.as_bytes.result.now) c.in_ok-extend_from_slice.ensures.items
    ∙ append_assoc out c.args.message.now c.as_bytes.result.now
    ∙ ap (λ v. out ++ (c.args.message.now ++ v)) (c.as_bytes.ensures.value ∙ c.in_ok-place.ensures)
