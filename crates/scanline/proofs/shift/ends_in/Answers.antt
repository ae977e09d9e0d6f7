use Rattle.std.proofs.Common.{◌≡◌, ◌<◌, length, sym, ap, rules}
use Rattle.std.proofs.lemmas.List.{nil_from_length}
use Rattle.scanline.specs.Lines.{ends_in}
use Rattle.scanline.proofs.Slides.{ends_last}
use Rattle.scanline.proofs.shift.ends_in.Goals as goal

pub returns-in-empty : goal.returns-in-empty
returns-in-empty c =
    let none : length c.args.edges.now ≡ 0 = search rules in
    sym (ap (ends_in c.args.edge) (nil_from_length c.args.edges.now none))

pub returns-in-len1-up : goal.returns-in-len1-up
returns-in-len1-up c =
    let some : 0 < length c.args.edges.now = search rules in
    ends_last c.args.edge c.args.edges.now some
