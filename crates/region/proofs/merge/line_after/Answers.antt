-- What `line_after` needs beyond what the search finds.
use Rattle.std.proofs.Common.{◌≡◌, ◌<◌, length, sym, ap, rules}
use Rattle.std.proofs.lemmas.List.{nil_from_length}
use Rattle.scanline.specs.Edges.{edges_of}
use Rattle.scanline.specs.Bands.{lastLine}
use Rattle.scanline.proofs.Rows.{last-is}
use Rattle.region.proofs.merge.line_after.Goals as goal

pub returns-in-empty : goal.returns-in-empty
returns-in-empty c =
    let none : length c.args.bands.now ≡ 0 = search rules in
    sym (ap (lastLine (edges_of c.args.line.now)) (nil_from_length c.args.bands.now none))

pub returns-in-len1-up : goal.returns-in-len1-up
returns-in-len1-up c =
    let some : 0 < length c.args.bands.now = search rules in
    last-is (edges_of c.args.line.now) c.args.bands.now c.band-item.result some c.band-item.is
