-- Why `add_bands` meets its contract.
use Rattle.std.proofs.Common.{◌-◌, ◌<◌, ◌≤◌, ◌++◌, length, take, drop, vec_items, sym, ap, ◌∙◌, rules}
use Rattle.tiles.specs.Cuts.{line_tiles, band_tiles}
use Rattle.tiles.proofs.Cuts.{band_more, band_all}
use Rattle.tiles.proofs.cut.add_bands.Goals as goal

pub loop-rest-preserved : goal.loop-rest-preserved
loop-rest-preserved c =
    let some : 2 ≤ length c.loop-rest.rest.now = search rules in
    ap (λ v. v ++ band_tiles c.args.layer (take (length c.loop-rest.rest.now - 1) (drop 1 c.loop-rest.rest.now)))
    (c.in_ok-add_line.ensures ∙ ap (λ es. vec_items c.loop-rest.tiles ++ line_tiles c.args.layer c.band-item.result.from c.next-item.result.from es) c.edges.ensures)
    ∙ (band_more c.args.layer (vec_items c.loop-rest.tiles) c.loop-rest.rest.now c.band-item.result c.next-item.result some c.band-item.is c.next-item.is ∙ c.loop-rest.invariant)

pub returns : goal.returns
returns c =
    let few : length c.loop-rest.rest.now < 2 = search rules in
    sym (band_all c.args.layer (vec_items c.loop-rest.tiles) c.loop-rest.rest.now few) ∙ c.loop-rest.invariant
