-- Why `add_region` meets its contract.
use Rattle.std.proofs.Common.{◌++◌, vec_items, ap, ◌∙◌}
use Rattle.tiles.specs.Cuts.{band_tiles}
use Rattle.tiles.proofs.Cuts.{region_cut}
use Rattle.tiles.proofs.cut.add_region.Goals as goal

pub returns : goal.returns
returns c =
    region_cut c.args.layer _ _ _ c.args.region.now.canonical c.requires
    (c.in_ok-add_bands.ensures ∙ ap (λ bs. vec_items c.args.tiles.now ++ band_tiles c.args.layer bs) c.bands.ensures)
