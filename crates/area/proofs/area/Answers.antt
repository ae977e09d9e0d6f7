use Rattle.std.proofs.Common.{vec_items, subst}
use Rattle.area.specs.Areas.{Sums, area_of}
use Rattle.area.proofs.Areas.{counted}
use Rattle.area.proofs.area.Goals as goal

pub returns : goal.returns
returns c = counted (vec_items c.args.region.now.bands) _ c.args.region.now.canonical (subst (λ bs. Sums (area_of bs) c.bands_area.result) c.bands.ensures c.bands_area.ensures)
