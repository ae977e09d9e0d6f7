-- What `first` needs beyond what the search finds.
use Rattle.std.proofs.Common.{◌≡◌, ◌<◌, length, get_or, vec_items, sym, ap, ◌∙◌, subst, rules}
use Rattle.scanline.specs.Bands.{covers}
use Rattle.region.specs.Firsts.{First}
use Rattle.region.proofs.Looks.{first-none, first-filled, first_some}
use Rattle.region.proofs.regions.Region.first.Goals as goal

pub returns-in-empty : goal.returns-in-empty
returns-in-empty c =
    let none : length c.bands.result.now ≡ 0 = search rules in
    first-none (vec_items c.args.self.now.bands) (ap length (sym c.bands.ensures) ∙ none)

pub returns-in-empty-edges : goal.returns-in-empty-edges
returns-in-empty-edges c =
    let some : 0 < length c.bands.result.now = search rules in
    let none : length c.edges.result.now ≡ 0 = search rules in
    let v = c.bands.ensures in
    absurd (first-filled c.bands.result.now c.band-item.result (rw v c.args.self.now.canonical) some c.band-item.is (ap length (sym c.edges.ensures) ∙ none))

pub returns-in-len1-up-edges : goal.returns-in-len1-up-edges
returns-in-len1-up-edges c =
    let some : 0 < length c.bands.result.now = search rules in
    let filled : 0 < length c.edges.result.now = search rules in
    let v = c.bands.ensures in
    let e = c.edges.ensures in
    let f = first_some c.bands.result.now c.band-item.result (rw v c.args.self.now.canonical) some c.band-item.is (subst (λ es. 0 < length es) e filled) in
    subst (λ bs. First (covers bs) (get_or c.edges.result.now 0 0) c.band-item.result.from) v (subst (λ es. First (covers c.bands.result.now) (get_or es 0 0) c.band-item.result.from) (sym e) f)
