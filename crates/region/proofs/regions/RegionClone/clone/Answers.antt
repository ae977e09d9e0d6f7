-- What `clone` needs beyond what the search finds.
use Rattle.std.proofs.Common.{rules, [], vec_items, sym, ◌∙◌}
use Rattle.region.proofs.Unique.{copied-alike, alike-canonical, alike-covers}
use Rattle.region.proofs.regions.RegionClone.clone.Goals as goal

pub invariant_of-result : goal.invariant_of-result
invariant_of-result c =
    let h = copied-alike _ (vec_items c.args.self.now.bands) (vec_items c.in_ok-bands.bands) c.in_ok-bands.ensures.cases.0 (λ a b r. search rules) in
    record { canonical = sym (alike-canonical [] 0 _ _ h) ∙ c.args.self.now.canonical }

pub returns : goal.returns
returns c =
    let h = copied-alike _ (vec_items c.args.self.now.bands) (vec_items c.in_ok-bands.bands) c.in_ok-bands.ensures.cases.0 (λ a b r. search rules) in
    record { cases = λ x y. sym (alike-covers _ _ h x y) }
