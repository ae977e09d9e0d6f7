-- proofs/name/Names/add/Answers.antt
-- What `add` needs beyond what the search finds.
use Rattle.std.proofs.Common.{◌<◌, ◌∷◌, ◌++◌, [], map, length, sym, ap, ◌∙◌, vec_items, subst, List, ℕ, arith, rules}
use Rattle.std.proofs.lemmas.List.{length-map}
use Rattle.indexmap.specs.IndexMap.{keys}
use Rattle.words.specs.Places.{Placed, spelled, spelled_at}
use Rattle.words.proofs.Names.{names-push, placed-push}
use Rattle.words.proofs.name.Names.add.Goals as goal

pub invariant_of-self-2 : goal.invariant_of-self-2
invariant_of-self-2 c =
    let t = c.self.inside in
    let new = c.insert_full.new.self in
    let items = c.in_ok-push.ensures.items ∙ ap (λ ps. ps ++ c.in_ok-place.place ∷ []) c.in_ok-reserve.ensures.items in
    let within : c.in_ok-place.place < length (spelled new) = omega (arith, c.in_ok-place.ensures.within, length-map (keys new) vec_items, length-map new.entries (λ e. e.0)) in
    subst (λ (ps : List ℕ). Placed ps new) (sym items) (placed-push _ t.numbers new c.in_ok-name.name c.len-number.result _ c.self.invariant c.in_ok-place.ensures.entries c.in_ok-place.ensures.index (search rules) within c.in_ok-place.ensures.updates)

pub returns : goal.returns
returns c =
    let t = c.self.inside in
    let new = c.insert_full.new.self in
    let items = c.in_ok-push.ensures.items ∙ ap (λ ps. ps ++ c.in_ok-place.place ∷ []) c.in_ok-reserve.ensures.items in
    let key = c.in_ok-name.ensures.items_if_clones_equal (λ x y h. h) in
    ap (map (spelled_at (spelled new))) items
    ∙ names-push _ t.numbers new c.in_ok-name.name c.len-number.result _ c.self.invariant c.in_ok-place.ensures.entries c.in_ok-place.ensures.index
    ∙ ap (λ w. map (spelled_at (spelled t.numbers)) t.places.items ++ w ∷ []) key
    ∙ ap (λ ns. ns ++ c.args.name.now ∷ []) c.self.view_is
