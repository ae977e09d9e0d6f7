-- Why `nets` meets its contract.
use Rattle.std.proofs.Common.{◌≡◌, true, length, vec_items, refl, ap, ◌∙◌, subst}
use Rattle.std.proofs.lemmas.Result.{err_from_is_err_and}
use Rattle.layout.specs.Numbers.{layout_in, layout_refusal}
use Rattle.layout.specs.Rects.{covered}
use Rattle.nets.specs.Processes.{technology_of}
use Rattle.nets.specs.Spots.{Counted}
use Rattle.nets.specs.Technologies.{technology_in, technology_ok}
use Rattle.nets.proofs.Numberings.{turned-away, technology-away, spots-away, no-memory, numbered, spots-threes}
use Rattle.nets.proofs.entry.nets.Goals as goal

pub returns-in_err-layout : goal.returns-in_err-layout
returns-in_err-layout c =
    let p = err_from_is_err_and c.from_residual.result c.from_residual.ensures.1 in
    rw (p.1, p.2) (turned-away c.args.layout.now c.args.technology.now c.args.spots.now c.args.numbers.now _ c.in_err-layout.ensures)

pub returns-in_err-technology : goal.returns-in_err-technology
returns-in_err-technology c =
    let p = err_from_is_err_and c.from_residual-in_err-technology.result c.from_residual-in_err-technology.ensures.1 in
    let taken : layout_refusal c.args.layout.now ≡ 0 = subst (λ xs. layout_refusal xs ≡ 0) c.in_ok-layout.ensures c.in_ok-layout.layout.taken in
    rw (p.1, p.2) (rw c.in_err-technology.ensures.1 (technology-away c.args.layout.now c.args.technology.now c.args.spots.now c.args.numbers.now taken c.in_err-technology.ensures.0))

pub returns-in_err-check_spots : goal.returns-in_err-check_spots
returns-in_err-check_spots c =
    let p = err_from_is_err_and c.from_residual-in_err-check_spots.result c.from_residual-in_err-check_spots.ensures.1 in
    let taken : layout_refusal c.args.layout.now ≡ 0 = subst (λ xs. layout_refusal xs ≡ 0) c.in_ok-layout.ensures c.in_ok-layout.layout.taken in
    let ok : technology_ok c.args.technology.now ≡ true = subst (λ xs. technology_ok xs ≡ true) c.in_ok-technology.ensures c.in_ok-technology.technology.sound in
    rw (p.1, p.2) (rw c.in_err-check_spots.ensures.1 (spots-away c.args.layout.now c.args.technology.now c.args.spots.now c.args.numbers.now taken ok c.in_err-check_spots.ensures.0 c.in_err-check_spots.ensures.2))

pub returns-in_err-rects : goal.returns-in_err-rects
returns-in_err-rects c =
    let p = err_from_is_err_and c.from_residual-in_err-rects.result c.from_residual-in_err-rects.ensures.1 in
    let taken : layout_refusal c.args.layout.now ≡ 0 = subst (λ xs. layout_refusal xs ≡ 0) c.in_ok-layout.ensures c.in_ok-layout.layout.taken in
    let ok : technology_ok c.args.technology.now ≡ true = subst (λ xs. technology_ok xs ≡ true) c.in_ok-technology.ensures c.in_ok-technology.technology.sound in
    rw (p.1, p.2) (no-memory c.args.layout.now c.args.technology.now c.args.spots.now c.args.numbers.now taken ok c.in_ok-check_spots.ensures _ refl)

pub returns-in_err-process : goal.returns-in_err-process
returns-in_err-process c =
    let p = err_from_is_err_and c.from_residual-in_err-process.result c.from_residual-in_err-process.ensures.1 in
    let taken : layout_refusal c.args.layout.now ≡ 0 = subst (λ xs. layout_refusal xs ≡ 0) c.in_ok-layout.ensures c.in_ok-layout.layout.taken in
    let ok : technology_ok c.args.technology.now ≡ true = subst (λ xs. technology_ok xs ≡ true) c.in_ok-technology.ensures c.in_ok-technology.technology.sound in
    rw (p.1, p.2) (no-memory c.args.layout.now c.args.technology.now c.args.spots.now c.args.numbers.now taken ok c.in_ok-check_spots.ensures _ refl)

pub returns-in_err-number : goal.returns-in_err-number
returns-in_err-number c =
    let p = err_from_is_err_and c.from_residual-in_err-number.result c.from_residual-in_err-number.ensures.1 in
    let taken : layout_refusal c.args.layout.now ≡ 0 = subst (λ xs. layout_refusal xs ≡ 0) c.in_ok-layout.ensures c.in_ok-layout.layout.taken in
    let ok : technology_ok c.args.technology.now ≡ true = subst (λ xs. technology_ok xs ≡ true) c.in_ok-technology.ensures c.in_ok-technology.technology.sound in
    rw (p.1, p.2) (no-memory c.args.layout.now c.args.technology.now c.args.spots.now c.args.numbers.now taken ok c.in_ok-check_spots.ensures _ c.in_err-number.ensures)

pub number-requires : goal.number-requires
number-requires c = spots-threes _ _ c.in_ok-check_spots.ensures

pub returns : goal.returns
returns c =
    let taken : layout_refusal c.args.layout.now ≡ 0 = subst (λ xs. layout_refusal xs ≡ 0) c.in_ok-layout.ensures c.in_ok-layout.layout.taken in
    let ok : technology_ok c.args.technology.now ≡ true = subst (λ xs. technology_ok xs ≡ true) c.in_ok-technology.ensures c.in_ok-technology.technology.sound in
    numbered c.args.layout.now c.args.technology.now c.args.spots.now c.args.numbers.now taken ok c.in_ok-check_spots.ensures
    (technology_of c.in_ok-process.process) (covered (vec_items c.in_ok-rects.rects)) c.number.new.numbers (c.in_ok-process.ensures ∙ ap technology_in c.in_ok-technology.ensures)
    (λ l x y. c.in_ok-rects.ensures.draws l x y ∙ ap (λ xs. layout_in xs l x y) c.in_ok-layout.ensures) c.in_ok-number.ensures.0
    (subst (λ v. Counted (technology_of c.in_ok-process.process) (covered v) c.args.spots.now (length c.args.numbers.now) c.number.new.numbers) c.deref.ensures.value c.in_ok-number.ensures.1)
