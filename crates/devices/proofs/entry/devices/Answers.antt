-- Why `devices` meets its contract.
use Rattle.std.proofs.Common.{◌≡◌, ◌/◌, ◌≤◌, true, length, vec_items, ap, ◌∙◌, subst, arith}
use Rattle.std.proofs.lemmas.Result.{err_from_is_err_and}
use Rattle.layout.specs.Numbers.{layout_in, layout_refusal}
use Rattle.layout.specs.Rects.{covered}
use Rattle.nets.specs.Processes.{technology_of}
use Rattle.nets.specs.Technologies.{technology_in, technology_ok}
use Rattle.devices.specs.Findings.{ReadInto}
use Rattle.devices.specs.Readings.{ComesTo, Written}
use Rattle.devices.proofs.Findings.{turned-away, technology-away, no-memory, odd-shown, too-little, read_all}
use Rattle.devices.proofs.entry.devices.Goals as goal

pub returns-in_err-layout : goal.returns-in_err-layout
returns-in_err-layout c =
    let p = err_from_is_err_and c.from_residual.result c.from_residual.ensures.1 in
    rw (p.1, p.2) (turned-away c.args.layout.now c.args.technology.now c.args.room.now _ c.in_err-layout.ensures)

pub returns-in_err-technology : goal.returns-in_err-technology
returns-in_err-technology c =
    let p = err_from_is_err_and c.from_residual-in_err-technology.result c.from_residual-in_err-technology.ensures.1 in
    let taken : layout_refusal c.args.layout.now ≡ 0 = subst (λ xs. layout_refusal xs ≡ 0) c.in_ok-layout.ensures c.in_ok-layout.layout.taken in
    rw (p.1, p.2) (rw c.in_err-technology.ensures.1 (technology-away c.args.layout.now c.args.technology.now c.args.room.now taken c.in_err-technology.ensures.0))

pub returns-in_err-rects : goal.returns-in_err-rects
returns-in_err-rects c =
    let p = err_from_is_err_and c.from_residual-in_err-rects.result c.from_residual-in_err-rects.ensures.1 in
    let taken : layout_refusal c.args.layout.now ≡ 0 = subst (λ xs. layout_refusal xs ≡ 0) c.in_ok-layout.ensures c.in_ok-layout.layout.taken in
    let ok : technology_ok c.args.technology.now ≡ true = subst (λ xs. technology_ok xs ≡ true) c.in_ok-technology.ensures c.in_ok-technology.technology.sound in
    rw (p.1, p.2) (no-memory c.args.layout.now c.args.technology.now c.args.room.now taken ok)

pub returns-in_err-process : goal.returns-in_err-process
returns-in_err-process c =
    let p = err_from_is_err_and c.from_residual-in_err-process.result c.from_residual-in_err-process.ensures.1 in
    let taken : layout_refusal c.args.layout.now ≡ 0 = subst (λ xs. layout_refusal xs ≡ 0) c.in_ok-layout.ensures c.in_ok-layout.layout.taken in
    let ok : technology_ok c.args.technology.now ≡ true = subst (λ xs. technology_ok xs ≡ true) c.in_ok-technology.ensures c.in_ok-technology.technology.sound in
    rw (p.1, p.2) (no-memory c.args.layout.now c.args.technology.now c.args.room.now taken ok)

pub returns-in_err-found : goal.returns-in_err-found
returns-in_err-found c =
    let p = err_from_is_err_and c.from_residual-in_err-found.result c.from_residual-in_err-found.ensures.1 in
    let taken : layout_refusal c.args.layout.now ≡ 0 = subst (λ xs. layout_refusal xs ≡ 0) c.in_ok-layout.ensures c.in_ok-layout.layout.taken in
    let ok : technology_ok c.args.technology.now ≡ true = subst (λ xs. technology_ok xs ≡ true) c.in_ok-technology.ensures c.in_ok-technology.technology.sound in
    rw (p.1, p.2) (no-memory c.args.layout.now c.args.technology.now c.args.room.now taken ok)

pub returns-in-Odd : goal.returns-in-Odd
returns-in-Odd c =
    let taken : layout_refusal c.args.layout.now ≡ 0 = subst (λ xs. layout_refusal xs ≡ 0) c.in_ok-layout.ensures c.in_ok-layout.layout.taken in
    let ok : technology_ok c.args.technology.now ≡ true = subst (λ xs. technology_ok xs ≡ true) c.in_ok-technology.ensures c.in_ok-technology.technology.sound in
    let came = rw c.deref.ensures.value at c.in_ok-found.ensures in
    odd-shown c.args.layout.now c.args.technology.now c.args.room.now taken ok (technology_of c.in_ok-process.process) (covered (vec_items c.in_ok-rects.rects)) (c.in_ok-process.ensures ∙ ap technology_in c.in_ok-technology.ensures)
    (λ l x y. c.in_ok-rects.ensures.draws l x y ∙ ap (λ xs. layout_in xs l x y) c.in_ok-layout.ensures)
    c.in-Odd.x c.in-Odd.y (subst (ComesTo (technology_of c.in_ok-process.process) (covered (vec_items c.in_ok-rects.rects))) c.in-Odd.is came)

pub returns-then-len-room : goal.returns-then-len-room
returns-then-len-room c =
    let taken : layout_refusal c.args.layout.now ≡ 0 = subst (λ xs. layout_refusal xs ≡ 0) c.in_ok-layout.ensures c.in_ok-layout.layout.taken in
    let ok : technology_ok c.args.technology.now ≡ true = subst (λ xs. technology_ok xs ≡ true) c.in_ok-technology.ensures c.in_ok-technology.technology.sound in
    let came = rw c.deref.ensures.value at c.in_ok-found.ensures in
    too-little c.args.layout.now c.args.technology.now c.args.room.now taken ok (technology_of c.in_ok-process.process) (covered (vec_items c.in_ok-rects.rects)) (c.in_ok-process.ensures ∙ ap technology_in c.in_ok-technology.ensures)
    (λ l x y. c.in_ok-rects.ensures.draws l x y ∙ ap (λ xs. layout_in xs l x y) c.in_ok-layout.ensures)
    (vec_items c.in-Devices.devices) (subst (ComesTo (technology_of c.in_ok-process.process) (covered (vec_items c.in_ok-rects.rects))) c.in-Devices.is came)
    (omega (arith, c.if-len-room.true, c.len.ensures, c.in-Devices.devices.ok.0))

pub returns : goal.returns
returns c =
    let taken : layout_refusal c.args.layout.now ≡ 0 = subst (λ xs. layout_refusal xs ≡ 0) c.in_ok-layout.ensures c.in_ok-layout.layout.taken in
    let ok : technology_ok c.args.technology.now ≡ true = subst (λ xs. technology_ok xs ≡ true) c.in_ok-technology.ensures c.in_ok-technology.technology.sound in
    let came = rw c.deref.ensures.value at c.in_ok-found.ensures in
    let vs = vec_items c.in-Devices.devices in
    let few : length vs ≤ length c.args.room.now / 6 = omega (arith, c.if-len-room.false, c.len.ensures, c.in-Devices.devices.ok.0) in
    let count : length vs ≡ c.len-in-Devices.result = omega (arith, c.len-in-Devices.ensures, c.in-Devices.devices.ok.0) in
    subst (λ n. ReadInto c.args.layout.now c.args.technology.now c.args.room.now n c.write_devices.new.room) count
    (read_all c.args.layout.now c.args.technology.now c.args.room.now taken ok (technology_of c.in_ok-process.process) (covered (vec_items c.in_ok-rects.rects)) (c.in_ok-process.ensures ∙ ap technology_in c.in_ok-technology.ensures)
    (λ l x y. c.in_ok-rects.ensures.draws l x y ∙ ap (λ xs. layout_in xs l x y) c.in_ok-layout.ensures)
    vs (subst (ComesTo (technology_of c.in_ok-process.process) (covered (vec_items c.in_ok-rects.rects))) c.in-Devices.is came)
    c.write_devices.new.room few (subst (λ v. Written v (length v) c.args.room.now c.write_devices.new.room) c.deref-in-Devices.ensures.value c.write_devices.ensures))
