-- Why `read_mask` meets its contract.
use Rattle.std.proofs.Common.{◌≡◌, ◌<◌, length, vec_items, sym, ◌∙◌, subst}
use Rattle.std.specs.List.{AllByRecursion}
use Rattle.std.proofs.lemmas.Result.{IfOk-weaker}
use Rattle.layout.specs.Rects.{covered}
use Rattle.nets.specs.Processes.{technology_of}
use Rattle.devices.specs.Terminals.{Gathered}
use Rattle.devices.specs.Readings.{Known}
use Rattle.devices.proofs.Crossings.{few-channels, known_from}
use Rattle.devices.proofs.entry.read_mask.Goals as goal

pub gather-requires : goal.gather-requires
gather-requires c =
    let cr = c.in_ok-crossing.crossing in
    subst (λ n. AllByRecursion (λ b. b.channel < n) c.deref.result.now) (sym cr.channels.tiles.ok.0 ∙ sym c.len-count.ensures)
    (subst (λ v. AllByRecursion (λ b. b.channel < length (vec_items cr.channels.tiles)) v) (sym c.deref.ensures.value)
    (few-channels (technology_of c.args.mask.now.process.now) (covered c.args.mask.now.boxes.rects.now) cr c.in_ok-crossing.ensures (vec_items c.in_ok-borders.borders) c.in_ok-borders.ensures))

pub returns : goal.returns
returns c =
    let k = technology_of c.args.mask.now.process.now in
    let d = covered c.args.mask.now.boxes.rects.now in
    let cr = c.in_ok-crossing.crossing in
    let count : c.len-count.result ≡ length (vec_items cr.channels.tiles) = c.len-count.ensures ∙ cr.channels.tiles.ok.0 in
    IfOk-weaker c.read_devices.result _ _ (λ v h. h k d
    (subst (λ v. Known k d (vec_items cr.channels.tiles) (vec_items cr.channels.roots) v) (sym c.deref-2.ensures.value)
    (known_from k d cr c.in_ok-crossing.ensures (vec_items c.in_ok-borders.borders) c.in_ok-borders.ensures (vec_items c.in_ok-terminals.terminals)
    (subst (λ v. Gathered v (length (vec_items cr.channels.tiles)) (vec_items c.in_ok-terminals.terminals)) c.deref.ensures.value
    (subst (λ n. Gathered c.deref.result.now n (vec_items c.in_ok-terminals.terminals)) count c.in_ok-terminals.ensures))))) c.read_devices.ensures
