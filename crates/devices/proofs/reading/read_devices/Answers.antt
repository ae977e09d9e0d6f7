-- Why `read_devices` meets its contract.
use Rattle.std.proofs.Common.{◌≡◌, ◌+◌, ◌<◌, [], ◌∷◌, ◌++◌, length, vec_items, sym, ap, ◌∙◌, subst, arith}
use Rattle.std.proofs.lemmas.List.{get_or_read}
use Rattle.tiles.specs.Tiles.{none, tile_at}
use Rattle.devices.specs.Channels.{spot_of}
use Rattle.devices.specs.Ends.{OddAt}
use Rattle.devices.specs.Pieces.{root_of}
use Rattle.devices.proofs.Readings.{Going, going-none, going-skip, going_more, going-odd, going-all}
use Rattle.devices.proofs.reading.read_devices.Goals as goal
use Rattle.devices.proofs.reading.read_devices.Goals.{then-index-i+in-Some+in_ok-push, else-index-i}

pub loop-i-init : goal.loop-i-init
loop-i-init c = λ k d known. subst (Going k d _ _ 0) (sym c.new-devices.ensures.items) (going-none k d _ _)

pub returns-in_default : goal.returns-in_default
returns-in_default c = λ k d known.
    let ts = vec_items c.args.channels.now.tiles in
    let rs = vec_items c.args.channels.now.roots in
    let i = c.loop-i.i in
    let within : i < length ts = omega (arith, c.loop-i-test.true, c.requires) in
    let inside : i < length rs = omega (arith, within, c.args.channels.now.long) in
    let root : c.index.result.now ≡ root_of rs i = get_or_read rs i c.index.result.now inside c.index.ensures i in
    let tile : c.index-tile.result.now ≡ tile_at ts i = get_or_read ts i c.index-tile.result.now within c.index-tile.ensures none in
    subst (λ t. OddAt k d (spot_of k t.left t.top)) (sym tile)
    (going-odd k d ts rs c.args.terminals.now known i (vec_items c.loop-i.devices) (c.loop-i.invariant k d known) within (sym root ∙ c.if-index-i.true) (sym c.in_default.ensures))

pub loop-i-preserved : goal.loop-i-preserved
loop-i-preserved c = λ k d known.
    let ts = vec_items c.args.channels.now.tiles in
    let rs = vec_items c.args.channels.now.roots in
    let i = c.loop-i.i in
    let within : i < length ts = omega (arith, c.loop-i-test.true, c.requires) in
    let inside : i < length rs = omega (arith, within, c.args.channels.now.long) in
    let root : c.index.result.now ≡ root_of rs i = get_or_read rs i c.index.result.now inside c.index.ensures i in
    elim c.if-index-i.branch [
      | then-index-i+in-Some+in_ok-push w ↦
          let tile : w.index-tile.result.now ≡ tile_at ts i = get_or_read ts i w.index-tile.result.now within w.index-tile.ensures none in
          subst (λ v. Going k d ts rs (i + 1) v)
          (sym (ap (λ v. vec_items v) w.devices-is ∙ (w.in_ok-push.ensures.items ∙ ap (λ t. vec_items c.loop-i.devices ++ record { x = t.left; y = t.top; one = w.in-Some.one; other = w.in-Some.other } ∷ []) tile)))
          (going_more k d ts rs c.args.terminals.now known i (vec_items c.loop-i.devices) (c.loop-i.invariant k d known) within (sym root ∙ w.if-index-i.true) w.in-Some.one w.in-Some.other (sym w.in-Some.ensures))
      | else-index-i w ↦ subst (λ v. Going k d ts rs (i + 1) (vec_items v)) (sym w.devices-is) (going-skip k d ts rs c.args.terminals.now known i (vec_items c.loop-i.devices) (c.loop-i.invariant k d known) (λ e. w.if-index-i.false (root ∙ e)))
    ]

pub returns : goal.returns
returns c = λ k d known. going-all k d _ _ c.args.terminals.now known c.loop-i.i _ (c.loop-i.invariant k d known) (omega (arith, c.loop-i-test.false, c.requires))
