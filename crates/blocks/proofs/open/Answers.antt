-- What `open` needs beyond what the search finds.
use Rattle.std.proofs.lemmas.Result.{IfOk-weaker}
use Rattle.std.proofs.Common.{◌≡◌, suc, ◌-◌, ◌*◌, vec_items, subst, arith}
use Rattle.scanline.specs.Bands.{covers}
use Rattle.blocks.specs.Blocks.{in_a_block}
use Rattle.blocks.specs.Settled.{Exactly}
use Rattle.blocks.proofs.Corner.{opened}
use Rattle.blocks.proofs.open.Goals as goal

pub returns : goal.returns
returns c =
    let a = covers (vec_items c.args.a.now.bands) in
    let e : suc (c.args.side - 1) ≡ c.args.side = omega (arith, c.requires) in
    IfOk-weaker c.dilate.result _ _ (λ v h. subst (λ n. Exactly (2 * n) a (in_a_block n a) (covers (vec_items v.bands))) e (opened (c.args.side - 1) a _ _ c.in_ok-starts.ensures h)) c.dilate.ensures
