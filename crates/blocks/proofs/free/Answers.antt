-- What `free` needs beyond what the search finds.
use Rattle.std.proofs.lemmas.Result.{IfOk-weaker}
use Rattle.std.proofs.Common.{◌≡◌, suc, ◌-◌, ◌*◌, vec_items, subst, arith}
use Rattle.scanline.specs.Bands.{covers}
use Rattle.blocks.specs.Blocks.{free_block}
use Rattle.blocks.specs.Settled.{Exactly}
use Rattle.blocks.proofs.Corner.{freed}
use Rattle.blocks.proofs.free.Goals as goal

pub returns : goal.returns
returns c =
    let a = covers (vec_items c.args.a.now.bands) in
    let e : suc (c.args.side - 1) ≡ c.args.side = omega (arith, c.requires) in
    IfOk-weaker c.shift_back.result _ _ (λ v h. subst (λ n. Exactly (2 * n) a (free_block n a) (covers (vec_items v.bands))) e (freed (c.args.side - 1) a _ _ _ _ c.in_ok-reached.ensures c.in_ok-ends.ensures c.in_ok-blocks.ensures h)) c.shift_back.ensures
