-- Why `root_at` meets its contract.
use Rattle.std.proofs.Common.{◌<◌, length, vec_items, subst, arith}
use Rattle.std.proofs.lemmas.List.{get_or_read}
use Rattle.tiles.specs.Tiles.{tile_at, Holds}
use Rattle.tiles.proofs.Tiles.{holds-within}
use Rattle.devices.proofs.piece.Pieces.root_at.Goals as goal

pub index-requires : goal.index-requires
index-requires c =
    let h = subst (λ v. Holds (tile_at v c.in_ok-tile.tile) c.args.layer c.args.x c.args.y) c.deref.ensures.value c.in_ok-tile.ensures in
    let p = holds-within (vec_items c.args.self.now.tiles) c.in_ok-tile.tile _ _ _ h in
    omega (arith, p, c.args.self.now.long, c.args.self.now.roots.ok.0)

pub returns : goal.returns
returns c =
    let h = subst (λ v. Holds (tile_at v c.in_ok-tile.tile) c.args.layer c.args.x c.args.y) c.deref.ensures.value c.in_ok-tile.ensures in
    let p : c.in_ok-tile.tile < length (vec_items c.args.self.now.roots) = omega (arith, holds-within (vec_items c.args.self.now.tiles) c.in_ok-tile.tile _ _ _ h, c.args.self.now.long) in
    (c.in_ok-tile.tile, h, get_or_read (vec_items c.args.self.now.roots) c.in_ok-tile.tile c.index.result.now p c.index.ensures c.in_ok-tile.tile)
