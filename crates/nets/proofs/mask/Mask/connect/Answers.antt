-- Why `connect` meets its contract.
use Rattle.std.proofs.Common.{◌≡◌, length, vec_items, refl, ap, ◌∙◌, arith}
use Rattle.layout.specs.Rects.{covered}
use Rattle.groups.specs.Names.{group}
use Rattle.nets.specs.Processes.{joins_among, technology_of}
use Rattle.nets.proofs.Joins.{connecting_none, connecting_step, connected}
use Rattle.nets.proofs.mask.Mask.connect.Goals as goal

pub link_tiles-requires : goal.link_tiles-requires
link_tiles-requires c = c.requires.ordered

pub loop-join-init : goal.loop-join-init
loop-join-init c = (c.in_ok-groups.ensures.0, connecting_none _ _ c.args.tiles.now _ c.requires _ c.in_ok-groups.ensures.1)

pub loop-join-preserved : goal.loop-join-preserved
loop-join-preserved c = (
  c.span.ensures.sizes ∙ c.loop-join.invariant.0,
  connecting_step (technology_of c.args.self.now.process.now) (covered c.args.self.now.boxes.rects.now) c.args.tiles.now (vec_items c.args.self.now.process.now.joins) c.as_slice-join-items.result.now
      (vec_items c.in_ok-bridges.bridges) c.deref.result.now c.loop-join.join-index (group c.loop-join.groups) (group c.span.new.groups)
      c.as_slice-join-items.ensures.value c.deref.ensures.value c.loop-join-test.true (λ j a b. refl) c.requires c.in_ok-bridges.ensures c.span.ensures.tied c.loop-join.invariant.1,
)

pub returns : goal.returns
returns c =
    let js = vec_items c.args.self.now.process.now.joins in
    let all : length js ≡ c.loop-join.join-index = omega (arith, c.loop-join-test.false, c.loop-join.auto.join-index-end, ap length c.as_slice-join-items.ensures.value) in (
      c.loop-join.invariant.0,
      connected (technology_of c.args.self.now.process.now) (covered c.args.self.now.boxes.rects.now) c.args.tiles.now js c.requires (group c.loop-join.groups) c.loop-join.join-index c.loop-join.invariant.1
          (λ j a b. ap (λ n. joins_among js n j a b) all),
    )
