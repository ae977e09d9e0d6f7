-- Why `roots_of` meets its contract.
use Rattle.std.proofs.Common.{vec_items, refl, ◌∙◌, arith}
use Rattle.groups.specs.Names.{group}
use Rattle.groups.proofs.Roots.{alike-on}
use Rattle.devices.proofs.Pieces.{rooted_none, rooted_more, rooted-all}
use Rattle.devices.proofs.piece.roots_of.Goals as goal

pub loop-i-init : goal.loop-i-init
loop-i-init c = (refl, record { alike = λ a. refl }, rooted_none _ _ c.new-roots.ensures.items)

pub find-root-requires : goal.find-root-requires
find-root-requires c = omega (arith, c.loop-i.invariant.0, c.requires, c.loop-i-test.true)

pub loop-i-preserved : goal.loop-i-preserved
loop-i-preserved c = (
  c.find-root.ensures.len ∙ c.loop-i.invariant.0,
  alike-on _ (group c.loop-i.groups) _ c.loop-i.invariant.1 c.find-root.ensures.alike,
  rooted_more _ c.loop-i.i c.find-root.result (vec_items c.loop-i.roots) _ (c.find-root.ensures.root ∙ c.loop-i.invariant.1.alike c.loop-i.i) c.in_ok-push.ensures.items c.loop-i.invariant.2,
)

pub returns : goal.returns
returns c = rooted-all c.args.groups.now c.loop-i.i c.args.count (vec_items c.loop-i.roots) c.requires c.loop-i-test.false c.loop-i.auto.i-end c.loop-i.invariant.2
