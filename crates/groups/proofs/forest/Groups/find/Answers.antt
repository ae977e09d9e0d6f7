-- Why `find` meets its contract.
use Rattle.std.proofs.Common.{◌≡◌, ◌<◌, length, vec_items, sym, ◌∙◌, arith}
use Rattle.groups.specs.Roots.{root}
use Rattle.groups.proofs.Roots.{root-at, root-low, read-parent, half-low, half-less, half-falls, half-same, half-alike, alike-on}
use Rattle.groups.proofs.forest.Groups.find.Goals as goal

pub returns-then-up-at : goal.returns-then-up-at
returns-then-up-at c =
    let qs = vec_items c.loop-at.self.parents in
    let at = c.loop-at.at in
    let here : at < length qs = omega (arith, c.loop-at.invariant.0, c.loop-at.self.parents.ok.0) in
    let up = read-parent qs at c.index-up.result.now here c.index-up.ensures in
    let r : at ≡ root (vec_items c.args.self.now.parents) c.args.i =
    sym (root-at qs at (sym up ∙ c.if-up-at.true)) ∙ (c.loop-at.invariant.2.alike at ∙ c.loop-at.invariant.3) in
    record {
      root = r;
      low = omega (arith, r, root-low _ c.args.self.now.falls c.args.i);
      alike = c.loop-at.invariant.2;
      len = c.loop-at.invariant.1;
    }

pub index-next-requires : goal.index-next-requires
index-next-requires c =
    let qs = vec_items c.loop-at.self.parents in
    let at = c.loop-at.at in
    let here : at < length qs = omega (arith, c.loop-at.invariant.0, c.loop-at.self.parents.ok.0) in
    omega (arith, read-parent qs at c.index-up.result.now here c.index-up.ensures, c.loop-at.self.falls at)

pub invariant_of-self : goal.invariant_of-self
invariant_of-self c =
    let qs = vec_items c.loop-at.self.parents in
    let here : c.loop-at.at < length qs = omega (arith, c.loop-at.invariant.0, c.loop-at.self.parents.ok.0) in
    record { falls = half-falls qs c.loop-at.self.falls _ _ _ here c.index-up.ensures c.index-next.ensures }

pub loop-at-smaller : goal.loop-at-smaller
loop-at-smaller c =
    let qs = vec_items c.loop-at.self.parents in
    let here : c.loop-at.at < length qs = omega (arith, c.loop-at.invariant.0, c.loop-at.self.parents.ok.0) in
    half-less qs c.loop-at.self.falls _ _ _ here c.index-up.ensures c.index-next.ensures c.if-up-at.false

pub loop-at-preserved : goal.loop-at-preserved
loop-at-preserved c =
    let ps = vec_items c.args.self.now.parents in
    let qs = vec_items c.loop-at.self.parents in
    let at = c.loop-at.at in
    let next = c.index-next.result.now in
    let inv = c.loop-at.invariant in
    let here : at < length qs = omega (arith, inv.0, c.loop-at.self.parents.ok.0) in
    let low = half-low qs c.loop-at.self.falls _ _ _ here c.index-up.ensures c.index-next.ensures in
    let same = half-same qs c.loop-at.self.falls _ _ _ here c.index-up.ensures c.index-next.ensures in (
      omega (arith, low, inv.0),
      inv.1,
      alike-on (root ps) (root qs) _ inv.2 (half-alike qs c.loop-at.self.falls _ _ _ here c.index-up.ensures c.index-next.ensures),
      sym (inv.2.alike next) ∙ (same ∙ (inv.2.alike at ∙ inv.3)),
    )
