-- Why `join` meets its contract.
use Rattle.std.proofs.Common.{◌<◌, length, vec_items, ◌∙◌, arith}
use Rattle.groups.specs.Roots.{root}
use Rattle.groups.proofs.Roots.{alike-on, joined-link, link_falls}
use Rattle.groups.proofs.forest.Groups.join.Goals as goal

pub invariant_of-self : goal.invariant_of-self
invariant_of-self c = record {
  falls = rw (c.max.ensures, c.min.ensures) (link_falls (vec_items c.find-b.new.self.parents) c.find-b.new.self.falls c.find-a.result c.find-b.result
      (omega (arith, c.find-a.ensures.low, c.find-b.ensures.low, c.requires.i_within, c.requires.j_within, c.find-b.ensures.len, c.find-a.ensures.len, c.find-b.new.self.parents.ok.0)));
}

pub returns : goal.returns
returns c =
    let ps = vec_items c.args.self.now.parents in
    let qs = vec_items c.find-a.new.self.parents in
    let rs = vec_items c.find-b.new.self.parents in
    let ha : c.find-a.result < length rs = omega (arith, c.find-a.ensures.low, c.requires.i_within, c.find-b.ensures.len, c.find-a.ensures.len, c.find-b.new.self.parents.ok.0) in
    let hb : c.find-b.result < length rs = omega (arith, c.find-b.ensures.low, c.requires.j_within, c.find-b.ensures.len, c.find-a.ensures.len, c.find-b.new.self.parents.ok.0) in
    record {
      joined = rw (c.max.ensures, c.min.ensures)
          (joined-link ps rs c.find-b.new.self.falls (alike-on (root ps) (root qs) (root rs) c.find-a.ensures.alike c.find-b.ensures.alike) c.args.i c.args.j
          c.find-a.result c.find-b.result c.find-a.ensures.root (c.find-b.ensures.root ∙ c.find-a.ensures.alike.alike c.args.j) ha hb);
      len = c.find-b.ensures.len ∙ c.find-a.ensures.len;
    }
