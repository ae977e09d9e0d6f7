-- What `toggle` needs beyond what the search finds.
use Rattle.std.proofs.cmp.Tests.{ltb_from_iff}
use Rattle.std.proofs.Common.{◌≡◌, true, vec_items, sym, ap, ◌∙◌, inl, arith}
use Rattle.std.proofs.lemmas.Bool.{lt-ltb}
use Rattle.scanline.specs.Lines.{ends_in}
use Rattle.scanline.proofs.Slides.{ends_some, popped}
use Rattle.scanline.proofs.shift.toggle.Goals as goal

pub returns-then-ends_in : goal.returns-then-ends_in
returns-then-ends_in c =
    let h : ends_in c.args.edge (vec_items c.args.edges.now) ≡ true = ap (ends_in c.args.edge) (sym c.deref.ensures.value) ∙ sym c.ends_in.ensures ∙ c.if-ends_in.true in
    inl (h, popped (vec_items c.args.edges.now) (vec_items c.pop.new.self) c.pop.result c.args.edge h c.pop.ensures.items ((ltb_from_iff c.pop.ensures.variant) ∙ lt-ltb 0 _ (omega (arith, ends_some (vec_items c.args.edges.now) c.args.edge h, c.args.edges.now.ok.0))))
