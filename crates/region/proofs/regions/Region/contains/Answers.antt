-- What `contains` needs beyond what the search finds.
use Rattle.std.proofs.Common.{◌≡◌, ◌-◌, suc, leb, List, [], ℕ, length, vec_items, sym, ap, ◌∙◌, subst, rules, arith}
use Rattle.std.proofs.lemmas.List.Sorted.{IsPartitionPoint-from_clause, IsPartitionedBy-leb}
use Rattle.scanline.specs.Bands.{edges}
use Rattle.scanline.specs.Lines.{inside}
use Rattle.scanline.proofs.Rows.{canonical-from}
use Rattle.region.proofs.Looks.{Begun, rising, look-before, look-last}
use Rattle.region.proofs.regions.Region.contains.Goals as goal

pub returns-in-0 : goal.returns-in-0
returns-in-0 c =
    let bs = vec_items c.args.self.now.bands in
    let parted = IsPartitionedBy-leb (λ b. b.from) bs c.args.y (rising 0 bs (canonical-from [] 0 bs c.args.self.now.canonical)) in
    let point = IsPartitionPoint-from_clause (λ b. leb b.from c.args.y) bs _ (rw c.deref.ensures.value at c.partition_point.ensures.partitioned) parted (λ a r q k. search rules) in
    sym (ap (λ (es : List ℕ). inside es c.args.x) (look-before [] bs c.args.y (subst (Begun c.args.y bs) c.in-0.is point)))

pub returns-in_default : goal.returns-in_default
returns-in_default c =
    let bs = vec_items c.args.self.now.bands in
    let parted = IsPartitionedBy-leb (λ b. b.from) bs c.args.y (rising 0 bs (canonical-from [] 0 bs c.args.self.now.canonical)) in
    let point = IsPartitionPoint-from_clause (λ b. leb b.from c.args.y) bs _ (rw c.deref.ensures.value at c.partition_point.ensures.partitioned) parted (λ a r q k. search rules) in
    let n = c.partition_point.result - 1 in
    let more : c.partition_point.result ≡ suc n = omega arith in
    c.contains.ensures ∙ sym (ap (λ (es : List ℕ). inside es c.args.x) (look-last [] bs c.args.y n c.index.result.now (omega (arith, c.partition_point.ensures.bound, ap length c.deref.ensures.value)) (subst (Begun c.args.y bs) more point) ∙ sym (ap edges c.index.ensures)))
