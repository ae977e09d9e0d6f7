-- Why `add_line` meets its contract.
use Rattle.std.proofs.Common.{◌-◌, ◌≤◌, ◌++◌, length, take, drop, ap, ◌∙◌, rules}
use Rattle.tiles.specs.Cuts.{line_tiles}
use Rattle.tiles.proofs.Cuts.{line-more}
use Rattle.tiles.proofs.cut.add_line.Goals as goal

pub loop-rest-preserved : goal.loop-rest-preserved
loop-rest-preserved c =
    let some : 2 ≤ length c.loop-rest.rest.now = search rules in
    ap (λ v. v ++ line_tiles c.args.layer c.args.top c.args.bottom (take (length c.loop-rest.rest.now - 2) (drop 2 c.loop-rest.rest.now))) c.in_ok-push.ensures.items
    ∙ (line-more c.args.layer c.args.top c.args.bottom _ c.loop-rest.rest.now some ∙ c.loop-rest.invariant)
