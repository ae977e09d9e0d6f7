-- Why `link_tiles` meets its contract.
use Rattle.std.proofs.Common.{refl, ◌∙◌, inl, inr}
use Rattle.std.proofs.lemmas.Bool.{both_ways}
use Rattle.groups.specs.Names.{group}
use Rattle.tiles.proofs.Links.{walked_none, walked-joined, walked-upper, walked-lower, walked_all}
use Rattle.tiles.proofs.link.link_tiles.Goals as goal
use Rattle.tiles.proofs.link.link_tiles.Goals.{then-loop-i-test+else-j-tiles, else-loop-i-test, then-meets, else-meets}

pub loop-i-init : goal.loop-i-init
loop-i-init c = (c.in_ok-groups.ensures.0, walked_none _ c.requires _ c.in_ok-groups.ensures.1)

pub returns : goal.returns
returns c = (
  c.loop-i.invariant.0,
  walked_all _ c.requires _ _ _ (elim c.loop-i-test.branch [ then-loop-i-test+else-j-tiles w ↦ inr w.if-j-tiles.false | else-loop-i-test w ↦ inl w.loop-i-test.false ]) c.loop-i.invariant.1,
)

pub loop-i-preserved-then-ends : goal.loop-i-preserved-then-ends
loop-i-preserved-then-ends c =
    elim c.if-meets.branch [
      | then-meets w ↦ rw w.groups-is (
        w.join.ensures.len ∙ c.loop-i.invariant.0,
        walked-upper _ c.requires _ _ _ c.loop-i-test.true c.if-j-tiles.true (λ t. w.join.ensures.joined.joins)
            (walked-joined _ c.requires _ _ (group c.loop-i.groups) _ (w.if-meets.ensures.0 refl) w.join.ensures.joined c.loop-i.invariant.1)
            (c.if-ends.ensures.0 refl),
      )
      | else-meets w ↦ rw w.groups-is (
        c.loop-i.invariant.0,
        walked-upper _ c.requires _ _ _ c.loop-i-test.true c.if-j-tiles.true (λ t. absurd (both_ways _ w.if-meets.false (c.meets.ensures.1 t)))
            c.loop-i.invariant.1 (c.if-ends.ensures.0 refl),
      )
    ]

pub loop-i-preserved : goal.loop-i-preserved
loop-i-preserved c =
    elim c.if-meets.branch [
      | then-meets w ↦ rw w.groups-is (
        w.join.ensures.len ∙ c.loop-i.invariant.0,
        walked-lower _ c.requires _ _ _ c.loop-i-test.true c.if-j-tiles.true (λ t. w.join.ensures.joined.joins)
            (walked-joined _ c.requires _ _ (group c.loop-i.groups) _ (w.if-meets.ensures.0 refl) w.join.ensures.joined c.loop-i.invariant.1)
            (λ e. both_ways _ c.if-ends.false (c.ends.ensures.1 e)),
      )
      | else-meets w ↦ rw w.groups-is (
        c.loop-i.invariant.0,
        walked-lower _ c.requires _ _ _ c.loop-i-test.true c.if-j-tiles.true (λ t. absurd (both_ways _ w.if-meets.false (c.meets.ensures.1 t)))
            c.loop-i.invariant.1 (λ e. both_ways _ c.if-ends.false (c.ends.ensures.1 e)),
      )
    ]
