-- Why `add_side` meets its contract.
use Rattle.std.proofs.Common.{length, vec_items, sym, subst}
use Rattle.std.specs.List.{AllByRecursion}
use Rattle.std.proofs.lemmas.Result.{on_ok_weaker}
use Rattle.devices.specs.Borders.{Near}
use Rattle.devices.specs.Crossings.{Adding}
use Rattle.devices.proofs.Borders.{meeting-bounded, meeting-from, meeting-near}
use Rattle.devices.proofs.border.add_side.Goals as goal

pub add_region-requires : goal.add_region-requires
add_region-requires c =
    meeting-bounded c.args.direction c.args.crossing.now.layer (vec_items c.args.crossing.now.channel.bands) (vec_items c.args.crossing.now.wire.bands) _ c.in_ok-region.ensures c.requires.channel

pub add_borders-requires : goal.add_borders-requires
add_borders-requires c = record {
  laid = c.requires;
  near = subst (AllByRecursion Near) (sym c.deref.ensures.value)
      (meeting-near c.args.direction c.args.crossing.now.layer (vec_items c.args.crossing.now.channel.bands) (vec_items c.args.crossing.now.wire.bands) _ c.in_ok-region.ensures c.requires.channel
      (vec_items c.new-meetings.result) (vec_items c.add_region.new.tiles) c.new-meetings.ensures.items c.in_ok-add_region.ensures);
}

pub returns : goal.returns
returns c =
    on_ok_weaker c.add_borders.result (λ h. record {
      boxes = vec_items c.add_region.new.tiles;
      meeting = meeting-from c.args.direction c.args.crossing.now.layer (vec_items c.args.crossing.now.channel.bands) (vec_items c.args.crossing.now.wire.bands) _ c.in_ok-region.ensures
          (vec_items c.new-meetings.result) (vec_items c.add_region.new.tiles) c.new-meetings.ensures.items c.in_ok-add_region.ensures;
      added = subst (λ v. Adding c.args.direction c.args.crossing.now v (length v) (vec_items c.args.borders.now) (vec_items c.add_borders.new.borders)) c.deref.ensures.value h;
    }) c.add_borders.ensures
