-- Why `lay` meets its contract.
use Rattle.std.proofs.Common.{refl}
use Rattle.nets.specs.Processes.{technology_of}
use Rattle.devices.proofs.Crossings.{channel-bounded, crossed-from}
use Rattle.devices.proofs.crossing.Crossing.lay.Goals as goal

pub of_region-requires : goal.of_region-requires
of_region-requires c = channel-bounded (technology_of c.args.mask.now.process.now) c.args.mask.now.boxes.rects.now _ c.args.mask.now.boxes.near c.in_ok-channel.ensures

pub returns : goal.returns
returns c =
    crossed-from (technology_of c.args.mask.now.process.now) c.args.mask.now.boxes.rects.now _ c.args.mask.now.boxes.near refl c.in_ok-channel.ensures c.in_ok-wire.ensures c.in_ok-channels.ensures c.in_ok-wires.ensures
