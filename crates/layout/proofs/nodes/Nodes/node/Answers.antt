-- What `node` needs beyond what the search finds.
use Rattle.std.proofs.lemmas.Bool.{both_ways}
use Rattle.layout.proofs.Pieces.{earlier-at}
use Rattle.layout.proofs.nodes.Nodes.node.Goals as goal

pub unreachable-requires : goal.unreachable-requires
unreachable-requires c = both_ways _ c.in-None.ensures (earlier-at _ _ c.args.n c.requires c.args.self.now.sound.names)
