-- What `round_trip_stands` needs beyond what the search finds.
use Rattle.layout_writer.proofs.Rounds.{round}
use Rattle.layout_writer.proofs.law.round_trip_stands.Goals as goal

pub returns : goal.returns
returns c = λ xs sound. round xs sound
