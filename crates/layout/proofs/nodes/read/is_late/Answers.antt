-- What `is_late` needs beyond what the search finds.
use Rattle.layout.proofs.Reading.{unread}
use Rattle.layout.proofs.nodes.read.is_late.Goals as goal

pub returns : goal.returns
returns c = unread _ _ _ c.node_at.ensures _ c.is_none.ensures
