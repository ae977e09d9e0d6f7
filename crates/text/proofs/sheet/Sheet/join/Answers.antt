-- What `join` needs beyond what the search finds.
use Rattle.text.specs.Sheets.{sheet_of}
use Rattle.text.proofs.Sheets.{join-next, join-all}
use Rattle.text.proofs.sheet.Sheet.join.Goals as goal

pub loop-part-preserved : goal.loop-part-preserved
loop-part-preserved c = join-next _ _ _ _ _ _ c.loop-part.invariant (sheet_of c.add-in-loop-part.new.self) c.in_ok-node.node c.loop-part-test.true c.in_ok-node.ensures.number c.in_ok-node.ensures.after

pub returns : goal.returns
returns c = join-all _ _ _ _ _ _ c.loop-part.invariant c.loop-part-test.false
