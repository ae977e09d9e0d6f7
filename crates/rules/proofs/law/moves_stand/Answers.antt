-- Each part of a rule reads squares no farther off than the drawing keeps clear of the edges.
use Rattle.rules.proofs.Shiftings.{rules_move}
use Rattle.rules.proofs.law.moves_stand.Goals as goal

pub returns : goal.returns
returns c = rules_move
