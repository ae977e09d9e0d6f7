-- Why `ways_stand` meets its contract.
use Rattle.nets.proofs.Ways.{ways_back, ways_on, ways_move}
use Rattle.nets.proofs.law.ways_stand.Goals as goal

pub returns : goal.returns
returns c = record { back = ways_back; on = ways_on; moves = ways_move }
