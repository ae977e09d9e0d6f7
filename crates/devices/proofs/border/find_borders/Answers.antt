-- Why `find_borders` meets its contract.
use Rattle.devices.proofs.Borders.{fringed}
use Rattle.devices.proofs.border.find_borders.Goals as goal

pub returns : goal.returns
returns c =
    fringed _ _ _ _ _ _ _ _ _ _ _ _ c.new-borders.ensures.items c.in_ok-add_side.ensures c.in_ok-add_side-2.ensures c.in_ok-add_side-3.ensures c.in_ok-add_side-4.ensures
