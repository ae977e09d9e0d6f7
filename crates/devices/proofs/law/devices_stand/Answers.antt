-- Why `devices_stand` meets its contract.
use Rattle.devices.proofs.Deciding.{all_or_odd}
use Rattle.devices.proofs.law.devices_stand.Goals as goal

pub returns : goal.returns
returns c = all_or_odd
