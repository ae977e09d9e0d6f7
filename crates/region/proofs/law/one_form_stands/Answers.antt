use Rattle.region.proofs.Unique.{one-region}
use Rattle.region.proofs.law.one_form_stands.Goals as goal

pub returns : goal.returns
returns c = one-region
