-- What `laws_stand` needs beyond what the search finds.
use Rattle.rule_text.proofs.Regions.{reads_spelled, reads_only_spelled}
use Rattle.rule_text.proofs.law.laws_stand.Goals as goal

pub returns : goal.returns
returns c = record { spelled = reads_spelled; only_spelled = reads_only_spelled }
