-- What `mark_layers` needs beyond what the search finds.
use Rattle.std.proofs.Common.{arith, rules}
use Rattle.std.proofs.lemmas.List.Elements.{All-take, All-drop}
use Rattle.rules.proofs.Marks.{markable}
use Rattle.rules.proofs.rule.Rule.mark_layers.Goals as goal

-- any part of the terms can be marked: that it is all of them is asked at the return
pub loop-term-init : goal.loop-term-init
loop-term-init c = (search (rules, markable, All-take, All-drop), λ i k l e. absurd (omega arith), λ k h. h, c.told-wanted)
