-- What `read_layout` needs beyond what the search finds.
use Rattle.std.proofs.Common.{List, vec_items, ap, ◌∙◌}
use Rattle.text.specs.Plans.{Drawing, blank, all_said, finished}
use Rattle.text.specs.Readings.{state_of}
use Rattle.text.specs.declared.statement.Said.{Said}
use Rattle.text.proofs.Scenes.{text_draws}
use Rattle.text.proofs.layout_text.read_layout.Goals as goal

pub returns-clause-draws : goal.returns-clause-draws
returns-clause-draws c =
    text_draws c.args.text.now (vec_items c.in_ok-plan.plan.sheet.nodes) (state_of c.in_ok-reader.reader) c.in_ok-reader.ensures
    (ap (λ (d : Drawing). d.sheet.nodes) c.in_ok-plan.ensures ∙ ap (λ (ss : List Said). (finished (all_said blank ss)).sheet.nodes) c.as_slice.ensures.value)
