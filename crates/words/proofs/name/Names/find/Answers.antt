-- proofs/name/Names/find/Answers.antt
-- What `find` needs beyond what the search finds.
use Rattle.std.proofs.Common.{ap, ◌∙◌}
use Rattle.words.specs.Places.{place_of}
use Rattle.words.proofs.name.Names.find.Goals as goal

pub returns : goal.returns
returns c = c.copied.ensures ∙ c.get.ensures.value ∙ c.self.invariant.1 c.args.name.now ∙ ap (λ ns. place_of ns c.args.name.now) c.self.view_is
