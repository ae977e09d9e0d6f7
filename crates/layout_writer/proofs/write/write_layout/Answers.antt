-- What `write_layout` needs beyond what the search finds.
use Rattle.std.proofs.Common.{◌≡◌, string_bytes, ap, ◌∙◌, subst}
use Rattle.layout.specs.Pieces.{Sound}
use Rattle.layout_writer.specs.Texts.{layout_text}
use Rattle.layout_writer.proofs.Rounds.{reads_back}
use Rattle.layout_writer.proofs.write.write_layout.Goals as goal

pub returns : goal.returns
returns c =
    let sound : Sound c.args.layout.now = subst Sound c.in_ok-nodes.ensures c.in_ok-nodes.nodes.sound in
    let says : string_bytes c.in_ok-text.text ≡ layout_text c.args.layout.now = c.in_ok-text.ensures ∙ ap layout_text c.in_ok-nodes.ensures in
    (sound, says, reads_back c.args.layout.now (string_bytes c.in_ok-text.text) sound says)
