-- What the loop of `text_of` keeps: the cells of the first nodes are written.
use Rattle.std.proofs.Common.{◌≡◌, string_bytes}
use Rattle.layout_writer.specs.Texts.{cells_text}
use Rattle.layout_writer.proofs.write.text_of.Given as goal

abbrev pub invariant-loop-n : goal.invariant-loop-n
invariant-loop-n l = string_bytes l.text ≡ cells_text l.nodes.numbers.now l.n
