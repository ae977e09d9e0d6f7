-- What `add_cell` needs beyond what the search finds.
use Rattle.std.proofs.Common.{suc, string_bytes, ◌∙◌, arith}
use Rattle.layout_writer.proofs.Adding.{adds-cell}
use Rattle.layout_writer.proofs.write.add_cell.Goals as goal

pub returns : goal.returns
returns c =
    adds-cell c.args.nodes.now.numbers.now c.args.n (string_bytes c.args.text.now) (string_bytes c.push_str.new.self) (string_bytes c.add_node.new.text) (string_bytes c.push_str-2.new.self) c.deref.result.now
    (c.deref.ensures ∙ c.in_ok-line.ensures) c.in_ok-push_str.ensures.bytes (c.in_ok-add_node.ensures (suc c.args.n) (omega arith)) c.in_ok-push_str-2.ensures.bytes
