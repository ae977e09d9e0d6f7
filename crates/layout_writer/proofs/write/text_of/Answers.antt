-- What `text_of` needs beyond what the search finds.
use Rattle.std.proofs.Common.{◌≡◌, ◌-◌, true, false, string_bytes, sym, ap, ◌∙◌, arith}
use Rattle.std.proofs.lemmas.List.{append-nil}
use Rattle.layout.specs.Numbers.{sixes}
use Rattle.layout_writer.specs.Texts.{cells_text}
use Rattle.layout_writer.proofs.Adding.{cells-more, text_all}
use Rattle.layout_writer.proofs.write.text_of.Goals as goal
use Rattle.layout_writer.proofs.write.text_of.Goals.{then-has_cell+in_ok-add_cell, else-has_cell}

pub loop-n-init : goal.loop-n-init
unfolding cells_text
loop-n-init c = c.new-text.ensures.bytes

pub loop-n-preserved : goal.loop-n-preserved
loop-n-preserved c =
    let xs = c.args.nodes.now.numbers.now in
    let old = string_bytes c.loop-n.text in
    elim c.if-has_cell.branch [
      | then-has_cell+in_ok-add_cell w ↦ cells-more xs c.loop-n.n true old (string_bytes c.if-has_cell.text) c.loop-n.invariant (sym w.if-has_cell.true ∙ c.has_cell.ensures) (ap string_bytes w.text-is ∙ w.in_ok-add_cell.ensures)
      | else-has_cell w ↦ cells-more xs c.loop-n.n false old (string_bytes c.if-has_cell.text) c.loop-n.invariant (sym w.if-has_cell.false ∙ c.has_cell.ensures) (ap string_bytes w.text-is ∙ sym (append-nil old))
    ]

pub returns : goal.returns
returns c =
    let xs = c.args.nodes.now.numbers.now in
    let some = c.args.nodes.now.sound.some in
    let all : c.loop-n.n ≡ sixes xs = omega (arith, c.loop-n-test.false, c.loop-n.auto.n-end, c.len-many.ensures) in
    let last : c.len-many.result - 1 ≡ sixes xs - 1 = omega (arith, c.len-many.ensures) in
    text_all xs c.loop-n.n (c.len-many.result - 1) (string_bytes c.loop-n.text) (string_bytes c.add_node.new.text) all last c.loop-n.invariant (c.in_ok-add_node.ensures (sixes xs) (omega (arith, c.len-many.ensures)))
