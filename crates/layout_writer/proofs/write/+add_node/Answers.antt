-- What `add_node` needs beyond what the search finds.
use Rattle.std.proofs.Common.{◌≡◌, ℕ, ◌<◌, false, cond, ◌&&◌, ◌++◌, string_bytes, sym, refl, ap, ◌∙◌, subst, arith}
use Rattle.std.proofs.lemmas.Bool.{and_left, and_right}
use Rattle.layout_writer.specs.Cells.{has_cell}
use Rattle.layout_writer.specs.Texts.{put_line, statements}
use Rattle.layout_writer.proofs.Adding.{adds-nothing, adds-both, adds-node}
use Rattle.layout_writer.proofs.write.+add_node.Goals as goal
use Rattle.layout_writer.proofs.write.+add_node.Goals.{else-part-via-then-part+else-has_cell, else-part-via-else-part, in-One+in_ok-line-in-One, in-Changed+in_ok-line-in-Changed, in-Row+in_ok-line-in-Row, in-Column+in_ok-line-in-Column}

pub add_node-requires : goal.add_node-requires
add_node-requires o c =
    let below = c.in-Both.ensures.modest.0 in
    (omega (arith, c.requires.1.0), omega (arith, c.requires.1.1))

pub add_node-requires-in-Both : goal.add_node-requires-in-Both
add_node-requires-in-Both o c =
    let below = c.in-Both.ensures.modest.1 in
    (omega (arith, c.requires.1.0), omega (arith, c.requires.1.1))

pub returns-in-Nothing : goal.returns-in-Nothing
returns-in-Nothing o c =
    let xs = c.args.nodes.now.numbers.now in
    let g = c.args.margin.now in
    let n = c.args.n in
    let old = string_bytes c.args.text.now in
    let unnamed : (c.args.part && has_cell xs n) ≡ false = elim c.else-part.branch [
      | else-part-via-then-part+else-has_cell w ↦ and_right c.args.part _ (sym w.has_cell.ensures ∙ w.if-has_cell.false)
      | else-part-via-else-part w ↦ and_left c.args.part _ w.if-part.false
    ] in
    adds-nothing xs g n (c.args.part && has_cell xs n) unnamed old old (put_line g n) c.in-Nothing.ensures.spelled refl

pub returns-in-Both : goal.returns-in-Both
returns-in-Both o c =
    let xs = c.args.nodes.now.numbers.now in
    let g = c.args.margin.now in
    let n = c.args.n in
    let old = string_bytes c.args.text.now in
    let unnamed : (c.args.part && has_cell xs n) ≡ false = elim c.else-part.branch [
      | else-part-via-then-part+else-has_cell w ↦ and_right c.args.part _ (sym w.has_cell.ensures ∙ w.if-has_cell.false)
      | else-part-via-else-part w ↦ and_left c.args.part _ w.if-part.false
    ] in
    let s = c.in-Both.ensures.spelled in
    let mid = string_bytes c.add_node.new.text in
    let new = string_bytes c.add_node-in-Both.new.text in
    let first = subst (λ m. (l : ℕ) → m < l → mid ≡ old ++ cond (has_cell xs m) (put_line g m) (statements xs g l m)) (sym s.1) c.in_ok-add_node-in-Both.ensures in
    let second = subst (λ m. (l : ℕ) → m < l → new ≡ mid ++ cond (has_cell xs m) (put_line g m) (statements xs g l m)) (sym s.2) c.in_ok-add_node-in-Both-2.ensures in
    adds-both xs g n (c.args.part && has_cell xs n) unnamed old new (put_line g n) s.0 (omega (arith, s.1, c.in-Both.ensures.modest.0)) (omega (arith, s.2, c.in-Both.ensures.modest.1)) mid first second

pub returns : goal.returns
returns o c =
    let xs = c.args.nodes.now.numbers.now in
    let g = c.args.margin.now in
    let n = c.args.n in
    let old = string_bytes c.args.text.now in
    let unnamed : (c.args.part && has_cell xs n) ≡ false = elim c.else-part.branch [
      | else-part-via-then-part+else-has_cell w ↦ and_right c.args.part _ (sym w.has_cell.ensures ∙ w.if-has_cell.false)
      | else-part-via-else-part w ↦ and_left c.args.part _ w.if-part.false
    ] in
    let new = string_bytes c.add_line-2.new.text in
    elim c.match-node.branch [
      | in-One+in_ok-line-in-One w ↦ adds-node xs g n (c.args.part && has_cell xs n) unnamed old new (put_line g n) _ w.in-One.ensures refl c.deref-2.result.now (c.deref-2.ensures ∙ ap string_bytes w.line-is ∙ w.in_ok-line-in-One.ensures) c.in_ok-add_line-2.ensures
      | in-Changed+in_ok-line-in-Changed w ↦ adds-node xs g n (c.args.part && has_cell xs n) unnamed old new (put_line g n) _ w.in-Changed.ensures refl c.deref-2.result.now (c.deref-2.ensures ∙ ap string_bytes w.line-is ∙ w.in_ok-line-in-Changed.ensures) c.in_ok-add_line-2.ensures
      | in-Row+in_ok-line-in-Row w ↦ adds-node xs g n (c.args.part && has_cell xs n) unnamed old new (put_line g n) _ w.in-Row.ensures refl c.deref-2.result.now (c.deref-2.ensures ∙ ap string_bytes w.line-is ∙ w.in_ok-line-in-Row.ensures) c.in_ok-add_line-2.ensures
      | in-Column+in_ok-line-in-Column w ↦ adds-node xs g n (c.args.part && has_cell xs n) unnamed old new (put_line g n) _ w.in-Column.ensures refl c.deref-2.result.now (c.deref-2.ensures ∙ ap string_bytes w.line-is ∙ w.in_ok-line-in-Column.ensures) c.in_ok-add_line-2.ensures
    ]
