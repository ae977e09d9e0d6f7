-- proofs/word/split/Answers.antt
-- What `split` needs beyond what the search finds.
use Rattle.std.proofs.Common.{List, sym, subst}
use Rattle.words.specs.WordsLeft.{words_left}
use Rattle.words.specs.declared.word.Word.{Word}
use Rattle.words.proofs.WordsLeft.{Cutting, cut-next, cut_all}
use Rattle.words.proofs.word.split.Goals as goal

pub loop-word-preserved : goal.loop-word-preserved
loop-word-preserved c =
    let steps = c.in-Some.ensures.steps in
    let left = c.next.new.self in
    subst (λ (ws : List Word). Cutting c.args.marks c.args.text.now ws left.text.now (words_left left)) (sym c.in_ok-push.ensures.items)
    (cut-next _ _ _ _ _ c.loop-word.invariant c.in-Some.word steps.1.0 _ steps.0 _ steps.1.1)

pub returns : goal.returns
returns c = cut_all _ _ _ _ _ c.loop-word.invariant c.in-None.ensures.steps.1.0
