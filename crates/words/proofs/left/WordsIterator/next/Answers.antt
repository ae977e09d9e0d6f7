-- proofs/left/WordsIterator/next/Answers.antt
-- Why `next` gives the first word that is left.
use Rattle.std.proofs.Common.{◌≡◌, ℕ, ◌-◌, length, List, None, sym, refl, ap, ◌∙◌, subst, arith, rules}
use Rattle.words.specs.declared.word.Word.{Word}
use Rattle.words.specs.Words.{is_letter, Inside}
use Rattle.words.proofs.WordsLeft.{Begins, mark-begins, letters-begin, none-left, cut-inside, cut-words}
use Rattle.words.proofs.left.WordsIterator.next.Goals as goal
use Rattle.words.proofs.left.WordsIterator.next.Goals.{then-is_letter, else-is_letter}

pub returns-in_err-first-clause-steps : goal.returns-in_err-first-clause-steps
returns-in_err-first-clause-steps c =
    let s = c.skip.new.self in
    let none = none-left s.marks s.line (length s.text.now - length s.rest.now) s.rest.now (search rules) in
    let gone : c.from_residual.result ≡ None = search rules in
    (c.skip.ensures.0, rw gone (sym c.skip.ensures.1 ∙ none, none))

pub returns-clause-steps : goal.returns-clause-steps
returns-clause-steps c =
    let s = c.skip.new.self in
    let is = c.in_ok-first.ensures.cases.0 in
    let at = length s.text.now - length s.rest.now in
    let begins : Begins s.marks s.line at s.rest.now c.if-is_letter.length = elim c.if-is_letter.branch [
      | then-is_letter w ↦ letters-begin _ _ _ _ _ _ is (ap is_letter (sym c.kind_of.ensures) ∙ sym c.is_letter.ensures ∙ w.if-is_letter.true) _ (w.length-is ∙ w.letters_count-length.ensures)
      | else-is_letter w ↦ subst (λ (n : ℕ). Begins s.marks s.line at s.rest.now n) (sym w.length-is) (mark-begins _ _ _ _ _ _ is (c.skip.ensures.2 _ _ is) (ap is_letter (sym c.kind_of.ensures) ∙ sym c.is_letter.ensures ∙ w.if-is_letter.false))
    ] in
    let text = c.skip.ensures.0 in
    let word : Word = record { bytes = c.split_at.result.0; start = at; line = s.line } in
    let cut = cut-words s.marks s.text.now s.line s.rest.now s.long _ begins _ c.split_at.ensures.back word c.split_at.ensures.front refl refl in
    let inside = cut-inside s.marks s.text.now s.line s.rest.now s.long _ begins _ c.split_at.ensures.back word c.split_at.ensures.front refl refl s.suffix in
    (text, (subst (λ (us : List ℕ). Inside us word) text inside, sym c.skip.ensures.1 ∙ cut))

pub returns-clause-goes : goal.returns-clause-goes
returns-clause-goes c = record { on = λ _. (tt, tt, omega (arith, ap length (returns-clause-steps c).1.1)); keeps = tt; rests = λ _. tt }
