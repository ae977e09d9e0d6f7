-- Why `next` gives the first line that is left.
use Rattle.std.proofs.Common.{[], ◌∷◌, length, sym, ap, ◌∙◌, arith}
use Rattle.words.specs.Lines.{lines_of}
use Rattle.words.specs.Steps.{by_some}
use Rattle.words.proofs.Listings.{cut-last, cut-next}
use Rattle.words.proofs.line.LinesIterator.next.Goals as goal
use Rattle.words.proofs.line.LinesIterator.next.Goals.{in-Some, in-None}

pub returns-clause-steps : goal.returns-clause-steps
returns-clause-steps c =
    let cut = cut-last c.in_ok-rest.rest.now c.split_at.result.0.now c.split_at.result.1.now c.line_length.result c.line_length.ensures c.split_at.ensures.front c.split_at.ensures.back in
    let more = cut-next c.in_ok-rest.rest.now c.split_at.result.0.now c.split_at.result.1.now c.line_length.result c.line_length.ensures c.split_at.ensures.front c.split_at.ensures.back in
    ap (λ o. by_some o [] (λ r. lines_of r.now)) c.in_ok-rest.was ∙ elim c.match-split_first.branch [
      | in-Some w ↦ more w.in-Some._newline.now w.in-Some.next.now w.in-Some.ensures.cases.0 ∙ ap (λ o. c.split_at.result.0.now ∷ by_some o [] (λ r. lines_of r.now)) (sym w.self-is)
      | in-None w ↦ cut w.in-None.ensures.cases ∙ ap (λ o. c.split_at.result.0.now ∷ by_some o [] (λ r. lines_of r.now)) (sym w.self-is)
    ]

pub returns-clause-goes : goal.returns-clause-goes
returns-clause-goes c = record { on = λ _. (tt, tt, omega (arith, ap length (returns-clause-steps c))); keeps = tt; rests = λ _. tt }
