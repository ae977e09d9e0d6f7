-- Words accepted one after another. Assumes nothing.
use Rattle.std.proofs.Common.{◌≡◌, List, [], ◌∷◌, Ok, Err, Result, sym, ap, ◌∙◌, ℕ}
use Rattle.layout.specs.declared.refusal.Fault.{Fault}
use Rattle.layout.specs.declared.refusal.Fault.TheVariants.{Refused, Memory}
use Rattle.words.specs.Words.{Token, token_of}
use Rattle.words.specs.declared.word.Word.{Word}
use Rattle.words.specs.Steps.{and_then}
use Rattle.text.specs.Readings.{State, start, accept, read, Read}
use Rattle.layout.specs.Refusals.{Follows}

abbrev after : Result State ℕ → List Token → Result State ℕ
after r ts = and_then r (λ z. read z ts)

-- what was read so far, and the words that are left
module _ (all left : List Token) (s : State) (so_far : read s left ≡ read start all) where
  module _ (w : Word) (rest : List Token) (is : left ≡ token_of w ∷ rest) where
    step : after (accept s w.bytes.now w.line) rest ≡ read start all
    unfolding read
    step = ap (read s) (sym is) ∙ so_far

    pub accepted : (z : State) → accept s w.bytes.now w.line ≡ Ok z → read z rest ≡ read start all
    accepted z a = ap (λ r. after r rest) (sym a) ∙ step

    pub stopped : (z : State) (e : Fault) → Follows {U = Unit {0}} (accept s w.bytes.now w.line) z (Err e) → Read (read start all) (Err e)
    stopped z (Refused r) h = (h.0, sym step ∙ ap (λ r. after r rest) h.1)
    stopped z Memory h = tt

  pub all_read : left ≡ [] → read start all ≡ Ok s
  unfolding read
  all_read h = sym so_far ∙ ap (read s) h
