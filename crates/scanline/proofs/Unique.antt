-- A set has one line. Assumes nothing.
use Rattle.std.proofs.Common.{◌≡◌, ℕ, suc, true, not, List, [], ◌∷◌, sym, refl, ap, ◌∙◌, subst, ⊎_elim, arith}
use Rattle.std.proofs.lemmas.Bool.{cases_lt, cases_order, false≢true}
use Rattle.scanline.specs.Lines.{inside, Sorted}
use Rattle.scanline.proofs.Merge.{From, rises-from, inside-before}
use Rattle.scanline.proofs.Walks.{not-not}
use Rattle.scanline.proofs.Widens.{far, near}

at_first : (e : ℕ) (es : List ℕ) → From (suc e) es → inside (e ∷ es) e ≡ true
at_first e es h = far e es e (omega arith) ∙ ap not (inside-before (suc e) es e h (omega arith))

one_from : (p : ℕ) (es fs : List ℕ) → From p es → From p fs → ((x : ℕ) → inside es x ≡ inside fs x) → es ≡ fs
one_from p [] [] h g s = refl
one_from p [] (f ∷ fs) h g s = absurd (false≢true (s f ∙ at_first f fs g.1))
one_from p (e ∷ es) [] h g s = absurd (false≢true (sym (s e) ∙ at_first e es h.1))
one_from p (e ∷ es) (f ∷ fs) h g s =
    ⊎_elim
    (λ q.
    let k : From (suc e) fs = subst (λ v. From (suc v) fs) (sym q) g.1 in
    let rest = one_from (suc e) es fs h.1 k (λ x.
    ⊎_elim
    (λ l. inside-before (suc e) es x h.1 (omega arith) ∙ sym (inside-before (suc e) fs x k (omega arith)))
    (λ l. not-not _ ∙ ap not (sym (far e es x l) ∙ s x ∙ far f fs x (omega arith)) ∙ sym (not-not _))
    (cases_lt x e))
    in
    (cc))
    (λ o.
    ⊎_elim
    (λ l. absurd (false≢true (sym (near f fs e g.1 l) ∙ sym (s e) ∙ at_first e es h.1)))
    (λ l. absurd (false≢true (sym (near e es f h.1 l) ∙ s f ∙ at_first f fs g.1)))
    o)
    (cases_order e f)

pub one_line : (es fs : List ℕ) → Sorted es → Sorted fs → ((x : ℕ) → inside es x ≡ inside fs x) → es ≡ fs
one_line es fs h g s = one_from 0 es fs (rises-from 0 es h) (rises-from 0 fs g) s
