-- A loop over the lines of a text. Assumes nothing.
use Rattle.std.proofs.Common.{◌≡◌, ℕ, suc, ◌+◌, ◌<◌, ◌≤◌, not, eqb, List, [], ◌∷◌, length, take, drop, Ok, Err, Result, sym, refl, ap, ◌∙◌, inl, inr, arith}
use Rattle.std.proofs.lemmas.Bool.{cases_Bool}
use Rattle.std.proofs.lemmas.List.{length-drop, drop-drop}
use Rattle.std.specs.List.{onto_first, take_while}
use Rattle.words.specs.Lines.{lines_of, line_by_line}
use Rattle.words.specs.Words.{rest_of_line}
use Rattle.words.specs.Steps.{and_then}
use Rattle.words.proofs.Words.{line_taken}

-- a text as its first line and the others
rest-take : (bs : List ℕ) → take (length (rest_of_line bs)) bs ≡ rest_of_line bs
unfolding rest_of_line
rest-take [] = refl
rest-take (b ∷ bs) = elim (cases_Bool (eqb b 10)) [ inl e ↦ rw e | inr e ↦ rw e (ap (λ us. b ∷ us) (rest-take bs)) ]

pub lines-last : (bs : List ℕ) → length bs ≤ length (rest_of_line bs) → lines_of bs ≡ rest_of_line bs ∷ []
unfolding rest_of_line
lines-last [] h = refl
lines-last (b ∷ bs) h = elim (cases_Bool (eqb b 10)) [
  | inl e ↦ absurd (omega (arith, rw e at h))
  | inr e ↦ rw e (ap (onto_first b) (lines-last bs (omega (arith, rw e at h))))
]

pub lines_next : (bs : List ℕ) → length (rest_of_line bs) < length bs → lines_of bs ≡ rest_of_line bs ∷ lines_of (drop (suc (length (rest_of_line bs))) bs)
unfolding rest_of_line
lines_next [] h = absurd (omega arith)
lines_next (b ∷ bs) h = elim (cases_Bool (eqb b 10)) [
  | inl e ↦ rw e refl
  | inr e ↦ rw e (ap (onto_first b) (lines_next bs (omega (arith, rw e at h))))
]

-- the lines that are left, the number of the first of them, and what was said before it
pub record Listing {S : Type 0} (f : ℕ → S → List ℕ → Result S ℕ) (start : S) (text : List ℕ) (left : List (List ℕ)) (n : ℕ) (s : S) : Type 0 where
  pub same : line_by_line f n s left ≡ line_by_line f 0 start (lines_of text)

module _ {S : Type 0} (f : ℕ → S → List ℕ → Result S ℕ) (start : S) (text : List ℕ) (left : List (List ℕ)) (n : ℕ) (s : S) (c : Listing f start text left n s) where
  module _ (line : List ℕ) (rest : List (List ℕ)) (is : left ≡ line ∷ rest) (k : ℕ) (at : k ≡ n) where
    step : and_then (f k s line) (λ z. line_by_line f (suc n) z rest) ≡ line_by_line f 0 start (lines_of text)
    unfolding line_by_line
    step = ap (λ j. and_then (f j s line) (λ z. line_by_line f (suc n) z rest)) at ∙ ap (line_by_line f n s) (sym is) ∙ c.same

    pub list-next : (m : ℕ) → m ≡ n + 1 → (z : S) → f k s line ≡ Ok z → Listing f start text rest m z
    list-next m h z e = record {
      same =
          let q : m ≡ suc n = omega arith in
          ap (λ j. line_by_line f j z rest) q ∙ ap (λ r. and_then r (λ u. line_by_line f (suc n) u rest)) (sym e) ∙ step;
    }

    pub list-stopped : (j : ℕ) → f k s line ≡ Err j → line_by_line f 0 start (lines_of text) ≡ Err j
    list-stopped j e = sym step ∙ ap (λ r. and_then r (λ u. line_by_line f (suc n) u rest)) e

  pub list_all : left ≡ [] → line_by_line f 0 start (lines_of text) ≡ Ok s
  unfolding line_by_line
  list_all e = sym c.same ∙ ap (line_by_line f n s) e

-- a text cut at its first newline
module _ (bs line after : List ℕ) (k : ℕ) (long : k ≡ length (take_while (λ b. not (eqb b 10)) bs)) (front : line ≡ take k bs) (back : after ≡ drop k bs) where
  count : k ≡ length (rest_of_line bs)
  count = long ∙ ap length (line_taken bs)

  line-is : line ≡ rest_of_line bs
  line-is = front ∙ ap (λ n. take n bs) count ∙ rest-take bs

  pub cut-last : length after ≡ 0 → lines_of bs ≡ line ∷ []
  cut-last h = lines-last bs (omega (arith, ap length back, length-drop k bs, count)) ∙ ap (λ l. l ∷ []) (sym line-is)

  pub cut-next : (b : ℕ) (next : List ℕ) → after ≡ b ∷ next → lines_of bs ≡ line ∷ lines_of next
  cut-next b next h =
      let more : suc (length next) ≡ length after = sym (ap length h) in
      let far : suc (length (rest_of_line bs)) ≡ k + 1 = omega (arith, count) in
      let rest : drop (suc (length (rest_of_line bs))) bs ≡ next =
      ap (λ n. drop n bs) far ∙ sym (drop-drop 1 k bs) ∙ ap (drop 1) (sym back ∙ h)
      in
      lines_next bs (omega (arith, ap length back, length-drop k bs, count)) ∙ ap (λ l. l ∷ lines_of (drop (suc (length (rest_of_line bs))) bs)) (sym line-is) ∙ ap (λ us. line ∷ lines_of us) rest
