-- Runs of letters and comments in a text, and its words. Assumes nothing.
use Rattle.std.proofs.Common.{◌≡◌, ℕ, suc, ◌+◌, ◌≤◌, true, false, not, cond, eqb, List, [], ◌∷◌, ◌++◌, length, take, drop, sym, refl, ap, ◌∙◌, inl, inr, arith}
use Rattle.std.proofs.lemmas.List.{append_assoc, append-nil, length-take}
use Rattle.std.proofs.lemmas.List.Sums.{take_while-cons}
use Rattle.std.proofs.lemmas.Bool.{cases_Bool, false≢true}
use Rattle.std.specs.List.{take_while}
use Rattle.words.specs.declared.word.Marks.{Marks}
use Rattle.words.specs.declared.word.Kind.{Kind}
use Rattle.words.specs.declared.word.Kind.TheVariants.{Newline, Blank, Comment, Mark, Letter}
use Rattle.words.specs.Words.{Token, kind_of, is_letter, letters, rest_of_line, ended, by_kind, words_from}

pub letter_is : (k : Kind) → is_letter k ≡ true → k ≡ Letter
letter_is Newline e = absurd (false≢true e)
letter_is Blank e = absurd (false≢true e)
letter_is Comment e = absurd (false≢true e)
letter_is Mark e = absurd (false≢true e)
letter_is Letter e = refl

-- a run of letters
module _ (m : Marks) where
  pub letters-yes : (b : ℕ) (bs : List ℕ) → is_letter (kind_of m b) ≡ true → letters m (b ∷ bs) ≡ b ∷ letters m bs
  unfolding letters
  letters-yes b bs e = ap (λ t. cond t (b ∷ letters m bs) []) e

  letters-no : (b : ℕ) (bs : List ℕ) → is_letter (kind_of m b) ≡ false → letters m (b ∷ bs) ≡ []
  unfolding letters
  letters-no b bs e = ap (λ t. cond t (b ∷ letters m bs) []) e

  pub letters-take : (bs : List ℕ) → take (length (letters m bs)) bs ≡ letters m bs
  unfolding letters
  letters-take [] = refl
  letters-take (b ∷ bs) = elim (cases_Bool (is_letter (kind_of m b))) [
    | inl e ↦ ap (λ us. take (length us) (b ∷ bs)) (letters-yes b bs e) ∙ ap (λ us. b ∷ us) (letters-take bs) ∙ sym (letters-yes b bs e)
    | inr e ↦ ap (λ us. take (length us) (b ∷ bs)) (letters-no b bs e) ∙ sym (letters-no b bs e)
  ]

  pub letters-done : (bs : List ℕ) → letters m (drop (length (letters m bs)) bs) ≡ []
  unfolding letters
  letters-done [] = refl
  letters-done (b ∷ bs) = elim (cases_Bool (is_letter (kind_of m b))) [
    | inl e ↦ ap (λ us. letters m (drop (length us) (b ∷ bs))) (letters-yes b bs e) ∙ letters-done bs
    | inr e ↦ ap (λ us. letters m (drop (length us) (b ∷ bs))) (letters-no b bs e) ∙ letters-no b bs e
  ]

  -- one byte where no word has begun
  pub at-newline : (n p b : ℕ) (bs : List ℕ) → kind_of m b ≡ Newline → words_from m n p false [] (b ∷ bs) ≡ words_from m (suc n) (p + 1) false [] bs
  unfolding words_from
  at-newline n p b bs e = let z : p + 0 + 1 ≡ p + 1 = omega arith in rw e (ap (λ q. words_from m (suc n) q false [] bs) z)

  pub at-blank : (n p b : ℕ) (bs : List ℕ) → kind_of m b ≡ Blank → words_from m n p false [] (b ∷ bs) ≡ words_from m n (p + 1) false [] bs
  unfolding words_from
  at-blank n p b bs e = let z : p + 0 + 1 ≡ p + 1 = omega arith in rw e (ap (λ q. words_from m n q false [] bs) z)

  pub at-comment : (n p b : ℕ) (bs : List ℕ) → kind_of m b ≡ Comment → words_from m n p false [] (b ∷ bs) ≡ words_from m n (p + 1) true [] bs
  unfolding words_from
  at-comment n p b bs e = let z : p + 0 + 1 ≡ p + 1 = omega arith in rw e (ap (λ q. words_from m n q true [] bs) z)

  marked : (n b : ℕ) (bs : List ℕ) → ℕ → List Token
  marked n b bs z = record { line = n; from = z; to = z + 1; bytes = b ∷ [] } ∷ words_from m n (z + 1) false [] bs

  pub at_mark : (n p b : ℕ) (bs : List ℕ) → kind_of m b ≡ Mark → words_from m n p false [] (b ∷ bs) ≡ record { line = n; from = p; to = p + 1; bytes = b ∷ [] } ∷ words_from m n (p + 1) false [] bs
  unfolding words_from marked
  at_mark n p b bs e = let z : p + 0 ≡ p = omega arith in rw e (ap (marked n b bs) z)

  pub at-letter : (n p b : ℕ) (w bs : List ℕ) → kind_of m b ≡ Letter → words_from m n p false w (b ∷ bs) ≡ words_from m n p false (w ++ b ∷ []) bs
  unfolding words_from
  at-letter n p b w bs e = rw e

  pub word-begun : (n p : ℕ) (w bs : List ℕ) → words_from m n p false w bs ≡ words_from m n p false (w ++ letters m bs) (drop (length (letters m bs)) bs)
  unfolding letters
  word-begun n p w [] = ap (λ u. words_from m n p false u []) (sym (append-nil w))
  word-begun n p w (b ∷ bs) = elim (cases_Bool (is_letter (kind_of m b))) [
    | inl e ↦
        at-letter n p b w bs (letter_is (kind_of m b) e) ∙ word-begun n p (w ++ b ∷ []) bs
        ∙ ap (λ u. words_from m n p false u (drop (length (letters m bs)) bs)) (append_assoc w (b ∷ []) (letters m bs))
        ∙ ap (λ us. words_from m n p false (w ++ us) (drop (length us) (b ∷ bs))) (sym (letters-yes b bs e))
    | inr e ↦
        ap (λ u. words_from m n p false u (b ∷ bs)) (sym (append-nil w))
        ∙ ap (λ us. words_from m n p false (w ++ us) (drop (length us) (b ∷ bs))) (sym (letters-no b bs e))
  ]

  split-kind : (E A B C D L M : List Token) (k : Kind) → is_letter k ≡ false → by_kind k (E ++ A) (E ++ B) (E ++ C) (E ++ D) L ≡ E ++ by_kind k A B C D M
  split-kind E A B C D L M Newline e = refl
  split-kind E A B C D L M Blank e = refl
  split-kind E A B C D L M Comment e = refl
  split-kind E A B C D L M Mark e = refl
  split-kind E A B C D L M Letter e = absurd (false≢true (sym e))

  -- what follows a byte at a place
  following : (n b : ℕ) (bs : List ℕ) (M : List Token) → ℕ → List Token
  following n b bs M z = by_kind (kind_of m b) (words_from m (suc n) (z + 1) false [] bs) (words_from m n (z + 1) false [] bs) (words_from m n (z + 1) true [] bs) (record { line = n; from = z; to = z + 1; bytes = b ∷ [] } ∷ words_from m n (z + 1) false [] bs) M

  pub word-ended : (n p : ℕ) (w bs : List ℕ) → letters m bs ≡ [] → words_from m n p false w bs ≡ ended n p w ++ words_from m n (p + length w) false [] bs
  unfolding words_from following
  word-ended n p w [] e = sym (append-nil (ended n p w))
  word-ended n p w (b ∷ bs) e = elim (cases_Bool (is_letter (kind_of m b))) [
    | inl y ↦ absurd (clash (sym (letters-yes b bs y) ∙ e))
    | inr y ↦
        let M = words_from m n (p + length w) false (b ∷ []) bs in
        let z : p + length w ≡ p + length w + 0 = omega arith in
        split-kind (ended n p w) _ _ _ _ _ M (kind_of m b) y ∙ ap (λ q. ended n p w ++ following n b bs M q) z
  ]
    where
      clash : {x : ℕ} {xs : List ℕ} → x ∷ xs ≡ [] → ⊥
      clash q = let z : ◌≡◌ {A = ℕ} 1 0 = ap some q in omega arith
        where
          some : List ℕ → ℕ
          some [] = 0
          some (x ∷ xs) = 1

  pub comment-ended : (n p : ℕ) (bs : List ℕ) → words_from m n p true [] bs ≡ words_from m n (p + length (rest_of_line bs)) false [] (drop (length (rest_of_line bs)) bs)
  unfolding words_from rest_of_line
  comment-ended n p [] = refl
  comment-ended n p (b ∷ bs) = elim (cases_Bool (eqb b 10)) [
    | inl e ↦
        let k : kind_of m b ≡ Newline = rw e in
        let z : p + 0 + 1 ≡ p + 1 = omega arith in
        rw e (ap (λ q. words_from m (suc n) q false [] bs) (sym z) ∙ sym (at-newline n (p + 0) b bs k))
    | inr e ↦
        let z : p + 1 + length (rest_of_line bs) ≡ p + suc (length (rest_of_line bs)) = omega arith in
        rw e (comment-ended n (p + 1) bs ∙ ap (λ q. words_from m n q false [] (drop (length (rest_of_line bs)) bs)) z)
  ]

-- the same in std's words
pub letters-taken : (m : Marks) (bs : List ℕ) → take_while (λ b. is_letter (kind_of m b)) bs ≡ letters m bs
unfolding letters
letters-taken m [] = refl
letters-taken m (b ∷ bs) = take_while-cons (λ b. is_letter (kind_of m b)) b bs ∙ ap (λ us. cond (is_letter (kind_of m b)) (b ∷ us) []) (letters-taken m bs)

pub line_taken : (bs : List ℕ) → take_while (λ b. not (eqb b 10)) bs ≡ rest_of_line bs
unfolding rest_of_line
line_taken [] = refl
line_taken (b ∷ bs) = take_while-cons (λ b. not (eqb b 10)) b bs ∙ elim (cases_Bool (eqb b 10)) [
  | inl e ↦ rw e
  | inr e ↦ rw e (ap (λ us. b ∷ us) (line_taken bs))
]

pub rest-long : (bs : List ℕ) → length (rest_of_line bs) ≤ length bs
unfolding rest_of_line
rest-long [] = omega arith
rest-long (b ∷ bs) = elim (cases_Bool (eqb b 10)) [ inl e ↦ rw e (omega arith) | inr e ↦ rw e (omega (arith, rest-long bs)) ]

pub letters-short : (m : Marks) (bs : List ℕ) → length (letters m bs) ≤ length bs
letters-short m bs = omega (arith, ap length (letters-take m bs), length-take (length (letters m bs)) bs)

pub ended_some : (n p : ℕ) (bs : List ℕ) → 1 ≤ length bs → ended n p bs ≡ record { line = n; from = p; to = p + length bs; bytes = bs } ∷ []
ended_some n p [] h = absurd (omega arith)
ended_some n p (b ∷ bs) h = refl

-- a comment has a byte at least
pub comment-long : (m : Marks) (b : ℕ) (bs rest : List ℕ) → rest ≡ b ∷ bs → Comment ≡ kind_of m b → length (take_while (λ b. not (eqb b 10)) rest) ≡ suc (length (rest_of_line bs))
unfolding rest_of_line
comment-long m b bs rest is e = ap (λ us. length (take_while (λ b. not (eqb b 10)) us)) is ∙ ap length (line_taken (b ∷ bs)) ∙ elim (cases_Bool (eqb b 10)) [
  | inl t ↦ let k : kind_of m b ≡ Newline = rw t in let z : Comment ≡ Newline = e ∙ k in let y : ◌≡◌ {A = ℕ} 0 1 = cc in absurd (omega arith)
  | inr t ↦ rw t
]
