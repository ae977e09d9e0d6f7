-- A line that is written from words is cut into those words again. Assumes nothing.
use Rattle.std.proofs.Common.{◌≡◌, ℕ, suc, ◌+◌, ◌^◌, ◌<◌, ◌≤◌, Bool, true, false, cond, ◌&&◌, leb, List, [], ◌∷◌, ◌++◌, length, drop, Ok, codes, decimal, Result, refl, ap, ◌∙◌, arith}
use Rattle.std.proofs.lemmas.List.{append_assoc}
use Rattle.std.proofs.lemmas.List.Prefix.{front_rest}
use Rattle.std.proofs.lemmas.Bool.{and_parts, and_from, leb-true, ne_eqb}
use Rattle.words.specs.Numbers.{all_digits}
use Rattle.words.specs.Steps.{and_then}
use Rattle.words.specs.Words.{kind_of, is_letter, letters, words_from}
use Rattle.words.specs.declared.word.Marks.TheVariants.{Braces}
use Rattle.words.proofs.Words.{at-newline, at-blank, at_mark, word-begun, word-ended}
use Rattle.text.specs.Readings.{State, accept, read}
use Rattle.layout_writer.specs.Lines.{after_words, line_of, name}
use Rattle.layout_writer.proofs.Decimals.{written_digits, written_some}

-- a word that is cut off where no letter follows
pub record Whole (w : List ℕ) : Type 0 where
  pub cut : (n p : ℕ) (rest : List ℕ) → letters Braces rest ≡ [] → (q : ℕ) × (words_from Braces n p false [] (w ++ rest) ≡ record { line = n; from = p; to = q; bytes = w } ∷ words_from Braces n q false [] rest)

abbrev pub plain : List ℕ → Bool
plain [] = true
plain (b ∷ bs) = is_letter (kind_of Braces b) && plain bs

letters-are : (w rest : List ℕ) → plain w ≡ true → letters Braces rest ≡ [] → letters Braces (w ++ rest) ≡ w
unfolding letters
letters-are [] rest p e = e
letters-are (b ∷ bs) rest p e =
    let q = and_parts (is_letter (kind_of Braces b)) (plain bs) p in
    ap (λ t. cond t (b ∷ letters Braces (bs ++ rest)) []) q.0 ∙ ap (λ us. b ∷ us) (letters-are bs rest q.1 e)

pub whole_plain : (w : List ℕ) → plain w ≡ true → 1 ≤ length w → Whole w
whole_plain [] p h = absurd (omega arith)
whole_plain (b ∷ bs) p h = record {
  cut = λ n at rest e. (
    at + length (b ∷ bs),
    word-begun Braces n at [] ((b ∷ bs) ++ rest)
        ∙ ap (λ us. words_from Braces n at false us (drop (length us) ((b ∷ bs) ++ rest))) (letters-are (b ∷ bs) rest p e)
        ∙ ap (words_from Braces n at false (b ∷ bs)) (front_rest ((b ∷ bs) ++ rest) (b ∷ bs) rest refl)
        ∙ word-ended Braces n at (b ∷ bs) rest e,
  );
}

pub whole_open : Whole (codes "{")
whole_open = record { cut = λ n at rest e. (at + 1, at_mark Braces n at 123 rest refl) }

pub whole-close : Whole (codes "}")
whole-close = record { cut = λ n at rest e. (at + 1, at_mark Braces n at 125 rest refl) }

digit_letter : (b : ℕ) → 48 ≤ b → b ≤ 57 → is_letter (kind_of Braces b) ≡ true
digit_letter b l h =
    simp (ne_eqb b 10 (λ e. omega arith), ne_eqb b 32 (λ e. omega arith), ne_eqb b 9 (λ e. omega arith), ne_eqb b 13 (λ e. omega arith), ne_eqb b 35 (λ e. omega arith), ne_eqb b 123 (λ e. omega arith), ne_eqb b 125 (λ e. omega arith))

digits_plain : (ds : List ℕ) → all_digits ds ≡ true → plain ds ≡ true
unfolding all_digits
digits_plain [] h = refl
digits_plain (b ∷ bs) h =
    let p = and_parts (leb 48 b && leb b 57) (all_digits bs) h in
    let q = and_parts (leb 48 b) (leb b 57) p.0 in
    and_from _ _ (digit_letter b (leb-true 48 b q.0) (leb-true b 57 q.1)) (digits_plain bs p.1)

pub whole-number : (n : ℕ) → n < 2 ^ 64 → Whole (decimal n)
whole-number n h = whole_plain (decimal n) (digits_plain (decimal n) (written_digits n h)) (written_some n h)

pub whole-name : (n : ℕ) → n < 2 ^ 64 → Whole (name n)
whole-name n h = whole_plain (name n) (digits_plain (decimal n) (written_digits n h)) (omega arith)

-- words that are read one after the other, on one line
pub data Says (n : ℕ) : State → List (List ℕ) → State → Type 0 where
  done : {s : State} → Says n s [] s
  word : {s y z : State} {w : List ℕ} {ws : List (List ℕ)} → Whole w → accept s w n ≡ Ok y → Says n y ws z → Says n s (w ∷ ws) z

pub also : {n : ℕ} {s y z : State} {ws vs : List (List ℕ)} → Says n s ws y → Says n y vs z → Says n s (ws ++ vs) z
also done t = t
also (word w e r) t = word w e (also r t)

-- bytes that take a reader from a state and a line to others
pub record Turns (bytes : List ℕ) (s z : State) (n m : ℕ) : Type 0 where
  pub on : (p : ℕ) (rest : List ℕ) → (q : ℕ) × (read s (words_from Braces n p false [] (bytes ++ rest)) ≡ read z (words_from Braces m q false [] rest))

pub turns-none : (s : State) (n : ℕ) → Turns [] s s n n
turns-none s n = record { on = λ p rest. (p, refl) }

pub turns_then : (a b : List ℕ) (s y z : State) (n m k : ℕ) → Turns a s y n m → Turns b y z m k → Turns (a ++ b) s z n k
turns_then a b s y z n m k t u = record {
  on = λ p rest.
      let f = t.on p (b ++ rest) in
      let g = u.on f.0 rest in
      (g.0, ap (λ bs. read s (words_from Braces n p false [] bs)) (append_assoc a b rest) ∙ f.1 ∙ g.1);
}

pub turns-blank : (bs : List ℕ) (s z : State) (n m : ℕ) → Turns bs s z n m → Turns (32 ∷ bs) s z n m
turns-blank bs s z n m t = record {
  on = λ p rest. let f = t.on (p + 1) rest in (f.0, ap (read s) (at-blank Braces n p 32 (bs ++ rest) refl) ∙ f.1);
}

turns-newline : (s : State) (n : ℕ) → Turns (10 ∷ []) s s n (suc n)
turns-newline s n = record { on = λ p rest. (p + 1, ap (read s) (at-newline Braces n p 10 rest refl)) }

turns-word : (w tail : List ℕ) (s y z : State) (n m : ℕ) → Whole w → ((rest : List ℕ) → letters Braces (tail ++ rest) ≡ []) → accept s w n ≡ Ok y → Turns tail y z n m → Turns (w ++ tail) s z n m
unfolding read
turns-word w tail s y z n m c stops e t = record {
  on = λ p rest.
      let f = c.cut n p (tail ++ rest) (stops rest) in
      let g = t.on f.0 rest in
      let r : Result State ℕ → Result State ℕ = λ a. and_then a (λ z. read z (words_from Braces n f.0 false [] (tail ++ rest))) in
      (g.0, ap (λ bs. read s (words_from Braces n p false [] bs)) (append_assoc w tail rest) ∙ ap (read s) f.1 ∙ ap r e ∙ g.1);
}

stops : (ws : List (List ℕ)) (rest : List ℕ) → letters Braces (after_words ws ++ rest) ≡ []
unfolding letters
stops [] rest = refl
stops (w ∷ ws) rest = refl

after-turns : {n : ℕ} {s z : State} {ws : List (List ℕ)} → Says n s ws z → Turns (after_words ws) s z n (suc n)
after-turns {n} {s} done = turns-newline s n
after-turns {n} {s} {z} (word {y = y} {w = w} {ws = ws} c e r) =
    turns-blank (w ++ after_words ws) s z n (suc n) (turns-word w (after_words ws) s y z n (suc n) c (stops ws) e (after-turns r))

pub line-turns : {n : ℕ} {s z : State} {ws : List (List ℕ)} → Says n s ws z → Turns (line_of ws) s z n (suc n)
line-turns {n} {s} done = turns-newline s n
line-turns {n} {s} {z} (word {y = y} {w = w} {ws = ws} c e r) = turns-word w (after_words ws) s y z n (suc n) c (stops ws) e (after-turns r)
