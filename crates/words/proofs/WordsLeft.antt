-- The words of what is left of a text, some bytes on. Assumes nothing.
use Rattle.std.proofs.Common.{◌≡◌, ℕ, suc, ◌+◌, ◌-◌, ◌≤◌, true, false, not, eqb, List, [], ◌∷◌, ◌++◌, map, length, take, drop, sym, refl, ap, ◌∙◌, subst, arith}
use Rattle.std.proofs.lemmas.List.{append_assoc, append-nil, drop-drop, map_push, length-drop, length-take}
use Rattle.std.proofs.ByRecursion.{All-push}
use Rattle.std.proofs.lemmas.Bool.{false≢true}
use Rattle.std.specs.List.{between, take_while, AllByRecursion}
use Rattle.words.specs.declared.word.Marks.{Marks}
use Rattle.words.specs.declared.word.Word.{Word}
use Rattle.words.specs.declared.word.Kind.{Kind}
use Rattle.words.specs.declared.word.Kind.TheVariants.{Newline, Blank, Comment, Mark, Letter}
use Rattle.words.specs.Words.{Token, kind_of, is_letter, letters, rest_of_line, words_from, words_of, token_of, Inside, Cut}
use Rattle.words.specs.WordsLeft.{is_first}
use Rattle.words.proofs.Words.{letters-taken, letters-take, letters-done, letters-yes, letters-short, at-newline, at-blank, at-comment, at_mark, word-begun, word-ended, ended_some, comment-ended, comment-long, rest-long}

module _ (text rest : List ℕ) (long : length rest ≤ length text) (k : ℕ) (few : k ≤ length rest) where
  -- what is left after some bytes, and where it stands
  place-on : length text - length rest + k ≡ length text - length (drop k rest)
  place-on = omega (arith, long, few, length-drop k rest)

  pub suffix-on : rest ≡ drop (length text - length rest) text → (left : List ℕ) → left ≡ drop k rest → left ≡ drop (length text - length left) text
  suffix-on suffix left is =
      subst (λ (us : List ℕ). us ≡ drop (length text - length us) text) (sym is)
      (ap (drop k) suffix ∙ drop-drop k (length text - length rest) text ∙ ap (λ n. drop n text) place-on)

  words-on : (m : Marks) (line line' : ℕ) → words_from m line (length text - length rest) false [] rest ≡ words_from m line' (length text - length rest + k) false [] (drop k rest) → (left : List ℕ) → left ≡ drop k rest → words_from m line' (length text - length left) false [] left ≡ words_from m line (length text - length rest) false [] rest
  words-on m line line' e left is =
      subst (λ (us : List ℕ). words_from m line' (length text - length us) false [] us ≡ words_from m line (length text - length rest) false [] rest) (sym is)
      (sym (e ∙ ap (λ p. words_from m line' p false [] (drop k rest)) place-on))

-- what the first byte does, by its kind
module _ (m : Marks) (text : List ℕ) (line : ℕ) (rest : List ℕ) (long : length rest ≤ length text) (b : ℕ) (bs : List ℕ) (is : rest ≡ b ∷ bs) where
  pub one-on : rest ≡ drop (length text - length rest) text → bs ≡ drop (length text - length bs) text
  one-on suffix = suffix-on text rest long 1 (omega (arith, ap length is)) suffix bs (sym (ap (drop 1) is))

  pub newline-on : Newline ≡ kind_of m b → words_from m (line + 1) (length text - length bs) false [] bs ≡ words_from m line (length text - length rest) false [] rest
  newline-on e =
      let z : suc line ≡ line + 1 = omega arith in
      words-on text rest long 1 (omega (arith, ap length is)) m line (line + 1)
      (ap (λ us. words_from m line (length text - length rest) false [] us) is ∙ at-newline m line (length text - length rest) b bs (sym e)
      ∙ ap (λ n. words_from m n (length text - length rest + 1) false [] bs) z ∙ ap (λ us. words_from m (line + 1) (length text - length rest + 1) false [] us) (sym (ap (drop 1) is)))
      bs (sym (ap (drop 1) is))

  pub blank-on : Blank ≡ kind_of m b → words_from m line (length text - length bs) false [] bs ≡ words_from m line (length text - length rest) false [] rest
  blank-on e =
      words-on text rest long 1 (omega (arith, ap length is)) m line line
      (ap (λ us. words_from m line (length text - length rest) false [] us) is ∙ at-blank m line (length text - length rest) b bs (sym e)
      ∙ ap (λ us. words_from m line (length text - length rest + 1) false [] us) (sym (ap (drop 1) is)))
      bs (sym (ap (drop 1) is))

  module _ (e : Comment ≡ kind_of m b) (k : ℕ) (long-is : k ≡ length (take_while (λ b. not (eqb b 10)) rest)) where
    count : k ≡ suc (length (rest_of_line bs))
    count = long-is ∙ comment-long m b bs rest is e

    few : k ≤ length rest
    few = omega (arith, count, rest-long bs, ap length is)

    pub comment-suffix : rest ≡ drop (length text - length rest) text → (left : List ℕ) → left ≡ drop k rest → left ≡ drop (length text - length left) text
    comment-suffix = suffix-on text rest long k few

    pub comment-place : (left : List ℕ) → left ≡ drop k rest → length left ≤ length rest
    comment-place left l = omega (arith, ap length l, length-drop k rest)

    pub comment-on : (left : List ℕ) → left ≡ drop k rest → words_from m line (length text - length left) false [] left ≡ words_from m line (length text - length rest) false [] rest
    comment-on left l =
        let p = length text - length rest in
        let n = length (rest_of_line bs) in
        let z : p + 1 + n ≡ p + k = omega (arith, count) in
        words-on text rest long k few m line line
        (ap (λ us. words_from m line p false [] us) is ∙ at-comment m line p b bs (sym e) ∙ comment-ended m line (p + 1) bs
        ∙ ap (λ q. words_from m line q false [] (drop n bs)) z ∙ ap (λ us. words_from m line (p + k) false [] us) (sym (ap (λ j. drop j rest) count ∙ ap (drop (suc n)) is)))
        left l

mark_is : (k : Kind) → is_first k → is_letter k ≡ false → k ≡ Mark
mark_is Newline f e = absurd f
mark_is Blank f e = absurd f
mark_is Comment f e = absurd f
mark_is Mark f e = refl
mark_is Letter f e = absurd (false≢true (sym e))

-- a word of some bytes is the first that is left
pub record Begins (m : Marks) (line at : ℕ) (rest : List ℕ) (k : ℕ) : Type 0 where
  pub few : k ≤ length rest
  pub some : 1 ≤ k
  pub same : words_from m line at false [] rest ≡ record { line = line; from = at; to = at + k; bytes = take k rest } ∷ words_from m line (at + k) false [] (drop k rest)

module _ (m : Marks) (line at : ℕ) (rest : List ℕ) (b : ℕ) (bs : List ℕ) (is : rest ≡ b ∷ bs) where
  pub mark-begins : is_first (kind_of m b) → is_letter (kind_of m b) ≡ false → Begins m line at rest 1
  mark-begins f e = subst (λ (us : List ℕ). Begins m line at us 1) (sym is) (record {
    few = omega arith;
    some = omega arith;
    same = at_mark m line at b bs (mark_is (kind_of m b) f e);
  })

  pub letters-begin : is_letter (kind_of m b) ≡ true → (k : ℕ) → k ≡ length (take_while (λ b. is_letter (kind_of m b)) rest) → Begins m line at rest k
  letters-begin e k h =
      let ls = letters m (b ∷ bs) in
      let long : k ≡ length ls = h ∙ ap length (letters-taken m rest) ∙ ap (λ us. length (letters m us)) is in
      let some : 1 ≤ length ls = omega (arith, ap length (letters-yes m b bs e)) in
      subst (λ (n : ℕ). Begins m line at rest n) (sym long) (subst (λ (us : List ℕ). Begins m line at us (length ls)) (sym is) (record {
        few = letters-short m (b ∷ bs);
        some = some;
        same =
            word-begun m line at [] (b ∷ bs)
            ∙ word-ended m line at ls (drop (length ls) (b ∷ bs)) (letters-done m (b ∷ bs))
            ∙ ap (λ ts. ts ++ words_from m line (at + length ls) false [] (drop (length ls) (b ∷ bs))) (ended_some line at ls some)
            ∙ ap (λ us. record { line = line; from = at; to = at + length ls; bytes = us } ∷ words_from m line (at + length ls) false [] (drop (length ls) (b ∷ bs))) (sym (letters-take m (b ∷ bs)));
      }))

-- that word is cut off
module _ (m : Marks) (text : List ℕ) (line : ℕ) (rest : List ℕ) (long : length rest ≤ length text) (k : ℕ) (c : Begins m line (length text - length rest) rest k) (left : List ℕ) (l : left ≡ drop k rest) where
  pub cut-suffix : rest ≡ drop (length text - length rest) text → left ≡ drop (length text - length left) text
  cut-suffix suffix = suffix-on text rest long k c.few suffix left l

  pub cut-short : length left + k ≡ length rest
  cut-short = omega (arith, ap length l, length-drop k rest, c.few)

  module _ (w : Word) (spelled : w.bytes.now ≡ take k rest) (starts : w.start ≡ length text - length rest) (lined : w.line ≡ line) where
    size : length w.bytes.now ≡ k
    size = omega (arith, ap length spelled, length-take k rest, c.few)

    pub cut-inside : rest ≡ drop (length text - length rest) text → Inside text w
    cut-inside suffix =
        let at = length text - length rest in
        let back : at + k - at ≡ k = omega arith in (
          omega (arith, long, c.few, size, starts),
          spelled ∙ ap (take k) suffix ∙ ap (λ n. take n (drop at text)) (sym back) ∙ ap (λ n. between at (at + n) text) (sym size) ∙ ap (λ p. between p (p + length w.bytes.now) text) (sym starts),
        )

    pub cut-words : words_from m line (length text - length rest) false [] rest ≡ token_of w ∷ words_from m line (length text - length left) false [] left
    cut-words =
        let at = length text - length rest in
        let z : at + k ≡ length text - length left = omega (arith, long, cut-short) in
        let token : token_of w ≡ record { line = line; from = at; to = at + k; bytes = take k rest } =
        ap (λ n. record { line = n; from = w.start; to = w.start + length w.bytes.now; bytes = w.bytes.now }) lined
        ∙ ap (λ p. record { line = line; from = p; to = p + length w.bytes.now; bytes = w.bytes.now }) starts
        ∙ ap (λ n. record { line = line; from = at; to = at + n; bytes = w.bytes.now }) size
        ∙ ap (λ us. record { line = line; from = at; to = at + k; bytes = us }) spelled
        in
        c.same
        ∙ ap (λ t. t ∷ words_from m line (at + k) false [] (drop k rest)) (sym token)
        ∙ ap (λ us. token_of w ∷ words_from m line (at + k) false [] us) (sym l)
        ∙ ap (λ p. token_of w ∷ words_from m line p false [] left) z

-- no word is left of nothing
pub none-left : (m : Marks) (line at : ℕ) (rest : List ℕ) → length rest ≡ 0 → words_from m line at false [] rest ≡ []
unfolding words_from
none-left m line at [] h = refl
none-left m line at (b ∷ bs) h = absurd (omega (arith, h))

-- a loop that cuts a text into words: those so far, and those that are left
pub record Cutting (m : Marks) (text : List ℕ) (ws : List Word) (of : List ℕ) (left : List Token) : Type 0 where
  pub here : of ≡ text
  pub inside : AllByRecursion (Inside text) ws
  pub same : map token_of ws ++ left ≡ words_of m text

module _ (m : Marks) (text : List ℕ) (ws : List Word) (of : List ℕ) (left : List Token) (c : Cutting m text ws of left) where
  pub cut-next : (w : Word) → Inside of w → (of' : List ℕ) → of' ≡ of → (left' : List Token) → left ≡ token_of w ∷ left' → Cutting m text (ws ++ w ∷ []) of' left'
  cut-next w i of' o left' e = record {
    here = o ∙ c.here;
    inside = All-push (Inside text) ws w c.inside (subst (λ (us : List ℕ). Inside us w) c.here i);
    same = ap (λ ts. ts ++ left') (map_push token_of ws w) ∙ append_assoc (map token_of ws) (token_of w ∷ []) left' ∙ ap (λ ts. map token_of ws ++ ts) (sym e) ∙ c.same;
  }

  pub cut_all : left ≡ [] → Cut m text ws
  cut_all e = record { inside = c.inside; same = sym (append-nil (map token_of ws)) ∙ ap (λ ts. map token_of ws ++ ts) (sym e) ∙ c.same }
