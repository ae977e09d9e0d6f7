-- The messages of rules. Assumes nothing.
use Rattle.std.proofs.Common.{◌≡◌, ℕ, ◌+◌, min, List, [], ◌∷◌, ◌++◌, map, length, take, drop, sym, refl, ap, ◌∙◌, inl, inr, arith}
use Rattle.std.proofs.lemmas.Bool.{cases_lt}
use Rattle.std.proofs.lemmas.List.{length-take, take_all, drop_all, map_push}
use Rattle.std.proofs.lemmas.Slice.{between_is}
use Rattle.std.specs.List.{between}
use Rattle.words.specs.Words.{Token, token_of}
use Rattle.words.specs.declared.word.Word.{Word}
use Rattle.rule_text.specs.Rules.{last_end, message_of}

-- where the last word ends
last-at : (e : ℕ) (ts : List Token) (t : Token) → last_end e (ts ++ t ∷ []) ≡ t.to
unfolding last_end
last-at e [] t = refl
last-at e (u ∷ us) t = last-at u.to us t

-- a part whose ends are drawn into the text
take-clipped : (xs : List ℕ) (n : ℕ) → take (min n (length xs)) xs ≡ take n xs
take-clipped xs n = elim (cases_lt n (length xs)) [
  | inl h ↦ ap (λ k. take k xs) (omega arith)
  | inr h ↦ take_all (min n (length xs)) xs (omega arith) ∙ sym (take_all n xs h)
]

drop-clipped : (xs : List ℕ) (n : ℕ) → drop (min n (length xs)) xs ≡ drop n xs
drop-clipped xs n = elim (cases_lt n (length xs)) [
  | inl h ↦ ap (λ k. drop k xs) (omega arith)
  | inr h ↦ drop_all (min n (length xs)) xs (omega arith) ∙ sym (drop_all n xs h)
]

between-clipped : (xs : List ℕ) (s e s' e' : ℕ) → e' ≡ min e (length xs) → s' ≡ min s e' → between s' e' xs ≡ between s e xs
between-clipped xs s e s' e' p q =
    let long : s' ≡ min s (length (take e xs)) = omega (arith, length-take e xs) in
    between_is xs s' e' ∙ ap (λ k. drop s' (take k xs)) p ∙ ap (drop s') (take-clipped xs e) ∙ ap (λ k. drop k (take e xs)) long ∙ drop-clipped (take e xs) s ∙ sym (between_is xs s e)

pub message-some : (text : List ℕ) (ws : List Word) (f l : Word) (rest front : List Word) → ws ≡ f ∷ rest → ws ≡ front ++ l ∷ [] → (s e : ℕ) → e ≡ min (l.start + length l.bytes.now) (length text) → s ≡ min f.start e → between s e text ≡ message_of text (map token_of ws)
unfolding last_end
message-some text ws f l rest front a z s e p q =
    let to : last_end (token_of f).to (map token_of rest) ≡ l.start + length l.bytes.now =
    ap (λ us. last_end 0 (map token_of us)) (sym a ∙ z) ∙ ap (last_end 0) (map_push token_of front l) ∙ last-at 0 (map token_of front) (token_of l)
    in
    between-clipped text f.start (l.start + length l.bytes.now) s e p q ∙ ap (λ k. between f.start k text) (sym to) ∙ sym (ap (λ us. message_of text (map token_of us)) a)
