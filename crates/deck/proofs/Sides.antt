-- Lists side by side: one more at the end, and one relation after another. Assumes nothing.
use Rattle.std.proofs.Common.{ℕ, ◌+◌, ◌<◌, List, [], ◌∷◌, ◌++◌, length, get_or, take}
use Rattle.std.specs.List.{AllByRecursion}
use Rattle.std.proofs.lemmas.List.{take_more}
use Rattle.deck.specs.Decks.{Each}

pub each-push : {A B : Type 0} (P : A → B → Type 0) (xs : List A) (ys : List B) (x : A) (y : B) → Each P xs ys → P x y → Each P (xs ++ x ∷ []) (ys ++ y ∷ [])
each-push P [] [] x y h p = (p, tt)
each-push P [] (b ∷ ys) x y h p = absurd h
each-push P (a ∷ xs) [] x y h p = absurd h
each-push P (a ∷ xs) (b ∷ ys) x y h p = (h.0, each-push P xs ys x y h.1 p)

-- one more of a list of which the first i are done
pub each_more : {A B : Type 0} (P : A → B → Type 0) (xs : List A) (ys : List B) (i : ℕ) (d : A) (y : B) → i < length xs → Each P (take i xs) ys → P (get_or xs i d) y → Each P (take (i + 1) xs) (ys ++ y ∷ [])
each_more P xs ys i d y l h p = rw (take_more xs i d l) (each-push P (take i xs) ys (get_or xs i d) y h p)

pub each_left : {A B : Type 0} (P : A → B → Type 0) (Q : A → Type 0) → ((a : A) (b : B) → P a b → Q a) → (xs : List A) (ys : List B) → Each P xs ys → AllByRecursion Q xs
each_left P Q f [] [] h = tt
each_left P Q f [] (b ∷ ys) h = absurd h
each_left P Q f (a ∷ xs) [] h = absurd h
each_left P Q f (a ∷ xs) (b ∷ ys) h = (f a b h.0, each_left P Q f xs ys h.1)

pub each_right : {A B : Type 0} (P : A → B → Type 0) (Q : B → Type 0) → ((a : A) (b : B) → P a b → Q b) → (xs : List A) (ys : List B) → Each P xs ys → AllByRecursion Q ys
each_right P Q f [] [] h = tt
each_right P Q f [] (b ∷ ys) h = absurd h
each_right P Q f (a ∷ xs) [] h = absurd h
each_right P Q f (a ∷ xs) (b ∷ ys) h = (f a b h.0, each_right P Q f xs ys h.1)

-- from the first list over the second to the third
pub each_on : {A B C : Type 0} (P : A → B → Type 0) (Q : B → C → Type 0) (M : B → Type 0) (R : A → C → Type 0) → ((a : A) (b : B) (c : C) → P a b → M b → Q b c → R a c) →
    (xs : List A) (ys : List B) (zs : List C) → Each P xs ys → AllByRecursion M ys → Each Q ys zs → Each R xs zs
each_on P Q M R f [] [] [] h m k = tt
each_on P Q M R f [] [] (c ∷ zs) h m k = absurd k
each_on P Q M R f [] (b ∷ ys) zs h m k = absurd h
each_on P Q M R f (a ∷ xs) [] zs h m k = absurd h
each_on P Q M R f (a ∷ xs) (b ∷ ys) [] h m k = absurd k
each_on P Q M R f (a ∷ xs) (b ∷ ys) (c ∷ zs) h m k = (f a b c h.0 m.0 k.0, each_on P Q M R f xs ys zs h.1 m.1 k.1)
