-- Where a name stands among those of the cells. Assumes nothing.
use Rattle.std.proofs.Common.{◌≡◌, ℕ, zero, suc, ◌^◌, ◌<◌, ◌≤◌, false, cond, List, [], ◌∷◌, ◌++◌, length, get_or, Some, refl, ap, ◌∙◌, inl, inr, arith}
use Rattle.std.proofs.lemmas.Fmt.{decimal_injective}
use Rattle.std.proofs.lemmas.Slice.Eq.{bytes_eq-Decides}
use Rattle.std.proofs.lemmas.List.{length_push, get_or_append_left, get_or_push}
use Rattle.std.proofs.lemmas.Bool.{cases_Bool}
use Rattle.std.specs.Str.{bytes_eq}
use Rattle.words.specs.Places.{place_below, place_of}
use Rattle.layout_writer.specs.Lines.{name}

rest-same : {a b : ℕ} {xs ys : List ℕ} → a ∷ xs ≡ b ∷ ys → xs ≡ ys
rest-same e = cc

name-other : (i a : ℕ) → i < 2 ^ 64 → a < 2 ^ 64 → (i ≡ a → ⊥) → bytes_eq (name i) (name a) ≡ false
name-other i a p q ne = elim (cases_Bool (bytes_eq (name i) (name a))) [
  | inl t ↦ absurd (ne (decimal_injective i a p q (rest-same ((bytes_eq-Decides (name i) (name a)).0 t))))
  | inr t ↦ t
]

-- one name more
module _ (ns : List (List ℕ)) (w v : List ℕ) where
  below-push : (k : ℕ) → k ≤ length ns → place_below (ns ++ w ∷ []) v k ≡ place_below ns v k
  unfolding place_below
  below-push zero h = refl
  below-push (suc k) h =
      ap (λ u. cond (bytes_eq u v) (Some k) (place_below (ns ++ w ∷ []) v k)) (get_or_append_left ns (w ∷ []) [] k (omega arith))
      ∙ ap (λ o. cond (bytes_eq (get_or ns k []) v) (Some k) o) (below-push k (omega arith))

  place_push : place_of (ns ++ w ∷ []) v ≡ cond (bytes_eq w v) (Some (length ns)) (place_of ns v)
  unfolding place_below
  place_push =
      let z : length (ns ++ w ∷ []) ≡ suc (length ns) = length_push ns w ∙ omega arith in
      ap (place_below (ns ++ w ∷ []) v) z
      ∙ ap (λ u. cond (bytes_eq u v) (Some (length ns)) (place_below (ns ++ w ∷ []) v (length ns))) (get_or_push ns w [] (length ns) refl)
      ∙ ap (λ o. cond (bytes_eq w v) (Some (length ns)) o) (below-push (length ns) (omega arith))

pub place-new : (ns : List (List ℕ)) (w : List ℕ) → place_of (ns ++ w ∷ []) w ≡ Some (length ns)
place-new ns w = place_push ns w w ∙ ap (λ t. cond t (Some (length ns)) (place_of ns w)) ((bytes_eq-Decides w w).1 refl)

pub place-old : (ns : List (List ℕ)) (i a : ℕ) → i < 2 ^ 64 → a < 2 ^ 64 → (i ≡ a → ⊥) → place_of (ns ++ name i ∷ []) (name a) ≡ place_of ns (name a)
place-old ns i a p q ne = place_push ns (name i) (name a) ∙ ap (λ t. cond t (Some (length ns)) (place_of ns (name a))) (name-other i a p q ne)
