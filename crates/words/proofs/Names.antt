-- A name added to others, and to the map of their numbers. Assumes nothing.
use Rattle.std.proofs.Common.{◌≡◌, ℕ, zero, suc, ◌+◌, ◌<◌, ◌≤◌, Bool, cond, List, [], ◌∷◌, ◌++◌, map, length, get_or, Some, Vec, vec_items, sym, refl, ap, ◌∙◌, subst, inl, inr, arith}
use Rattle.std.proofs.lemmas.List.{get_or_append_left, get_or_push, length-map, length_push, map_push}
use Rattle.std.proofs.lemmas.Bool.{cases_Bool, cond-true, cond-false}
use Rattle.std.proofs.lemmas.Slice.Eq.{bytes_eq-Decides}
use Rattle.std.specs.Bool.{nat_eq}
use Rattle.std.specs.Cmp.Lexicographic.{pointwise, nat_list_eq_equiv}
use Rattle.std.specs.HashMap.{UpdatesBy}
use Rattle.std.specs.Map.{KeepsOthers, keys_of}
use Rattle.std.specs.List.{AllByRecursion, position_or_len}
use Rattle.std.proofs.ByRecursion.{All-push}
use Rattle.indexmap.specs.IndexMap.{IndexMap, keys, get_by, insert_entry}
use Rattle.std.specs.Str.{bytes_eq}
use Rattle.std.specs.declared.alloc.Global.{Global}
use Rattle.words.specs.Places.{place_below, place_of, spelled, spelled_at, Placed}

module _ (ns : List (List ℕ)) (name w : List ℕ) where
  place_below-push : (k : ℕ) → k ≤ length ns → place_below (ns ++ name ∷ []) w k ≡ place_below ns w k
  unfolding place_below
  place_below-push zero h = refl
  place_below-push (suc k) h =
      ap (λ n. cond (bytes_eq n w) (Some k) (place_below (ns ++ name ∷ []) w k)) (get_or_append_left ns (name ∷ []) [] k (omega arith))
      ∙ ap (λ o. cond (bytes_eq (get_or ns k []) w) (Some k) o) (place_below-push k (omega arith))

  -- a name more is the last that is spelled so
  pub place_of-push : place_of (ns ++ name ∷ []) w ≡ cond (bytes_eq name w) (Some (length ns)) (place_of ns w)
  unfolding place_below
  place_of-push =
      let one : length (ns ++ name ∷ []) ≡ suc (length ns) = omega (arith, length_push ns name) in
      ap (place_below (ns ++ name ∷ []) w) one
      ∙ ap (λ n. cond (bytes_eq n w) (Some (length ns)) (place_below (ns ++ name ∷ []) w (length ns))) (get_or_push ns name [] (length ns) refl)
      ∙ ap (λ o. cond (bytes_eq name w) (Some (length ns)) o) (place_below-push (length ns) (omega arith))

-- two names are one key where they are spelled alike
abbrev alike : Vec ℕ Global → Vec ℕ Global → Bool
alike x y = pointwise nat_eq (vec_items x) (vec_items y)

abbrev spelling : List (Vec ℕ Global × ℕ) → List (List ℕ)
spelling es = map vec_items (keys_of es)

-- a table after a key is put in: what stood there stands where it stood, and the key at its place
module _ (key : Vec ℕ Global) (n : ℕ) where
  kept : (es : List (Vec ℕ Global × ℕ)) (i : ℕ) → i < length es → spelled_at (spelling (insert_entry alike es key n)) i ≡ spelled_at (spelling es) i
  kept [] i h = absurd (omega arith)
  kept (e ∷ es) zero h = elim (cases_Bool (alike key e.0)) [ inl t ↦ rw t refl | inr t ↦ rw t refl ]
  kept (e ∷ es) (suc i) h = elim (cases_Bool (alike key e.0)) [ inl t ↦ rw t refl | inr t ↦ rw t (kept es i (omega arith)) ]

  there : (es : List (Vec ℕ Global × ℕ)) → spelled_at (spelling (insert_entry alike es key n)) (position_or_len (alike key) (keys_of es)) ≡ vec_items key
  there [] = refl
  there (e ∷ es) = elim (cases_Bool (alike key e.0)) [
    | inl t ↦ rw t (sym ((bytes_eq-Decides (vec_items key) (vec_items e.0)).0 t))
    | inr t ↦
        let at = position_or_len (alike key) (keys_of es) in
        let z : 1 + at ≡ suc at = omega arith in
        rw t (ap (λ i. spelled_at (spelling (e ∷ insert_entry alike es key n)) i) z ∙ there es)
  ]

  longer : (es : List (Vec ℕ Global × ℕ)) → length es ≤ length (spelling (insert_entry alike es key n))
  longer [] = omega arith
  longer (e ∷ es) = elim (cases_Bool (alike key e.0)) [
    | inl t ↦ rw t (omega (arith, length-map (keys_of es) vec_items, length-map es (λ e. e.0)))
    | inr t ↦ rw t (omega (arith, longer es))
  ]

module _ (ks ls : List (List ℕ)) (far : length ks ≤ length ls) (same : (i : ℕ) → i < length ks → spelled_at ls i ≡ spelled_at ks i) where
  same-names : (ps : List ℕ) → AllByRecursion (λ p. p < length ks) ps → map (spelled_at ls) ps ≡ map (spelled_at ks) ps
  same-names [] h = refl
  same-names (p ∷ ps) h = ap (λ n. n ∷ map (spelled_at ls) ps) (same p h.0) ∙ ap (λ ns. spelled_at ks p ∷ ns) (same-names ps h.1)

  still-within : (ps : List ℕ) → AllByRecursion (λ p. p < length ks) ps → AllByRecursion (λ p. p < length ls) ps
  still-within [] h = tt
  still-within (p ∷ ps) h = (omega (arith, far, h.0), still-within ps h.1)

module _ {S : Type 0} (ps : List ℕ) (old new : IndexMap (Vec ℕ Global) ℕ S) (key : Vec ℕ Global) (n p : ℕ) (here : Placed ps old) (entries : new.entries ≡ insert_entry alike old.entries key n) (index : p ≡ position_or_len (alike key) (keys old)) where
  table : spelled new ≡ spelling (insert_entry alike old.entries key n)
  table = ap spelling entries

  far : length (spelled old) ≤ length (spelled new)
  far = omega (arith, longer key n old.entries, ap length table, length-map (keys old) vec_items, length-map old.entries (λ e. e.0))

  stay : (i : ℕ) → i < length (spelled old) → spelled_at (spelled new) i ≡ spelled_at (spelled old) i
  stay i h = ap (λ ns. spelled_at ns i) table ∙ kept key n old.entries i (omega (arith, h, length-map (keys old) vec_items, length-map old.entries (λ e. e.0)))

  -- the names after one more is added
  pub names-push : map (spelled_at (spelled new)) (ps ++ p ∷ []) ≡ map (spelled_at (spelled old)) ps ++ vec_items key ∷ []
  names-push =
      map_push (spelled_at (spelled new)) ps p
      ∙ ap (λ ns. ns ++ spelled_at (spelled new) p ∷ []) (same-names (spelled old) (spelled new) far stay ps here.0)
      ∙ ap (λ w. map (spelled_at (spelled old)) ps ++ w ∷ []) (ap (λ ns. spelled_at ns p) table ∙ ap (λ i. spelled_at (spelling (insert_entry alike old.entries key n)) i) index ∙ there key n old.entries)

  -- what an `insert` leaves at the key's own bytes, and at others
  looked-up : UpdatesBy alike (alike key) old new (Some n) → (w : List ℕ) → get_by (λ k. bytes_eq w (vec_items k)) new ≡ cond (bytes_eq (vec_items key) w) (Some n) (get_by (λ k. bytes_eq w (vec_items k)) old)
  unfolding KeepsOthers
  looked-up h w = elim (cases_Bool (bytes_eq (vec_items key) w)) [
    | inl y ↦ subst (λ (l : List ℕ). get_by (λ k. bytes_eq l (vec_items k)) new ≡ Some n) ((bytes_eq-Decides (vec_items key) w).0 y) h.1 ∙ sym (cond-true (bytes_eq (vec_items key) w) (Some n) (get_by (λ k. bytes_eq w (vec_items k)) old) y)
    | inr y ↦
        h.3 (λ k. bytes_eq w (vec_items k)) (λ x y. nat_list_eq_equiv.congr w (vec_items x) (vec_items y))
        (λ k t. nat_list_eq_equiv.symm w (vec_items k) ∙ sym (nat_list_eq_equiv.congr (vec_items key) (vec_items k) w t) ∙ y)
        ∙ sym (cond-false (bytes_eq (vec_items key) w) (Some n) (get_by (λ k. bytes_eq w (vec_items k)) old) y)
  ]

  pub placed-push : n ≡ length ps → p < length (spelled new) → UpdatesBy alike (alike key) old new (Some n) → Placed (ps ++ p ∷ []) new
  placed-push e l h = (
    All-push (λ q. q < length (spelled new)) ps p (still-within (spelled old) (spelled new) far stay ps here.0) l,
    λ w.
        let ns = map (spelled_at (spelled old)) ps in
        looked-up h w
        ∙ ap (λ o. cond (bytes_eq (vec_items key) w) (Some n) o) (here.1 w)
        ∙ ap (λ m. cond (bytes_eq (vec_items key) w) (Some m) (place_of ns w)) (e ∙ sym (length-map ps (spelled_at (spelled old))))
        ∙ sym (place_of-push ns (vec_items key) w)
        ∙ ap (λ us. place_of us w) (sym names-push),
  )
