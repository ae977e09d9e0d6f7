-- A loop that adds copies of the end of a list. Assumes nothing.
use Rattle.std.proofs.Common.{◌≡◌, ℕ, ◌+◌, ◌*◌, ◌<◌, ◌≤◌, List, [], ◌∷◌, ◌++◌, map, length, get_or, take, drop, sym, refl, ap, ◌∙◌, add-zero, zero-mul, add-one, arith}
use Rattle.std.proofs.lemmas.List.{take_at, drop_at, take_all, take-append-drop, take-append-le, append_assoc, length-take, get_or-take}
use Rattle.std.proofs.lemmas.Slice.{between_is}
use Rattle.std.specs.List.{slice_range}
use Rattle.layout.specs.Rects.{move_rect, copies}
use Rattle.layout.specs.declared.rect.Rect.{Rect}

pub move_none : (qs : List Rect) → map (move_rect 0 0) qs ≡ qs
move_none [] = refl
move_none (q ∷ qs) = simp add-zero (ap (λ ps. q ∷ ps) (move_none qs))

pub copies-one : (r b : ℕ) (qs : List Rect) → copies 1 r b qs ≡ qs
unfolding copies
copies-one r b qs = ap (λ z. map (move_rect z (0 * b)) qs) (zero-mul r) ∙ ap (λ z. map (move_rect 0 z) qs) (zero-mul b) ∙ move_none qs

module _ (items : List Rect) (s n r b : ℕ) (long : n ≡ length items) where
  abbrev pub Copied : ℕ → List Rect → Type 0
  Copied k ys = (take n ys ≡ items) × (ys ≡ take s items ++ copies k r b (drop s items))

  pub copied_none : Copied 1 items
  copied_none = (take_all n items (omega arith), sym (ap (λ qs. take s items ++ qs) (copies-one r b (drop s items)) ∙ take-append-drop s items))

  pub copied-long : (k : ℕ) (ys : List Rect) → Copied k ys → n ≤ length ys
  copied-long k ys c = omega (arith, sym (length-take n ys) ∙ ap length c.0)

  pub copied-same : (k : ℕ) (ys : List Rect) → Copied k ys → (i : ℕ) (d : Rect) → i < n → get_or ys i d ≡ get_or items i d
  copied-same k ys c i d h = sym (get_or-take n ys i d h) ∙ ap (λ zs. get_or zs i d) c.0

  pub copied-part : (k : ℕ) (ys : List Rect) → Copied k ys → slice_range ys s n ≡ drop s items
  copied-part k ys c = between_is ys s n ∙ ap (drop s) c.0

  -- the copied boxes stand at the end, where they are moved
  pub copied-again : (k at : ℕ) (ys xs zs : List Rect) → Copied k ys → at ≡ length ys → xs ≡ ys ++ slice_range ys s n → zs ≡ take at xs ++ map (move_rect (k * r) (k * b)) (drop at xs) → Copied (k + 1) zs
  unfolding copies
  copied-again k at ys xs zs c h e w =
      let part = copied-part k ys c in
      let front : take at xs ≡ ys = ap (take at) e ∙ take_at ys (slice_range ys s n) at (sym h) in
      let back : drop at xs ≡ drop s items = ap (drop at) e ∙ drop_at ys (slice_range ys s n) at (sym h) ∙ part in
      let is : zs ≡ ys ++ map (move_rect (k * r) (k * b)) (drop s items) = w ∙ ap (λ us. us ++ map (move_rect (k * r) (k * b)) (drop at xs)) front ∙ ap (λ us. ys ++ map (move_rect (k * r) (k * b)) us) back in (
        ap (take n) is ∙ take-append-le n ys _ (copied-long k ys c) ∙ c.0,
        is ∙ ap (λ us. us ++ map (move_rect (k * r) (k * b)) (drop s items)) c.1 ∙ append_assoc (take s items) (copies k r b (drop s items)) (map (move_rect (k * r) (k * b)) (drop s items))
            ∙ ap (λ m. take s items ++ copies m r b (drop s items)) (sym (add-one k)),
      )
