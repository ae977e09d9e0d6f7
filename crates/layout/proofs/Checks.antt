-- When a layout is turned away, and when it is not. Assumes nothing.
use Rattle.std.proofs.Common.{◌≡◌, ℕ, zero, suc, ◌+◌, ◌-◌, ◌*◌, ◌%◌, ◌<◌, ◌≤◌, Bool, true, false, ◌&&◌, eqb, leb, List, [], ◌∷◌, length, get_or, Some, None, Option, sym, refl, ap, ◌∙◌, inl, inr, arith}
use Rattle.std.proofs.lemmas.Bool.{and_parts, and_from, and_left, and_right, cases_Bool, both_ways, leb-true, eqb-true, le-leb, lt-leb, eq-eqb}
use Rattle.std.specs.List.{AllWithin, HoldsAt}
use Rattle.std.specs.Option.{MatchOption}
use Rattle.layout.specs.Checks.{FirstAbove, FirstLate}
use Rattle.layout.specs.Limits.{max_boxes, max_nodes, max_number}
use Rattle.layout.specs.Layout.{pick, nothing, drawn}
use Rattle.layout.specs.Numbers.{node_at, sixes, all_at_most, earlier, boxes, few_boxes, layout_refusal, layout_in}
use Rattle.layout.specs.Nodes.{orderly}
use Rattle.layout.specs.Pieces.{piece, Sound}
use Rattle.layout.specs.Rects.{covered, rects}
use Rattle.layout.proofs.Rects.{rects-draw}
use Rattle.layout.proofs.Reading.{at_most}
use Rattle.layout.proofs.Pieces.{earlier-at, settle}

pub all_from : (m : ℕ) (xs : List ℕ) → ((k : ℕ) → k < length xs → get_or xs k 0 ≤ m) → all_at_most m xs ≡ true
unfolding all_at_most
all_from m [] h = refl
all_from m (x ∷ xs) h = and_from _ _ (le-leb x m (h 0 (omega arith))) (all_from m xs (λ k l. h (suc k) (omega arith)))

-- what the first number above a limit says of all of them
pub first_large : (m : ℕ) (xs : List ℕ) (r : Option ℕ) → MatchOption r (AllWithin (λ x. x ≤ m) xs 0 (length xs)) (λ i. (i < length xs) × HoldsAt (λ x. m < x) xs i × AllWithin (λ x. x ≤ m) xs 0 i) → MatchOption r (all_at_most m xs ≡ true) (FirstAbove m xs)
first_large m xs None h = all_from m xs (λ k l. h k 0 (omega arith) l)
first_large m xs (Some i) h = (h.0, h.1 0, λ k l. h.2 k 0 (omega arith) l)

pub all_not : (m : ℕ) (xs : List ℕ) (p : ℕ) → m < get_or xs p 0 → all_at_most m xs ≡ false
all_not m xs p h = elim (cases_Bool (all_at_most m xs)) [ inl e ↦ absurd (omega (arith, at_most m xs e p)) | inr e ↦ e ]

pub earlier-from : (xs : List ℕ) (m : ℕ) → ((k : ℕ) → k < m → orderly xs k ≡ true) → earlier xs m ≡ true
unfolding earlier orderly
earlier-from xs zero h = refl
earlier-from xs (suc m) h = and_from _ _ (h m (omega arith)) (earlier-from xs m (λ k l. h k (omega arith)))

-- what the first node out of order says of all of them
pub first_disorderly : (xs : List ℕ) (a b : ℕ) → (a ≡ 0) × (b ≡ sixes xs) → (r : Option ℕ) → MatchOption r ((k : ℕ) → a ≤ k → k < b → orderly xs k ≡ true) (λ i. (a ≤ i) × (i < b) × (orderly xs i ≡ false) × ((k : ℕ) → a ≤ k → k < i → orderly xs k ≡ true)) → MatchOption r (earlier xs (sixes xs) ≡ true) (FirstLate xs)
first_disorderly xs a b e None h = earlier-from xs (sixes xs) (λ k l. h k (omega arith) (omega arith))
first_disorderly xs a b e (Some i) h = (omega arith, h.2, λ k l. h.3 k (omega arith) l)

pub earlier-not : (xs : List ℕ) (m p : ℕ) → p < m → orderly xs p ≡ false → earlier xs m ≡ false
earlier-not xs m p h o = elim (cases_Bool (earlier xs m)) [ inl e ↦ absurd (both_ways _ o (earlier-at xs m p h e)) | inr e ↦ e ]

pub sixes-near : (xs : List ℕ) → (6 * sixes xs ≤ length xs) × (length xs < 6 * sixes xs + 6)
unfolding sixes
sixes-near [] = (omega arith, omega arith)
sixes-near (a ∷ []) = (omega arith, omega arith)
sixes-near (a ∷ (b ∷ [])) = (omega arith, omega arith)
sixes-near (a ∷ (b ∷ (c ∷ []))) = (omega arith, omega arith)
sixes-near (a ∷ (b ∷ (c ∷ (d ∷ [])))) = (omega arith, omega arith)
sixes-near (a ∷ (b ∷ (c ∷ (d ∷ (e ∷ []))))) = (omega arith, omega arith)
sixes-near (a ∷ (b ∷ (c ∷ (d ∷ (e ∷ (f ∷ xs)))))) = let h = sixes-near xs in (omega arith, omega arith)

pub refused_1 : (xs : List ℕ) → (length xs ≡ 6 * sixes xs → 0 < sixes xs → sixes xs ≤ max_nodes → ⊥) → layout_refusal xs ≡ 1
unfolding layout_refusal
refused_1 xs h = elim (cases_Bool (eqb (length xs) (6 * sixes xs) && (leb 1 (sixes xs) && leb (sixes xs) max_nodes))) [
  | inl e ↦ let p = and_parts _ _ e in let q = and_parts _ _ p.1 in absurd (h (eqb-true _ _ p.0) (leb-true _ _ q.0) (leb-true _ _ q.1))
  | inr e ↦ rw e
]

module _ (xs : List ℕ) (whole : length xs ≡ 6 * sixes xs) (some : 0 < sixes xs) (few : sixes xs ≤ max_nodes) where
  pub past-1 : layout_refusal xs ≡ pick (all_at_most max_number xs && earlier xs (sixes xs)) (pick (few_boxes xs) 0 3) 2
  unfolding layout_refusal
  past-1 =
      let e : (eqb (length xs) (6 * sixes xs) && (leb 1 (sixes xs) && leb (sixes xs) max_nodes)) ≡ true = and_from _ _ (eq-eqb _ _ whole) (and_from _ _ (le-leb _ _ some) (le-leb _ _ few)) in
      rw e

  pub refused-2 : (all_at_most max_number xs && earlier xs (sixes xs)) ≡ false → layout_refusal xs ≡ 2
  refused-2 e = past-1 ∙ rw e

  pub refused-2a : (p : ℕ) → max_number < get_or xs p 0 → layout_refusal xs ≡ 2
  refused-2a p h = refused-2 (and_left _ _ (all_not max_number xs p h))

  pub refused-2b : (p : ℕ) → p < sixes xs → orderly xs p ≡ false → layout_refusal xs ≡ 2
  refused-2b p l h = refused-2 (and_right _ _ (earlier-not xs (sixes xs) p l h))

  pub past-2 : all_at_most max_number xs ≡ true → earlier xs (sixes xs) ≡ true → layout_refusal xs ≡ pick (few_boxes xs) 0 3
  past-2 p q = let e : (all_at_most max_number xs && earlier xs (sixes xs)) ≡ true = and_from _ _ p q in past-1 ∙ rw e

module _ (xs : List ℕ) (sound : Sound xs) (p : ℕ) (last : p + 1 ≡ sixes xs) where
  pub last-piece : node_at xs (sixes xs) (sixes xs - 1) ≡ piece xs p
  last-piece = let e : sixes xs - 1 ≡ p = omega arith in ap (node_at xs (sixes xs)) e ∙ settle xs sound (sixes xs) p (omega arith) (omega arith)

  pub refused-3 : max_boxes < boxes (λ k. 0) (piece xs p) → layout_refusal xs ≡ 3
  unfolding few_boxes
  refused-3 h =
      let e : few_boxes xs ≡ false = lt-leb _ _ (omega (arith, ap (boxes (λ k. 0)) last-piece)) in
      past-2 xs sound.whole sound.some sound.few sound.small sound.names ∙ rw e

  pub refused-0 : boxes (λ k. 0) (piece xs p) ≤ max_boxes → layout_refusal xs ≡ 0
  unfolding few_boxes
  refused-0 h =
      let e : few_boxes xs ≡ true = le-leb _ _ (omega (arith, ap (boxes (λ k. 0)) last-piece)) in
      past-2 xs sound.whole sound.some sound.few sound.small sound.names ∙ rw e

  pub draws : (l x y : ℕ) → covered (rects (piece xs p)) l x y ≡ layout_in xs l x y
  unfolding layout_in drawn
  draws l x y = rects-draw (piece xs p) l x y ∙ ap (λ a. drawn (λ k. nothing) 0 a l x y) (sym last-piece)

-- what is not turned away is sound, and has few boxes
pub sound_of : (xs : List ℕ) → layout_refusal xs ≡ 0 → Sound xs × (few_boxes xs ≡ true)
unfolding layout_refusal
sound_of xs h =
    let s = eqb (length xs) (6 * sixes xs) && (leb 1 (sixes xs) && leb (sixes xs) max_nodes) in
    let t = all_at_most max_number xs && earlier xs (sixes xs) in
    let e : s ≡ true = pick_first s _ _ h in
    let f : t ≡ true = pick_first t _ _ (rw e at h) in
    let p = and_parts _ _ e in let q = and_parts _ _ p.1 in let r = and_parts _ _ f in
    let g : few_boxes xs ≡ true = pick_first (few_boxes xs) 0 2 (sym (past-2 xs (eqb-true _ _ p.0) (leb-true _ _ q.0) (leb-true _ _ q.1) r.0 r.1) ∙ h) in
    (record { whole = eqb-true _ _ p.0; some = leb-true _ _ q.0; few = leb-true _ _ q.1; small = r.0; names = r.1 }, g)
  where
    pick_first : (b : Bool) (x y : ℕ) → pick b x (suc y) ≡ 0 → b ≡ true
    pick_first true x y h = refl
    pick_first false x y h = absurd (omega arith)

pub few-of : (xs : List ℕ) (sound : Sound xs) (p : ℕ) → p + 1 ≡ sixes xs → few_boxes xs ≡ true → boxes (λ k. 0) (piece xs p) ≤ max_boxes
unfolding few_boxes
few-of xs sound p last e = omega (arith, leb-true _ _ e, ap (boxes (λ k. 0)) (last-piece xs sound p last))

-- what the length says
pub shaped : (xs : List ℕ) → (length xs ≡ 0 → ⊥) → length xs ≤ 6 * max_nodes → length xs % 6 ≡ 0 → (length xs ≡ 6 * sixes xs) × (0 < sixes xs) × (sixes xs ≤ max_nodes)
shaped xs a b c = let h = sixes-near xs in (omega arith, omega arith, omega arith)

pub sound_from : (xs : List ℕ) → (length xs ≡ 0 → ⊥) → length xs ≤ 6 * max_nodes → length xs % 6 ≡ 0 → all_at_most max_number xs ≡ true → earlier xs (sixes xs) ≡ true → Sound xs
sound_from xs a b c d e = let s = shaped xs a b c in record { whole = s.0; some = s.1; few = s.2; small = d; names = e }
