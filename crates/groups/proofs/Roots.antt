-- Roots in a list of parents: what they are, and that they are known by two facts. Assumes nothing.
use Rattle.std.proofs.Common.{◌≡◌, ℕ, zero, suc, ◌<◌, ◌≤◌, min, max, cond, eqb, ◌≢◌, ◌⊎◌, List, length, get_or, set, sym, refl, ap, ◌∙◌, inl, inr, arith, get_or-set_other, get_or-set_same}
use Rattle.std.proofs.lemmas.List.{get_or_read, get_or_past, set-get_or}
use Rattle.std.proofs.lemmas.Bool.{cases_eq, cases_lt, cases_order, eq-eqb, ne_eqb}
use Rattle.groups.specs.Roots.{parent, climb, root, Falls}
use Rattle.groups.specs.Names.{Alike, Joined}

-- what does not change along a parent does not change along a climb
climb-keeps : {X : Type 0} (f : ℕ → X) (ps : List ℕ) → ((i : ℕ) → f (parent ps i) ≡ f i) → (n i : ℕ) → f (climb n ps i) ≡ f i
unfolding climb
climb-keeps f ps h zero i = refl
climb-keeps f ps h (suc n) i = climb-keeps f ps h n (parent ps i) ∙ h i

climb-stays : (ps : List ℕ) (n i : ℕ) → parent ps i ≡ i → climb n ps i ≡ i
unfolding climb
climb-stays ps zero i e = refl
climb-stays ps (suc n) i e = ap (climb n ps) e ∙ climb-stays ps n i e

module _ (ps : List ℕ) (down : Falls ps) where
  at_zero : (i : ℕ) → i ≤ 0 → parent ps i ≡ i
  at_zero i h = omega (arith, down i)

  -- enough steps end at a root
  climb-ends : (n i : ℕ) → i ≤ n → parent ps (climb n ps i) ≡ climb n ps i
  unfolding climb
  climb-ends zero i h = at_zero i h
  climb-ends (suc n) i h =
      elim (cases_eq (parent ps i) i) [
        | inl e ↦ rw (e, climb-stays ps n i e) e
        | inr ne ↦ climb-ends n (parent ps i) (omega (arith, down i))
      ]

  -- and more steps than enough end at the same
  climb-same : (n m i : ℕ) → i ≤ n → i ≤ m → climb n ps i ≡ climb m ps i
  unfolding climb
  climb-same zero m i h k = sym (climb-stays ps m i (at_zero i h))
  climb-same (suc n) zero i h k = climb-stays ps (suc n) i (at_zero i k)
  climb-same (suc n) (suc m) i h k =
      elim (cases_eq (parent ps i) i) [
        | inl e ↦ rw e (climb-stays ps n i e ∙ sym (climb-stays ps m i e))
        | inr ne ↦ climb-same n m (parent ps i) (omega (arith, down i)) (omega (arith, down i))
      ]

  -- the root is a root
  pub root_ends : (i : ℕ) → parent ps (root ps i) ≡ root ps i
  unfolding root
  root_ends i = climb-ends i i (omega arith)

  climb-low : (n i : ℕ) → climb n ps i ≤ i
  unfolding climb
  climb-low zero i = omega arith
  climb-low (suc n) i = omega (arith, down i, climb-low n (parent ps i))

  pub root-low : (i : ℕ) → root ps i ≤ i
  unfolding root
  root-low i = climb-low i i

  -- a parent has the root of its child
  pub root-up : (i : ℕ) → root ps (parent ps i) ≡ root ps i
  unfolding root climb
  root-up zero = ap (λ k. climb k ps k) (at_zero zero (omega arith))
  root-up (suc i) =
      elim (cases_eq (parent ps (suc i)) (suc i)) [
        | inl e ↦ ap (λ k. climb k ps k) e
        | inr ne ↦ climb-same (parent ps (suc i)) i (parent ps (suc i)) (omega arith) (omega (arith, down (suc i)))
      ]

pub root-at : (ps : List ℕ) (i : ℕ) → parent ps i ≡ i → root ps i ≡ i
unfolding root
root-at ps i e = climb-stays ps i i e

-- the root is known by two facts: it does not change along a parent, and a root is its own
pub root_is :
    (ps : List ℕ) → Falls ps → (f : ℕ → ℕ) → ((i : ℕ) → f (parent ps i) ≡ f i) → ((i : ℕ) → parent ps i ≡ i → f i ≡ i) →
    (i : ℕ) → root ps i ≡ f i
unfolding root
root_is ps down f keeps own i = sym (own (climb i ps i) (climb-ends ps down i i (omega arith))) ∙ climb-keeps f ps keeps i i

-- a list with one parent changed
module _ (ps : List ℕ) (down : Falls ps) (r s : ℕ) (here : r < length ps) (lower : s ≤ r) where
  pub set-falls : Falls (set ps r s)
  set-falls i =
      elim (cases_eq i r) [
        | inl e ↦ rw (e, get_or-set_same) lower
        | inr ne ↦ rw (get_or-set_other ps r i s i ne) (down i)
      ]

  -- a fact of each item and its parent, where the changed one is known
  at_set : (P : ℕ → ℕ → Type 0) → P r s → ((i : ℕ) → i ≢ r → P i (parent ps i)) → (i : ℕ) → P i (parent (set ps r s) i)
  at_set P same other i =
      elim (cases_eq i r) [
        | inl e ↦ rw (e, get_or-set_same) same
        | inr ne ↦ rw (get_or-set_other ps r i s i ne) (other i ne)
      ]

  -- a shorter way to the same root changes no root
  pub set-alike : root ps s ≡ root ps r → (s ≡ r → parent ps r ≡ r) → Alike (root ps) (root (set ps r s))
  set-alike way own = record {
    alike = root_is (set ps r s) set-falls (root ps)
        (at_set (λ i p. root ps p ≡ root ps i) way (λ i ne. root-up ps down i))
        (at_set (λ i p. p ≡ i → root ps i ≡ i) (λ e. root-at ps r (own e)) (λ i ne. root-at ps i));
  }

-- what r was called is now called s
abbrev merged : ℕ → ℕ → ℕ → ℕ
merged r s x = cond (eqb x r) s x

merged-at : (r s : ℕ) → merged r s r ≡ s
merged-at r s = rw (eq-eqb r r refl)

merged-other : (r s x : ℕ) → x ≢ r → merged r s x ≡ x
merged-other r s x ne = rw (ne_eqb x r ne)

-- a root below another: its group takes the name of the other's
module _ (ps : List ℕ) (down : Falls ps) (r s : ℕ) (here : r < length ps) (lower : s < r) (top : parent ps r ≡ r) (low : parent ps s ≡ s) where
  roots-merge : (i : ℕ) → root (set ps r s) i ≡ merged r s (root ps i)
  roots-merge =
      root_is (set ps r s) (set-falls ps down r s here (omega arith)) (λ i. merged r s (root ps i))
      (at_set ps down r s here (omega arith) (λ i p. merged r s (root ps p) ≡ merged r s (root ps i))
      (rw (root-at ps r top, root-at ps s low) (merged-other r s s (omega arith) ∙ sym (merged-at r s)))
      (λ i ne. ap (merged r s) (root-up ps down i)))
      (at_set ps down r s here (omega arith) (λ i p. p ≡ i → merged r s (root ps i) ≡ i)
      (λ e. absurd (omega (arith, e, lower)))
      (λ i ne e. rw (root-at ps i e) (merged-other r s i ne)))

-- two names made one
module _ (r s : ℕ) where
  merged-cases : (x : ℕ) → ((x ≡ r) × (merged r s x ≡ s)) ⊎ ((x ≢ r) × (merged r s x ≡ x))
  merged-cases x = elim (cases_eq x r) [ inl e ↦ inl (e, ap (merged r s) e ∙ merged-at r s) | inr ne ↦ inr (ne, merged-other r s x ne) ]

  merged-only : (x y : ℕ) → merged r s x ≡ merged r s y → (x ≡ y) ⊎ (((x ≡ r) × (y ≡ s)) ⊎ ((x ≡ s) × (y ≡ r)))
  merged-only x y e =
      elim (merged-cases x) [
        | inl p ↦ elim (merged-cases y) [
          | inl q ↦ inl (p.0 ∙ sym q.0)
          | inr q ↦ inr (inl (p.0, sym q.1 ∙ (sym e ∙ p.1)))
        ]
        | inr p ↦ elim (merged-cases y) [
          | inl q ↦ inr (inr (sym p.1 ∙ (e ∙ q.1), q.0))
          | inr q ↦ inl (sym p.1 ∙ (e ∙ q.1))
        ]
      ]

pub joined-from :
    (f g : ℕ → ℕ) (i j : ℕ) → ((a : ℕ) → g a ≡ merged (f i) (f j) (f a)) → Joined f g i j
joined-from f g i j h = record {
  keeps = λ a b e. h a ∙ (ap (merged (f i) (f j)) e ∙ sym (h b));
  joins = elim (cases_eq (f j) (f i)) [
    | inl e ↦ h i ∙ (ap (merged (f i) (f j)) (sym e) ∙ sym (h j))
    | inr ne ↦ h i ∙ (merged-at (f i) (f j) ∙ (sym (merged-other (f i) (f j) (f j) ne) ∙ sym (h j)))
  ];
  only = λ a b e. merged-only (f i) (f j) (f a) (f b) (sym (h a) ∙ (e ∙ h b));
}

pub joined_back : (f g : ℕ → ℕ) (i j : ℕ) → Joined f g i j → Joined f g j i
joined_back f g i j h = record {
  keeps = h.keeps;
  joins = sym h.joins;
  only = λ a b e. elim (h.only a b e) [ inl p ↦ inl p | inr p ↦ elim p [ inl q ↦ inr (inr q) | inr q ↦ inr (inl q) ] ];
}

pub alike-on : (f g h : ℕ → ℕ) → Alike f g → Alike g h → Alike f h
alike-on f g h p q = record { alike = λ a. q.alike a ∙ p.alike a }

-- what a read of the list at i gives is the parent of i
pub read-parent : (ps : List ℕ) (i x : ℕ) → i < length ps → x ≡ get_or ps i x → x ≡ parent ps i
read-parent ps i x h e = get_or_read ps i x h e i

-- each item its own parent
pub all_own : (ps : List ℕ) → ((k : ℕ) → k < length ps → get_or ps k k ≡ k) → (i : ℕ) → parent ps i ≡ i
all_own ps h i = elim (cases_lt i (length ps)) [ inl l ↦ h i l | inr g ↦ get_or_past ps i i g ]

-- one step of a search for a root, by what is read: the way from `at` is halved
module _ (ps : List ℕ) (down : Falls ps) (at up next : ℕ) (here : at < length ps) (one : up ≡ get_or ps at up) (two : next ≡ get_or ps up next) where
  pub half_up : up ≡ parent ps at
  half_up = read-parent ps at up here one

  half-next : next ≡ parent ps up
  half-next = read-parent ps up next (omega (arith, half_up, down at)) two

  pub half-low : next ≤ at
  half-low = omega (arith, half_up, half-next, down at, down up)

  pub half-less : (up ≡ at → ⊥) → next < at
  half-less ne = omega (arith, half_up, half-next, down at, down up)

  pub half-falls : Falls (set ps at next)
  half-falls = set-falls ps down at next here half-low

  pub half-same : root ps next ≡ root ps at
  half-same = ap (root ps) half-next ∙ (root-up ps down up ∙ (ap (root ps) half_up ∙ root-up ps down at))

  pub half-alike : Alike (root ps) (root (set ps at next))
  half-alike = set-alike ps down at next here half-low half-same (λ e. omega (arith, half_up, half-next, down at, down up))

-- the same roots, and i and j had one
pub joined-alike : (ps rs : List ℕ) (i j : ℕ) → Alike (root ps) (root rs) → root ps i ≡ root ps j → Joined (root ps) (root rs) i j
joined-alike ps rs i j same e = record {
  keeps = λ a b h. same.alike a ∙ (h ∙ sym (same.alike b));
  joins = same.alike i ∙ (e ∙ sym (same.alike j));
  only = λ a b h. inl (sym (same.alike a) ∙ (h ∙ same.alike b));
}

-- the later root below the earlier
module _ (ps rs : List ℕ) (down : Falls rs) (same : Alike (root ps) (root rs)) (i j a b : ℕ) (one : a ≡ root ps i) (two : b ≡ root ps j) where
  own : (k r : ℕ) → r ≡ root ps k → parent rs r ≡ r
  own k r e = let h : r ≡ root rs k = e ∙ sym (same.alike k) in rw h (root_ends rs down k)

  below : a < b → b < length rs → Joined (root ps) (root (set rs b a)) i j
  below less here = joined_back (root ps) (root (set rs b a)) j i (joined-from (root ps) (root (set rs b a)) j i
      (λ x. roots-merge rs down b a here less (own j b two) (own i a one) x ∙ rw (same.alike x, two, one)))

  above : b < a → a < length rs → Joined (root ps) (root (set rs a b)) i j
  above less here = joined-from (root ps) (root (set rs a b)) i j
      (λ x. roots-merge rs down a b here less (own i a one) (own j b two) x ∙ rw (same.alike x, two, one))

  pub joined-link : a < length rs → b < length rs → Joined (root ps) (root (set rs (max a b) (min a b))) i j
  joined-link ha hb =
      elim (cases_order a b) [
        | inl e ↦ let m : max a b ≡ a = omega arith in
            let n : min a b ≡ get_or rs a a = omega (arith, own i a one) in
            rw (m, n, set-get_or rs a a) (joined-alike ps rs i j same (sym one ∙ (e ∙ two)))
        | inr o ↦ elim o [
          | inl l ↦ let m : max a b ≡ b = omega arith in let n : min a b ≡ a = omega arith in rw (m, n) (below l hb)
          | inr g ↦ let m : max a b ≡ a = omega arith in let n : min a b ≡ b = omega arith in rw (m, n) (above g ha)
        ]
      ]

pub link_falls : (rs : List ℕ) → Falls rs → (a b : ℕ) → max a b < length rs → Falls (set rs (max a b) (min a b))
link_falls rs down a b here = set-falls rs down (max a b) (min a b) here (omega arith)
