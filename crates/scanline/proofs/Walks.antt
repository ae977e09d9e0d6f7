-- A walk over a line's edges, and the complement. Assumes nothing.
use Rattle.std.proofs.Common.{◌≡◌, ℕ, zero, suc, ◌<◌, ◌≤◌, ◌%◌, Bool, true, false, not, eqb, leb, List, [], ◌∷◌, length, get_or, drop, sym, refl, ap, ◌∙◌, ⊎_elim, arith}
use Rattle.std.specs.List.Sorted.{IsPartitionPoint}
use Rattle.std.proofs.lemmas.Bool.{cases_eq, eq-eqb, ne_eqb, le-leb}
use Rattle.scanline.specs.Lines.{differ, inside, Sorted, toggled}
use Rattle.scanline.proofs.Merge.{From, rises-from, from-rises, from_less}

-- no later edge is less
at-least : (p : ℕ) (es : List ℕ) → From p es → (j d : ℕ) → j < length es → p ≤ get_or es j d
at-least p [] h j d l = absurd (omega arith)
at-least p (e ∷ es) h zero d l = h.0
at-least p (e ∷ es) h (suc j) d l = let k = at-least (suc e) es h.1 j d (omega arith) in omega (arith, h.0)

pub rising : (p : ℕ) (es : List ℕ) → From p es → (i j d : ℕ) → i ≤ j → j < length es → get_or es i d ≤ get_or es j d
rising p [] h i j d k l = absurd (omega arith)
rising p (e ∷ es) h zero zero d k l = omega arith
rising p (e ∷ es) h zero (suc j) d k l = let m = at-least (suc e) es h.1 j d (omega arith) in omega arith
rising p (e ∷ es) h (suc i) zero d k l = absurd (omega arith)
rising p (e ∷ es) h (suc i) (suc j) d k l = rising (suc e) es h.1 i j d (omega arith) (omega arith)

not_is : (a : Bool) → differ true a ≡ not a
not_is true = refl
not_is false = refl

odd_more : (n : ℕ) → eqb (suc n % 2) 1 ≡ not (eqb (n % 2) 1)
odd_more n = ⊎_elim (λ e. let f : suc n % 2 ≡ 0 = omega arith in rw (eq-eqb (n % 2) 1 e, f)) (λ e. let f : suc n % 2 ≡ 1 = omega arith in rw (ne_eqb (n % 2) 1 e, f)) (cases_eq (n % 2) 1)

-- an odd number of edges lie at or before x
pub odd_inside : (es : List ℕ) (x n : ℕ) → n ≤ length es → IsPartitionPoint (λ e. leb e x ≡ true) (λ e. leb e x ≡ false) es n → eqb (n % 2) 1 ≡ inside es x
odd_inside [] x n l h = let z : n ≡ 0 = omega arith in rw z
odd_inside (e ∷ es) x zero l h = sym (none (e ∷ es) (λ k m. h.1 k 0 (omega arith) m))
  where
    none : (es : List ℕ) → ((k : ℕ) → k < length es → leb (get_or es k 0) x ≡ false) → inside es x ≡ false
    none [] h = refl
    none (e ∷ es) h = rw (h 0 (omega arith), none es (λ k m. h (suc k) (omega arith)))
odd_inside (e ∷ es) x (suc n) l h =
    let rest = odd_inside es x n (omega arith) (λ k d m o. h.0 (suc k) d (omega arith) (omega arith), λ k d m o. h.1 (suc k) d (omega arith) (omega arith)) in
    odd_more n ∙ ap not rest ∙ sym (rw (h.0 0 0 (omega arith) (omega arith)) (not_is (inside es x)))

-- the complement
pub true_differ : (a : Bool) → differ true a ≡ not a
true_differ true = refl
true_differ false = refl

pub not-not : (a : Bool) → a ≡ not (not a)
not-not true = refl
not-not false = refl

pub toggled-inside : (es : List ℕ) (x : ℕ) → inside (toggled es) x ≡ not (inside es x)
toggled-inside [] x = rw (le-leb 0 x (omega arith))
toggled-inside (e ∷ es) x =
    ⊎_elim
    (λ s. rw (eq-eqb e 0 s, le-leb e x (omega arith), true_differ (inside es x)) (not-not (inside es x)))
    (λ n. rw (ne_eqb e 0 n, le-leb 0 x (omega arith)) (true_differ _))
    (cases_eq e 0)

pub toggled-sorted : (es : List ℕ) → Sorted es → Sorted (toggled es)
toggled-sorted es h = from-rises 0 (toggled es) (go es (rises-from 0 es h))
  where
    go : (es : List ℕ) → From 0 es → From 0 (toggled es)
    go [] h = (omega arith, tt)
    go (e ∷ es) h =
        ⊎_elim
        (λ s. rw (eq-eqb e 0 s) (from_less (suc e) 0 es h.1 (omega arith)))
        (λ n. rw (ne_eqb e 0 n) (omega arith, (omega arith, h.1)))
        (cases_eq e 0)

pub toggled-zero : (es : List ℕ) → 0 < length es → get_or es 0 0 ≡ 0 → drop 1 es ≡ toggled es
toggled-zero [] l s = absurd (omega arith)
toggled-zero (e ∷ es) l s = rw (eq-eqb e 0 s)
