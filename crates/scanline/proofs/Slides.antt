-- Lines moved to the right and to the left. Assumes nothing.
use Rattle.std.proofs.Common.{◌≡◌, ℕ, suc, ◌+◌, ◌-◌, ◌^◌, ◌<◌, ◌≤◌, Bool, true, false, ◌&&◌, eqb, leb, List, [], ◌∷◌, ◌++◌, length, get_or, take, drop, is_some, Some, None, Option, sym, refl, ap, ◌∙◌, inl, inr, ⊎_elim, arith, take-append-drop}
use Rattle.std.proofs.lemmas.List.{take_more, take_all, drop_more}
use Rattle.std.specs.List.{AllByRecursion}
use Rattle.std.proofs.ByRecursion.{All-get_or}
use Rattle.std.proofs.lemmas.Bool.{cases_lt, cases_order, le-leb, lt-leb, eqb-true, eqb-false, false≢true}
use Rattle.std.specs.Option.{option_to_list}
use Rattle.scanline.specs.Lines.{differ, inside, Sorted, MovedRight, MovedLeft, ends_in, Toggled}
use Rattle.scanline.proofs.Merge.{From, rises-from, from-rises, Between, between-from, between-push, between_more, inside-push, inside-before, differ-false}
use Rattle.scanline.proofs.Widens.{Below, still-below, inside-append}

-- an edge at a moved place
moved-edge : (e n x : ℕ) → n ≤ x → leb (e + n) x ≡ leb e (x - n)
moved-edge e n x l = ⊎_elim (λ k. lt-leb (e + n) x (omega arith) ∙ sym (lt-leb e (x - n) k)) (λ k. le-leb (e + n) x (omega arith) ∙ sym (le-leb e (x - n) k)) (cases_lt (x - n) e)

back-edge : (e n x : ℕ) → leb (e - n) x ≡ leb e (x + n)
back-edge e n x = ⊎_elim (λ k. lt-leb (e - n) x (omega arith) ∙ sym (lt-leb e (x + n) k)) (λ k. le-leb (e - n) x (omega arith) ∙ sym (le-leb e (x + n) k)) (cases_lt (x + n) e)

-- one edge more of those that are to be moved
next-inside : (es : List ℕ) (i x : ℕ) → i < length es → inside (take (i + 1) es) x ≡ differ (inside (take i es) x) (leb (get_or es i 0) x)
next-inside es i x l = ap (λ v. inside v x) (take_more es i 0 l) ∙ inside-push (take i es) (get_or es i 0) x

-- to the right: the first i edges are moved
pub record Righting (n : ℕ) (es out : List ℕ) (i : ℕ) : Type 0 where
  pub low : ℕ
  pub from : From low (drop i es)
  pub between : Between 0 (low + n) out
  pub is : (x : ℕ) → inside out x ≡ (leb n x && inside (take i es) (x - n))

pub right-none : (n : ℕ) (es : List ℕ) → Sorted es → Righting n es [] 0
right-none n es h = record { low = 0; from = rises-from 0 es h; between = omega arith; is = λ x. sym (nothing (leb n x)) }
  where
    nothing : (a : Bool) → (a && false) ≡ false
    nothing true = refl
    nothing false = refl

pub right-more : (n : ℕ) (es out : List ℕ) (i : ℕ) → i < length es → Righting n es out i → Righting n es (out ++ (get_or es i 0 + n) ∷ []) (i + 1)
right-more n es out i l h =
    let e = get_or es i 0 in
    let f : From h.low (e ∷ drop (i + 1) es) = rw (drop_more es i 0 l) at h.from in
    record {
      low = suc e;
      from = f.1;
      between = between_more 0 (suc (e + n)) (suc e + n) _ (between-push 0 (h.low + n) out (e + n) h.between (omega (arith, f.0))) (omega arith);
      is = λ x. inside-push out (e + n) x ∙ ⊎_elim
          (λ k. rw (h.is x, lt-leb n x k, lt-leb (e + n) x (omega arith)))
          (λ k. rw (h.is x, le-leb n x k, moved-edge e n x k) (sym (next-inside es i (x - n) l)))
          (cases_lt x n);
    }

pub right-all : (n : ℕ) (es out : List ℕ) (i : ℕ) → length es ≤ i → Righting n es out i → Sorted out × MovedRight n es out
right-all n es out i l h = (
  from-rises 0 out (between-from 0 (h.low + n) out h.between),
  record { holds = λ x r. h.is x ∙ ap (λ v. leb n x && inside v (x - n)) (take_all i es l) },
)

below_at : (m : ℕ) (es : List ℕ) (i : ℕ) → i < length es → Below m es → get_or es i 0 ≤ m
below_at m es i l b = All-get_or (λ e. e ≤ m) es i 0 l (to-all es b)
  where
    to-all : (es : List ℕ) → Below m es → AllByRecursion (λ e. e ≤ m) es
    to-all [] b = tt
    to-all (e ∷ es) b = (b.0, to-all es b.1)

-- the next edge can't be named once it is moved
pub right_far : (n : ℕ) (es out : List ℕ) (i : ℕ) → Sorted es → i < length es → (get_or es i 0 + n < 2 ^ 64 → ⊥) → Righting n es out i → Sorted out × MovedRight n es out
right_far n es out i s l o h = (
  from-rises 0 out (between-from 0 (h.low + n) out h.between),
  record {
    holds = λ x r. h.is x ∙ elim r [
      | inl k ↦ ⊎_elim
          (λ j. rw (lt-leb n x j))
          (λ j. rw (le-leb n x j) (sym (ap (λ v. inside v (x - n)) (sym (take-append-drop i es)) ∙ inside-append (take i es) (drop i es) (x - n)
          ∙ rw (inside-before (get_or es i 0) (drop i es) (x - n) rest (⊎_elim (λ v. v) (λ v. absurd (o (omega arith))) (cases_lt (x - n) (get_or es i 0)))) (differ-false (inside (take i es) (x - n))))))
          (cases_lt x n)
      | inr k ↦ absurd (o (omega (arith, k.fits, below_at k.end es i l (still-below k.end 0 es (rises-from 0 es s) k.still))))
    ];
  },
)
  where
    rest : From (get_or es i 0) (drop i es)
    rest = rw (drop_more es i 0 l) (omega arith, (rw (drop_more es i 0 l) at h.from).1)

-- to the left: the first i edges are moved
pub record Lefting (n : ℕ) (es out : List ℕ) (i : ℕ) : Type 0 where
  pub low : ℕ
  pub from : From low (drop i es)
  pub between : Between 0 (suc (low - 1 - n)) out
  pub is : (x : ℕ) → inside out x ≡ inside (take i es) (x + n)

pub left-none : (n : ℕ) (es : List ℕ) → Sorted es → Lefting n es [] 0
left-none n es h = record { low = 0; from = rises-from 0 es h; between = omega arith; is = λ x. refl }

-- below e, if e is not the last
between-not : (p e : ℕ) (es : List ℕ) → Between p (suc e) es → ends_in e es ≡ false → p ≤ e → Between p e es
between-not p e [] h n l = l
between-not p e (f ∷ []) h n l = let k = eqb-false f e n in (h.0, elim (cases_order f e) [ inl q ↦ absurd (k q) | inr q ↦ elim q [ inl r ↦ r | inr r ↦ absurd (omega (arith, h.1)) ] ])
between-not p e (f ∷ g ∷ gs) h n l = (h.0, between-not (suc f) e (g ∷ gs) h.1 n (between-low (suc f) e g gs h.1))
  where
    between-low : (p e g : ℕ) (gs : List ℕ) → Between p (suc e) (g ∷ gs) → p ≤ e
    between-low p e g [] h = omega (arith, h.0, h.1)
    between-low p e g (k ∷ ks) h = omega (arith, h.0, between-low (suc g) e k ks h.1)

between-pop : (p q : ℕ) (es : List ℕ) (e : ℕ) → Between p q (es ++ e ∷ []) → Between p e es
between-pop p q [] e h = h.0
between-pop p q (f ∷ fs) e h = (h.0, between-pop (suc f) q fs e h.1)

twice : (a b : Bool) → differ (differ a b) b ≡ a
twice true true = refl
twice true false = refl
twice false true = refl
twice false false = refl

pub left-more : (n : ℕ) (es out out' : List ℕ) (i : ℕ) → i < length es → Toggled (get_or es i 0 - n) out out' → Lefting n es out i → Lefting n es out' (i + 1)
left-more n es out out' i l t h =
    let e = get_or es i 0 in
    let f : From h.low (e ∷ drop (i + 1) es) = rw (drop_more es i 0 l) at h.from in
    let up : Between 0 (suc (e - n)) out = between_more 0 (suc (h.low - 1 - n)) (suc (e - n)) out h.between (omega (arith, f.0)) in
    elim t [
      | inl k ↦ record {
        low = suc e;
        from = f.1;
        between = between_more 0 (e - n) (suc (suc e - 1 - n)) out' (between-pop 0 (suc (e - n)) out' (e - n) (rw k.1 at up)) (omega arith);
        is = λ x. sym (twice (inside out' x) (leb (e - n) x)) ∙ ap (λ b. differ b (leb (e - n) x)) (sym (inside-push out' (e - n) x) ∙ ap (λ v. inside v x) (sym k.1) ∙ h.is x) ∙ ap (λ b. differ (inside (take i es) (x + n)) b) (back-edge e n x) ∙ sym (next-inside es i (x + n) l);
      }
      | inr k ↦ record {
        low = suc e;
        from = f.1;
        between = rw k.1 (between_more 0 (suc (e - n)) (suc (suc e - 1 - n)) _ (between-push 0 (e - n) out (e - n) (between-not 0 (e - n) out up k.0 (omega arith)) (omega arith)) (omega arith));
        is = λ x. ap (λ v. inside v x) k.1 ∙ inside-push out (e - n) x ∙ ap (λ b. differ b (leb (e - n) x)) (h.is x) ∙ ap (λ b. differ (inside (take i es) (x + n)) b) (back-edge e n x) ∙ sym (next-inside es i (x + n) l);
      }
    ]

pub left-all : (n : ℕ) (es out : List ℕ) (i : ℕ) → length es ≤ i → Lefting n es out i → Sorted out × MovedLeft n es out
left-all n es out i l h = (
  from-rises 0 out (between-from 0 _ out h.between),
  record { holds = λ x. h.is x ∙ ap (λ v. inside v (x + n)) (take_all i es l) },
)

-- the last edge
pub ends_last : (e : ℕ) (es : List ℕ) → 0 < length es → eqb (get_or es (length es - 1) 0) e ≡ ends_in e es
ends_last e [] l = absurd (omega arith)
ends_last e (f ∷ []) l = refl
ends_last e (f ∷ g ∷ gs) l =
    let i : length (f ∷ g ∷ gs) - 1 ≡ suc (length (g ∷ gs) - 1) = omega arith in
    ap (λ j. eqb (get_or (f ∷ g ∷ gs) j 0) e) i ∙ ends_last e (g ∷ gs) (omega arith)

pub ends-push : (es : List ℕ) (v e : ℕ) → ends_in e (es ++ v ∷ []) ≡ true → v ≡ e
ends-push [] v e h = eqb-true v e h
ends-push (f ∷ []) v e h = eqb-true v e h
ends-push (f ∷ g ∷ gs) v e h = ends-push (g ∷ gs) v e h

pub ends_some : (es : List ℕ) (e : ℕ) → ends_in e es ≡ true → 0 < length es
ends_some [] e h = absurd (false≢true h)
ends_some (f ∷ fs) e h = omega arith

-- the last edge taken off
pub popped : (es fs : List ℕ) (r : Option ℕ) (e : ℕ) → ends_in e es ≡ true → es ≡ fs ++ option_to_list r → is_some r ≡ true → es ≡ fs ++ e ∷ []
popped es fs None e h q s = absurd (false≢true s)
popped es fs (Some v) e h q s = q ∙ ap (λ w. fs ++ w ∷ []) (ends-push fs v e (ap (ends_in e) (sym q) ∙ h))
