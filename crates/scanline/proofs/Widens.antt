-- A line widened to the right, by a model of the walk. Assumes nothing.
use Rattle.std.proofs.Common.{◌≡◌, ℕ, suc, ◌+◌, ◌-◌, ◌^◌, ◌<◌, ◌≤◌, Bool, true, false, cond, not, leb, List, [], ◌∷◌, ◌++◌, length, get_or, drop, Decides, sym, refl, ap, ◌∙◌, subst, inl, inr, ⊎_elim, append_assoc, arith}
use Rattle.std.proofs.lemmas.Bool.{cases_lt, le-leb, lt-leb, false≢true}
use Rattle.scanline.specs.Lines.{differ, inside, Sorted, Near, Widened, reached}
use Rattle.scanline.proofs.Merge.{From, rises-from, from-rises, from_less, inside-before, differ-false, false_differ, differ-assoc}
use Rattle.scanline.proofs.Walks.{true_differ, not-not}

-- the edges that the walk makes of es: inside an interval, and outside
abbrev pub walkIn : ℕ → List ℕ → List ℕ
walkIn n [] = []
walkIn n (e ∷ []) = (e + n) ∷ []
walkIn n (e ∷ a ∷ es) = cond (leb a (e + n)) (walkIn n es) ((e + n) ∷ a ∷ walkIn n es)

abbrev pub walkOut : ℕ → List ℕ → List ℕ
walkOut n [] = []
walkOut n (a ∷ es) = a ∷ walkIn n es

-- no edge lies past m
abbrev pub Below : ℕ → List ℕ → Type 0
Below m [] = Unit {0}
Below m (e ∷ es) = (e ≤ m) × Below m es

-- order

in_from : (n p : ℕ) (es : List ℕ) → From p es → From p (walkIn n es)
in_from n p [] h = tt
in_from n p (e ∷ []) h = (omega arith, tt)
in_from n p (e ∷ a ∷ es) h =
    ⊎_elim
    (λ l. rw (lt-leb a (e + n) l) (omega arith, (l, in_from n (suc a) es h.1.1)))
    (λ l. rw (le-leb a (e + n) l) (from_less (suc a) p (walkIn n es) (in_from n (suc a) es h.1.1) (omega arith)))
    (cases_lt (e + n) a)

out_from : (n p : ℕ) (es : List ℕ) → From p es → From p (walkOut n es)
out_from n p [] h = tt
out_from n p (a ∷ es) h = (h.0, in_from n (suc a) es h.1)

-- the walk inside an interval makes no edge before the interval's new end
in_late : (n e : ℕ) (es : List ℕ) → From (suc e) es → From (e + n) (walkIn n (e ∷ es))
in_late n e [] h = (omega arith, tt)
in_late n e (a ∷ []) h =
    ⊎_elim
    (λ l. rw (lt-leb a (e + n) l) (omega arith, (l, tt)))
    (λ l. rw (le-leb a (e + n) l) tt)
    (cases_lt (e + n) a)
in_late n e (a ∷ f ∷ fs) h =
    ⊎_elim
    (λ l. rw (lt-leb a (e + n) l) (omega arith, (l, in_from n (suc a) (f ∷ fs) h.1)))
    (λ l. rw (le-leb a (e + n) l) (from_less (f + n) (e + n) _ (in_late n f fs h.1.1) (omega (arith, h.0, h.1.0))))
    (cases_lt (e + n) a)

from-append : (p : ℕ) (a b : List ℕ) → From p (a ++ b) → From p a
from-append p [] b h = tt
from-append p (e ∷ es) b h = (h.0, from-append (suc e) es b h.1)

pub inside-append : (a b : List ℕ) (x : ℕ) → inside (a ++ b) x ≡ differ (inside a x) (inside b x)
inside-append [] b x = sym (false_differ (inside b x))
inside-append (e ∷ es) b x = rw (inside-append es b x) (sym (differ-assoc (leb e x) (inside es x) (inside b x)))

-- what the model holds

pub far : (e : ℕ) (es : List ℕ) (y : ℕ) → e ≤ y → inside (e ∷ es) y ≡ not (inside es y)
far e es y l = rw (le-leb e y l) (true_differ (inside es y))

pub near : (e : ℕ) (es : List ℕ) (y : ℕ) → From (suc e) es → y < e → inside (e ∷ es) y ≡ false
near e es y h l = inside-before e (e ∷ es) y (omega arith, h) l

-- all but what es holds
abbrev Off : List ℕ → ℕ → Bool
Off es y = not (inside es y)

off-before : (p : ℕ) (es : List ℕ) (y : ℕ) → From p es → y < p → Off es y ≡ true
off-before p es y h l = ap not (inside-before p es y h l)

-- outside, past the next edge a: as inside after it
out_near : (n a : ℕ) (es : List ℕ) → From (suc a) es → ((x : ℕ) → Decides (not (inside (walkIn n es) x)) (Near n (Off es) x)) → (x : ℕ) → Decides (inside (walkOut n (a ∷ es)) x) (Near n (inside (a ∷ es)) x)
out_near n a es h ih x =
    ⊎_elim
    (λ l. (
      λ t. absurd (false≢true (sym (near a (walkIn n es) x (in_from n (suc a) es h) l) ∙ t)),
      λ w. absurd (false≢true (sym (near a es w.0 h (omega (arith, w.1))) ∙ w.3)),
    ))
    (λ l. (
      λ t. back l ((ih x).0 (sym (far a (walkIn n es) x l) ∙ t)),
      λ w. far a (walkIn n es) x l ∙ (ih x).1 (on l w),
    ))
    (cases_lt x a)
  where
    on : a ≤ x → Near n (inside (a ∷ es)) x → Near n (Off es) x
    on l w =
        ⊎_elim
        (λ m. absurd (false≢true (sym (near a es w.0 h m) ∙ w.3)))
        (λ m. (w.0, w.1, w.2, sym (far a es w.0 m) ∙ w.3))
        (cases_lt w.0 a)

    back : a ≤ x → Near n (Off es) x → Near n (inside (a ∷ es)) x
    back l w =
        ⊎_elim
        (λ m. (a, l, omega (arith, w.2), far a es a (omega arith) ∙ off-before (suc a) es a h (omega arith)))
        (λ m. (w.0, w.1, w.2, far a es w.0 m ∙ w.3))
        (cases_lt w.0 a)

-- inside, where the interval ends at e + n, before the next begins
gap_near : (n e : ℕ) (es : List ℕ) → 1 ≤ e → From (suc e) es → From (suc (e + n)) es → ((x : ℕ) → Decides (inside (walkOut n es) x) (Near n (inside es) x)) → (x : ℕ) → Decides (not (inside ((e + n) ∷ walkOut n es) x)) (Near n (Off (e ∷ es)) x)
gap_near n e es p h g ih x =
    ⊎_elim
    (λ l. (
      λ t. ⊎_elim (λ m. (x, omega arith, omega arith, ap not (near e es x h m))) (λ m. (e - 1, omega arith, omega arith, ap not (near e es (e - 1) h (omega arith)))) (cases_lt x e),
      λ w. ap not (near (e + n) (walkOut n es) x (out_from n (suc (e + n)) es g) l),
    ))
    (λ l. (
      λ t. let w = (ih x).0 (not-not _ ∙ sym (ap not (far (e + n) (walkOut n es) x l)) ∙ t) in (w.0, w.1, w.2, ap not (far e es w.0 (omega (arith, w.2))) ∙ sym (not-not _) ∙ w.3),
      λ w. ap not (far (e + n) (walkOut n es) x l) ∙ sym (not-not _) ∙ (ih x).1 (w.0, w.1, w.2, not-not _ ∙ sym (ap not (far e es w.0 (omega (arith, w.2)))) ∙ w.3),
    ))
    (cases_lt x (e + n))

-- inside, where the next interval begins at a, before the end e + n
skip_near : (n e a : ℕ) (es : List ℕ) → 1 ≤ e → e < a → From (suc a) es → a ≤ e + n → ((x : ℕ) → Decides (not (inside (walkIn n es) x)) (Near n (Off es) x)) → (x : ℕ) → Decides (not (inside (walkIn n es) x)) (Near n (Off (e ∷ a ∷ es)) x)
skip_near n e a es p q h k ih x = (λ t. back ((ih x).0 t), λ w. (ih x).1 (on w))
  where
    -- at a and after, the two agree
    late : (y : ℕ) → a ≤ y → Off (e ∷ a ∷ es) y ≡ Off es y
    late y l = ap not (far e (a ∷ es) y (omega arith) ∙ ap not (far a es y l)) ∙ ap not (sym (not-not (inside es y)))

    early : (y : ℕ) → y < e → Off (e ∷ a ∷ es) y ≡ true
    early y l = ap not (near e (a ∷ es) y (omega arith, h) l)

    on : Near n (Off (e ∷ a ∷ es)) x → Near n (Off es) x
    on w = ⊎_elim (λ m. (w.0, w.1, w.2, off-before (suc a) es w.0 h (omega arith))) (λ m. (w.0, w.1, w.2, sym (late w.0 m) ∙ w.3)) (cases_lt w.0 a)

    back : Near n (Off es) x → Near n (Off (e ∷ a ∷ es)) x
    back w =
        ⊎_elim
        (λ m.
        ⊎_elim
        (λ s. (x, omega arith, omega arith, early x s))
        (λ s.
        ⊎_elim
        (λ t. (e - 1, omega arith, omega arith, early (e - 1) (omega arith)))
        (λ t. (a, omega arith, omega (arith, w.2), late a (omega arith) ∙ off-before (suc a) es a h (omega arith)))
        (cases_lt x (e + n)))
        (cases_lt x e))
        (λ m. (w.0, w.1, w.2, late w.0 m ∙ w.3))
        (cases_lt w.0 a)

in_near : (n : ℕ) (es : List ℕ) → From 1 es → (x : ℕ) → Decides (not (inside (walkIn n es) x)) (Near n (Off es) x)
in_near n [] h x = (λ t. (x, omega arith, omega arith, refl), λ w. refl)
in_near n (e ∷ []) h x = gap_near n e [] h.0 tt tt (λ z. (λ t. absurd (false≢true t), λ w. w.3)) x
in_near n (e ∷ a ∷ es) h x =
    let ih = in_near n es (from_less (suc a) 1 es h.1.1 (omega arith)) in
    ⊎_elim
    (λ l. rw (lt-leb a (e + n) l) (gap_near n e (a ∷ es) h.0 h.1 (l, h.1.1) (out_near n a es h.1.1 ih) x))
    (λ l. rw (le-leb a (e + n) l) (skip_near n e a es h.0 h.1.0 h.1.1 l ih x))
    (cases_lt (e + n) a)

widened_by : (n : ℕ) (es : List ℕ) → From 0 es → (x : ℕ) → Decides (inside (walkOut n es) x) (Near n (inside es) x)
widened_by n [] h x = (λ t. absurd (false≢true t), λ w. w.3)
widened_by n (a ∷ es) h x = out_near n a es h.1 (in_near n es (from_less (suc a) 1 es h.1 (omega arith))) x

-- where nothing changes from m on there is no edge past m
pub still-below : (m p : ℕ) (es : List ℕ) → From p es → ((x : ℕ) → m ≤ x → inside es x ≡ inside es m) → Below m es
still-below m p [] h s = tt
still-below m p (e ∷ es) h s =
    elim (cases_lt m e) [
      | inl l ↦ absurd (false≢true (sym (near e es m h.1 l) ∙ sym (s e (omega arith)) ∙ far e es e (omega arith) ∙ ap not (inside-before (suc e) es e h.1 (omega arith))))
      | inr l ↦ (l, still-below m (suc e) es h.1 (λ x k. not-not (inside es x) ∙ ap not (sym (far e es x (omega arith)) ∙ s x k ∙ far e es m l) ∙ sym (not-not (inside es m))))
    ]

-- the walk so far: what is left completes `out`
pub record Widening (n : ℕ) (es out rest : List ℕ) (within : Bool) : Type 0 where
  pub whole : out ++ cond within (walkIn n rest) (walkOut n rest) ≡ walkOut n es
  pub low : ℕ
  pub from : From low rest
  pub part : (m : ℕ) → Below m es → Below m rest

pub opening : (n : ℕ) (es : List ℕ) → Sorted es → Widening n es [] es false
opening n es h = record { whole = refl; low = 0; from = rises-from 0 es h; part = λ m b. b }

module _ (n : ℕ) (es out : List ℕ) where
  pub opened : (rest : List ℕ) → 0 < length rest → Widening n es out rest false → Widening n es (out ++ get_or rest 0 0 ∷ []) (drop 1 rest) true
  opened [] l h = absurd (omega arith)
  opened (f ∷ fs) l h = record { whole = append_assoc out (f ∷ []) (walkIn n fs) ∙ h.whole; low = suc f; from = h.from.1; part = λ m b. (h.part m b).1 }

  pub joined : (rest : List ℕ) → 0 < length rest → reached (get_or rest 0 0 + n) (drop 1 rest) ≡ true → Widening n es out rest true → Widening n es out (drop 1 (drop 1 rest)) true
  joined [] l r h = absurd (omega arith)
  joined (f ∷ []) l r h = absurd (false≢true r)
  joined (f ∷ a ∷ fs) l r h = record { whole = rw r at h.whole; low = suc a; from = h.from.1.1; part = λ m b. (h.part m b).1.1 }

  pub closed : (rest : List ℕ) → 0 < length rest → reached (get_or rest 0 0 + n) (drop 1 rest) ≡ false → Widening n es out rest true → Widening n es (out ++ (get_or rest 0 0 + n) ∷ []) (drop 1 rest) false
  closed [] l r h = absurd (omega arith)
  closed (f ∷ []) l r h = record { whole = append_assoc out ((f + n) ∷ []) [] ∙ h.whole; low = suc f; from = tt; part = λ m b. tt }
  closed (f ∷ a ∷ fs) l r h = record { whole = append_assoc out ((f + n) ∷ []) (a ∷ walkIn n fs) ∙ (rw r at h.whole); low = suc f; from = h.from.1; part = λ m b. (h.part m b).1 }

  order : (left : List ℕ) → out ++ left ≡ walkOut n es → Sorted es → Sorted out
  order left e h = from-rises 0 out (from-append 0 out left (rw e (out_from n 0 es (rises-from 0 es h))))

  at : (left : List ℕ) → out ++ left ≡ walkOut n es → Sorted es → (x : ℕ) → inside left x ≡ false → Decides (inside out x) (Near n (inside es) x)
  at left e h x l = subst (λ b. Decides b (Near n (inside es) x)) (ap (λ v. inside v x) (sym e) ∙ inside-append out left x ∙ rw l (differ-false (inside out x))) (widened_by n es (rises-from 0 es h) x)

  pub ended-all : (within : Bool) → Sorted es → Widening n es out [] within → Sorted out × Widened n es out
  ended-all true s h = (order [] h.whole s, record { holds = λ x l. at [] h.whole s x refl })
  ended-all false s h = (order [] h.whole s, record { holds = λ x l. at [] h.whole s x refl })

  -- what is left has no edge that a u64 can name
  pub ended-far : (rest : List ℕ) → 0 < length rest → (get_or rest 0 0 + n < 2 ^ 64 → ⊥) → Sorted es → Widening n es out rest true → Sorted out × Widened n es out
  ended-far [] l o s h = absurd (omega arith)
  ended-far (f ∷ fs) l o s h =
      let far : From (2 ^ 64) (walkIn n (f ∷ fs)) = from_less (f + n) (2 ^ 64) _ (in_late n f fs h.from.1) (⊎_elim (λ k. absurd (o k)) (λ k. k) (cases_lt (f + n) (2 ^ 64))) in (
        order (walkIn n (f ∷ fs)) h.whole s,
        record {
          holds = λ x r. elim r [
            | inl k ↦ at (walkIn n (f ∷ fs)) h.whole s x (inside-before (2 ^ 64) (walkIn n (f ∷ fs)) x far k)
            | inr k ↦ absurd (o (omega (arith, k.fits, (h.part k.end (still-below k.end 0 es (rises-from 0 es s) k.still)).0)))
          ];
        },
      )
