-- What the borders of a channel come to, one border after another.
use Rattle.std.proofs.Common.{◌≡◌, ℕ, ◌+◌, ◌<◌, true, false, cond, ◌&&◌, eqb, ltb, ◌⊎◌, List, [], ◌∷◌, ◌++◌, length, get_or, take, set, replicate, sym, refl, ap, ◌∙◌, subst, inl, inr, arith, get_or-set_other, get_or-set_same}
use Rattle.std.specs.List.{ContainsAt as In}
use Rattle.std.proofs.ByRecursion.{has_append_left, has_push, has_push_cases}
use Rattle.std.proofs.lemmas.List.{take_more, get_or-replicate, get_or_past, length-replicate}
use Rattle.std.proofs.lemmas.Bool.{cases_Bool, cases_lt, cases_eq, or_cases, or_left, or_right, and_parts, and_from, ltb-true, lt-ltb, eqb-true, eq-eqb, ne_eqb, both_ways, cond-true, cond-false}
use Rattle.nets.specs.Nets.{Spot}
use Rattle.devices.specs.declared.border.Border.{Border}
use Rattle.devices.specs.declared.terminal.Terminal.{Terminal}
use Rattle.devices.specs.declared.terminal.Terminals.{Terminals}
use Rattle.devices.specs.declared.terminal.Terminals.TheVariants.{Isolated, One, Two, Many}
use Rattle.devices.specs.Channels.{Earlier}
use Rattle.devices.specs.Terminals.{precedes, sooner, with_one, Held, Later, Sums}
use Rattle.devices.proofs.Orders.{earlier_on, earlier-none}

-- a place by its column and row, for the order only
abbrev pub dot : (x y : ℕ) → Spot
dot x y = record { layer = 0; x = x; y = y }

pub precedes-earlier : (s t : Terminal) → precedes s t ≡ true → Earlier (dot s.x s.y) (dot t.x t.y)
precedes-earlier s t h =
    elim (or_cases (ltb s.y t.y) (eqb s.y t.y && ltb s.x t.x) h) [
      | inl p ↦ inl (ltb-true s.y t.y p)
      | inr p ↦ let q = and_parts (eqb s.y t.y) (ltb s.x t.x) p in inr (eqb-true s.y t.y q.0, ltb-true s.x t.x q.1)
    ]

pub earlier-precedes : (s t : Terminal) → precedes s t ≡ false → Earlier (dot s.x s.y) (dot t.x t.y) → ⊥
earlier-precedes s t h (inl p) = both_ways (precedes s t) h (or_left (ltb s.y t.y) (eqb s.y t.y && ltb s.x t.x) (lt-ltb s.y t.y p))
earlier-precedes s t h (inr p) =
    both_ways (precedes s t) h (or_right (ltb s.y t.y) (eqb s.y t.y && ltb s.x t.x) (and_from (eqb s.y t.y) (ltb s.x t.x) (eq-eqb s.y t.y p.0) (lt-ltb s.x t.x p.1)))

abbrev pub terminal_of : Border → Terminal
terminal_of b = record { net = b.net; x = b.x; y = b.y }

-- the sooner of two of one net
later-old : (s u : Terminal) (b : Border) → s.net ≡ u.net → Later s b → Later (sooner s u) b
later-old s u b e h =
    elim (cases_Bool (precedes u s)) [
      | inl p ↦ subst (λ t. Later t b) (sym (cond-true (precedes u s) u s p)) (record {
        net = h.net ∙ e;
        late = λ z. h.late (earlier_on (dot b.x b.y) (dot u.x u.y) (dot s.x s.y) z (precedes-earlier u s p));
      })
      | inr p ↦ subst (λ t. Later t b) (sym (cond-false (precedes u s) u s p)) h
    ]

later-new : (s : Terminal) (b : Border) → s.net ≡ b.net → Later (sooner s (terminal_of b)) b
later-new s b e =
    let u = terminal_of b in
    elim (cases_Bool (precedes u s)) [
      | inl p ↦ subst (λ t. Later t b) (sym (cond-true (precedes u s) u s p)) (record { net = refl; late = earlier-none (dot b.x b.y) })
      | inr p ↦ subst (λ t. Later t b) (sym (cond-false (precedes u s) u s p)) (record { net = sym e; late = earlier-precedes u s p })
    ]

sooner-net : (s u : Terminal) → s.net ≡ u.net → (sooner s u).net ≡ s.net
sooner-net s u e =
    elim (cases_Bool (precedes u s)) [
      | inl p ↦ subst (λ t. t.net ≡ s.net) (sym (cond-true (precedes u s) u s p)) (sym e)
      | inr p ↦ subst (λ t. t.net ≡ s.net) (sym (cond-false (precedes u s) u s p)) refl
    ]

module _ (bs : List Border) (r : ℕ) (b : Border) where
  abbrev more : List Border
  more = bs ++ b ∷ []

  held_more : (t : Terminal) → Held bs r t → Held more r t
  held_more t h = record { border = h.border; has = has_append_left bs (b ∷ []) h.border h.has; channel = h.channel; net = h.net; across = h.across; down = h.down }

  held-here : b.channel ≡ r → Held more r (terminal_of b)
  held-here e = record { border = b; has = has_push bs b; channel = e; net = refl; across = refl; down = refl }

  held-sooner : (s u : Terminal) → Held more r s → Held more r u → Held more r (sooner s u)
  held-sooner s u p q =
      elim (cases_Bool (precedes u s)) [
        | inl e ↦ subst (Held more r) (sym (cond-true (precedes u s) u s e)) q
        | inr e ↦ subst (Held more r) (sym (cond-false (precedes u s) u s e)) p
      ]

  -- what holds of the borders of r before, and of the new one
  each_more : (P : Border → Type 0) → ((c : Border) → In bs c → c.channel ≡ r → P c) → (b.channel ≡ r → P b) → (c : Border) → In more c → c.channel ≡ r → P c
  each_more P old new c h e =
      elim (has_push_cases bs b c h) [
        | inl p ↦ old c p e
        | inr p ↦ subst P p (new (subst (λ v. v.channel ≡ r) (sym p) e))
      ]

  pub sums-other : (b.channel ≡ r → ⊥) → (t : Terminals) → Sums bs r t → Sums more r t
  sums-other ne Isolated h = each_more (λ c. ⊥) h ne
  sums-other ne (One t) h = (held_more t h.0, each_more (Later t) h.1 (λ e. absurd (ne e)))
  sums-other ne (Two s t) h = (held_more s h.0, held_more t h.1, h.2, each_more (λ c. Later s c ⊎ Later t c) h.3 (λ e. absurd (ne e)))
  sums-other ne Many h = (h.0, h.1, h.2, held_more h.0 h.3, held_more h.1 h.4, held_more h.2 h.5, h.6, h.7, h.8)

  abbrev u : Terminal
  u = terminal_of b

  itself : Later u b
  itself = record { net = refl; late = earlier-none (dot b.x b.y) }

  module _ (e : b.channel ≡ r) where
    one_more : (s : Terminal) → Sums bs r (One s) → (s.net ≡ b.net) ⊎ (s.net ≡ b.net → ⊥) → Sums more r (with_one (One s) u)
    one_more s h (inl p) =
        subst (Sums more r) (sym (cond-true (eqb s.net b.net) (One (sooner s u)) (Two s u) (eq-eqb s.net b.net p)))
        (held-sooner s u (held_more s h.0) (held-here e), each_more (Later (sooner s u)) (λ c m q. later-old s u c p (h.1 c m q)) (λ q. later-new s b p))
    one_more s h (inr n) =
        subst (Sums more r) (sym (cond-false (eqb s.net b.net) (One (sooner s u)) (Two s u) (ne_eqb s.net b.net n)))
        (held_more s h.0, held-here e, n, each_more (λ c. Later s c ⊎ Later u c) (λ c m q. inl (h.1 c m q)) (λ q. inr itself))

    two-more : (s t : Terminal) → Sums bs r (Two s t) → (s.net ≡ b.net) ⊎ (s.net ≡ b.net → ⊥) → (t.net ≡ b.net) ⊎ (t.net ≡ b.net → ⊥) → Sums more r (with_one (Two s t) u)
    two-more s t h (inl p) o =
        subst (Sums more r) (sym (cond-true (eqb s.net b.net) (Two (sooner s u) t) (cond (eqb t.net b.net) (Two s (sooner t u)) Many) (eq-eqb s.net b.net p))) (
          held-sooner s u (held_more s h.0) (held-here e),
          held_more t h.1,
          (λ z. h.2 (sym (sooner-net s u p) ∙ z)),
          each_more (λ c. Later (sooner s u) c ⊎ Later t c) (λ c m q. elim (h.3 c m q) [ inl v ↦ inl (later-old s u c p v) | inr v ↦ inr v ]) (λ q. inl (later-new s b p)),
        )
    two-more s t h (inr n) (inl p) =
        subst (Sums more r) (sym (cond-false (eqb s.net b.net) (Two (sooner s u) t) (cond (eqb t.net b.net) (Two s (sooner t u)) Many) (ne_eqb s.net b.net n)
        ∙ cond-true (eqb t.net b.net) (Two s (sooner t u)) Many (eq-eqb t.net b.net p))) (
          held_more s h.0,
          held-sooner t u (held_more t h.1) (held-here e),
          (λ z. h.2 (z ∙ sooner-net t u p)),
          each_more (λ c. Later s c ⊎ Later (sooner t u) c) (λ c m q. elim (h.3 c m q) [ inl v ↦ inl v | inr v ↦ inr (later-old t u c p v) ]) (λ q. inr (later-new t b p)),
        )
    two-more s t h (inr n) (inr o) =
        subst (Sums more r) (sym (cond-false (eqb s.net b.net) (Two (sooner s u) t) (cond (eqb t.net b.net) (Two s (sooner t u)) Many) (ne_eqb s.net b.net n)
        ∙ cond-false (eqb t.net b.net) (Two s (sooner t u)) Many (ne_eqb t.net b.net o)))
        (s, t, u, held_more s h.0, held_more t h.1, held-here e, h.2, n, o)

    pub sums-more : (t : Terminals) → Sums bs r t → Sums more r (with_one t u)
    sums-more Isolated h = (held-here e, each_more (Later u) (λ c m q. absurd (h c m q)) (λ q. itself))
    sums-more (One s) h = one_more s h (cases_eq s.net b.net)
    sums-more (Two s t) h = two-more s t h (cases_eq s.net b.net) (cases_eq t.net b.net)
    sums-more Many h = (h.0, h.1, h.2, held_more h.0 h.3, held_more h.1 h.4, held_more h.2 h.5, h.6, h.7, h.8)

-- the loop over borders

module _ (bs : List Border) (i : ℕ) (es : List Terminals) (b : Border) (within : i < length bs) (is : get_or bs i b ≡ b) (inside : b.channel < length es) where
  pub sums-step :
      ((r : ℕ) → Sums (take i bs) r (get_or es r Isolated)) → (v : Terminals) → v ≡ with_one (get_or es b.channel Isolated) (terminal_of b) →
      (r : ℕ) → Sums (take (i + 1) bs) r (get_or (set es b.channel v) r Isolated)
  sums-step old v e r =
      subst (λ l. Sums l r (get_or (set es b.channel v) r Isolated)) (sym (take_more bs i b within ∙ ap (λ c. take i bs ++ c ∷ []) is)) (elim (cases_eq r b.channel) [
        | inl z ↦ subst (λ w. Sums (take i bs ++ b ∷ []) r w) (sym (ap (λ m. get_or (set es b.channel v) m Isolated) z ∙ (get_or-set_same es b.channel v Isolated inside ∙ (e ∙ ap (λ m. with_one (get_or es m Isolated) (terminal_of b)) (sym z)))))
            (sums-more (take i bs) r b (sym z) (get_or es r Isolated) (old r))
        | inr n ↦ subst (λ w. Sums (take i bs ++ b ∷ []) r w) (sym (get_or-set_other es b.channel r v Isolated n)) (sums-other (take i bs) r b (λ z. n (sym z)) (get_or es r Isolated) (old r))
      ])

pub sums_none : (n : ℕ) (bs : List Border) (es : List Terminals) → es ≡ replicate n Isolated → (r : ℕ) → Sums (take 0 bs) r (get_or es r Isolated)
sums_none n bs es e r = subst (λ w. Sums (take 0 bs) r w) (sym (ap (λ v. get_or v r Isolated) e ∙ isolated)) (λ b h. absurd (omega (arith, h.1)))
  where
    isolated : get_or (replicate n Isolated) r Isolated ≡ Isolated
    isolated = elim (cases_lt r n) [ inl l ↦ get_or-replicate n r Isolated Isolated l | inr g ↦ get_or_past (replicate n Isolated) r Isolated (omega (arith, length-replicate {A = Terminals} n Isolated)) ]
