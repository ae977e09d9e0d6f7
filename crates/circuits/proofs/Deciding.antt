-- Whether two circuits are the same is decided, of whatever size. Assumes nothing.
use Rattle.std.proofs.Common.{◌≡◌, ℕ, zero, suc, ◌<◌, cond, eqb, ltb, ◌⊎◌, List, length, get_or, sym, refl, ap, ◌∙◌, subst, inl, inr, arith}
use Rattle.std.proofs.lemmas.Bool.{cases_eq, cases_lt, eq-eqb, ne_eqb, lt-ltb, le-ltb, cond-true, cond-false}
use Rattle.circuits.specs.Circuits.{Same}
use Rattle.circuits.specs.declared.netlist.Device.{Device}
use Rattle.circuits.specs.Laws.{BelowNets, Compared}
use Rattle.circuits.specs.Netlists.{mapped, three}
use Rattle.circuits.specs.Pairings.{Iso}
use Rattle.circuits.proofs.Devices.{weight-same}
use Rattle.circuits.proofs.Isos.{W, to-iso, from-iso}

abbrev Either : Type 0 → Type 0
Either A = A ⊎ (A → ⊥)

both : {A B : Type 0} → Either A → Either B → Either (A × B)
both (inl a) (inl b) = inl (a, b)
both (inl a) (inr b) = inr (λ w. b w.1)
both (inr a) d = inr (λ w. a w.0)

imp : {A B : Type 0} → Either A → Either B → Either (A → B)
imp (inl a) (inl b) = inl (λ _. b)
imp (inl a) (inr b) = inr (λ f. b (f a))
imp (inr a) d = inl (λ x. absurd (a x))

less : (a b : ℕ) → Either (a < b)
less a b = elim (cases_lt a b) [ inl l ↦ inl l | inr l ↦ inr (λ w. omega arith) ]

all_below : (n : ℕ) (Q : ℕ → Type 0) → ((k : ℕ) → Either (Q k)) → Either ((k : ℕ) → k < n → Q k)
all_below zero Q d = inl (λ k l. absurd (omega arith))
all_below (suc n) Q d = elim (all_below n Q d) [
  | inl h ↦ elim (d n) [
    | inl q ↦ inl (λ k l. elim (cases_eq k n) [ inl e ↦ subst Q (sym e) q | inr e ↦ h k (omega arith) ])
    | inr q ↦ inr (λ f. q (f n (omega arith)))
  ]
  | inr h ↦ inr (λ f. h (λ k l. f k (omega arith)))
]

some_below : (n : ℕ) (Q : ℕ → Type 0) → ((k : ℕ) → Either (Q k)) → ((k : ℕ) × (k < n) × Q k) ⊎ ((k : ℕ) → k < n → Q k → ⊥)
some_below zero Q d = inr (λ k l. absurd (omega arith))
some_below (suc n) Q d = elim (d n) [
  | inl q ↦ inl (n, omega arith, q)
  | inr q ↦ elim (some_below n Q d) [
    | inl w ↦ inl (w.0, omega (arith, w.1), w.2)
    | inr w ↦ inr (λ k l r. elim (cases_eq k n) [ inl e ↦ q (subst Q e r) | inr e ↦ w k (omega arith) r ])
  ]
]

unfoldable put : (ℕ → ℕ) → ℕ → ℕ → ℕ → ℕ
put f m v x = cond (eqb x m) v (f x)

put_same : (f : ℕ → ℕ) (m v x : ℕ) → x ≡ m → put f m v x ≡ v
unfolding put
put_same f m v x e = cond-true (eqb x m) v (f x) (eq-eqb x m e)

put_other : (f : ℕ → ℕ) (m v x : ℕ) → (x ≡ m → ⊥) → put f m v x ≡ f x
unfolding put
put_other f m v x e = cond-false (eqb x m) v (f x) (ne_eqb x m e)

abbrev Into : ℕ → ℕ → (ℕ → ℕ) → Type 0
Into m n f = (x : ℕ) → x < m → f x < n

abbrev Agree : ℕ → (f g : ℕ → ℕ) → Type 0
Agree m f g = (x : ℕ) → x < m → f x ≡ g x

-- is there such a function from the numbers below m to those below n
some-function :
    (m n : ℕ) (P : (ℕ → ℕ) → Type 0) → ((f : ℕ → ℕ) → Either (P f)) → ((f g : ℕ → ℕ) → Agree m f g → P f → P g) →
    ((f : ℕ → ℕ) × Into m n f × P f) ⊎ ((f : ℕ → ℕ) → Into m n f → P f → ⊥)
some-function zero n P d same = elim (d (λ x. x)) [
  | inl p ↦ inl (λ x. x, λ x l. absurd (omega arith), p)
  | inr p ↦ inr (λ f i q. p (same f (λ x. x) (λ x l. absurd (omega arith)) q))
]
some-function (suc m) n P d same =
    elim (some_below n (λ v. (f : ℕ → ℕ) × Into m n f × P (put f m v)) (λ v.
    elim (some-function m n (λ f. P (put f m v)) (λ f. d (put f m v))
    (λ f g h p. same (put f m v) (put g m v)
    (λ x l. elim (cases_eq x m) [
      | inl e ↦ put_same f m v x e ∙ sym (put_same g m v x e)
      | inr e ↦ put_other f m v x e ∙ (h x (omega arith) ∙ sym (put_other g m v x e))
    ]) p)) [
      | inl w ↦ inl w
      | inr w ↦ inr (λ u. w u.0 u.1 u.2)
    ])) [
      | inl w ↦
          let v = w.0 in
          let f = w.2.0 in
          inl (
            put f m v,
            λ x l. elim (cases_eq x m) [
              | inl e ↦ subst (λ k. k < n) (sym (put_same f m v x e)) w.1
              | inr e ↦ subst (λ k. k < n) (sym (put_other f m v x e)) (w.2.1 x (omega arith))
            ],
            w.2.2,
          )
      | inr w ↦ inr (λ f i p.
          w (f m) (i m (omega arith)) (
            f,
            (λ x l. i x (omega arith)),
            same f (put f m (f m)) (λ x l. elim (cases_eq x m) [
              | inl e ↦ ap f e ∙ sym (put_same f m (f m) x e)
              | inr e ↦ sym (put_other f m (f m) x e)
            ]) p,
          ))
    ]

module _ (m n : ℕ) (as' bs : List Device) (named : ℕ) (none : Device) where
  abbrev Good : (f b : ℕ → ℕ) → Type 0
  Good f b =
      ((i : ℕ) → i < m → (f i < n) × (b (f i) ≡ i))
      × ((j : ℕ) → j < n → (b j < m) × (f (b j) ≡ j))
      × ((g : ℕ) → g < m → (p : ℕ) → p < m → (q : ℕ) → q < m → W bs none (mapped f (three g p q)) ≡ W as' none (three g p q))
      × ((x : ℕ) → x < m → x < named → f x ≡ x)

  good-either : (f b : ℕ → ℕ) → Either (Good f b)
  good-either f b =
      let a = all_below m (λ i. (f i < n) × (b (f i) ≡ i)) (λ i. both (less (f i) n) (cases_eq (b (f i)) i)) in
      let c = all_below n (λ j. (b j < m) × (f (b j) ≡ j)) (λ j. both (less (b j) m) (cases_eq (f (b j)) j)) in
      let w = all_below m (λ g. (p : ℕ) → p < m → (q : ℕ) → q < m → W bs none (mapped f (three g p q)) ≡ W as' none (three g p q))
      (λ g. all_below m (λ p. (q : ℕ) → q < m → W bs none (mapped f (three g p q)) ≡ W as' none (three g p q))
      (λ p. all_below m (λ q. W bs none (mapped f (three g p q)) ≡ W as' none (three g p q)) (λ q. cases_eq _ _))) in
      let k = all_below m (λ x. x < named → f x ≡ x) (λ x. imp (less x named) (cases_eq (f x) x)) in
      elim a [
        | inr nope ↦ inr (λ g. nope g.0)
        | inl a ↦
            elim c [
              | inr nope ↦ inr (λ g. nope g.1)
              | inl c ↦
                  elim w [
                    | inr nope ↦ inr (λ g. nope g.2)
                    | inl w ↦
                        elim k [ inr nope ↦ inr (λ g. nope g.3) | inl k ↦ inl (a, c, w, k) ]
                  ]
            ]
      ]

  good-other : (f b g c : ℕ → ℕ) → Agree m f g → Agree n b c → Good f b → Good g c
  good-other f b g c ef eb h = (
    λ i l.
        let w = h.0 i l in
        let lg : g i < n = subst (λ k. k < n) (ef i l) w.0 in
        (lg, sym (eb (g i) lg) ∙ (ap b (sym (ef i l)) ∙ w.1)),
    λ j l.
        let w = h.1 j l in
        let lc : c j < m = subst (λ k. k < m) (eb j l) w.0 in
        (lc, sym (ef (c j) lc) ∙ (ap f (sym (eb j l)) ∙ w.1)),
    λ x lx p lp q lq.
        weight-same (length bs) (λ i. get_or bs i none) (mapped g (three x p q)) (mapped f (three x p q)) (sym (ef x lx), inl (sym (ef p lp), sym (ef q lq))) ∙ h.2 x lx p lp q lq,
    λ x l k. sym (ef x l) ∙ h.3 x l k,
  )

  good-iso : (f b : ℕ → ℕ) → Good f b → Iso m n (W as' none) (W bs none) f b
  good-iso f b h = record { pairs = record { there = h.0; back = h.1 }; weigh = λ t l. h.2 t.gate l.0 t.one l.1 t.other l.2 }

  Some-back : (f : ℕ → ℕ) → Type 0
  Some-back f = (b : ℕ → ℕ) × Good f b

  back_either : (f : ℕ → ℕ) → Either (Some-back f)
  unfolding Some-back
  back_either f = elim (some-function n m (Good f) (good-either f) (λ b c e h. good-other f b f c (λ x l. refl) e h)) [
    | inl w ↦ inl (w.0, w.2)
    | inr w ↦ inr (λ u. w u.0 (λ y l. (u.1.1 y l).0) u.1)
  ]

  back-other : (f g : ℕ → ℕ) → Agree m f g → Some-back f → Some-back g
  unfolding Some-back
  back-other f g e w = (w.0, good-other f w.0 g w.0 e (λ x l. refl) w.1)

  compared-one : BelowNets m as' none → BelowNets n bs none → Same m n as' bs named none ⊎ (Same m n as' bs named none → ⊥)
  unfolding Some-back
  compared-one la lb = elim (some-function m n Some-back back_either back-other) [
    | inl w ↦
        let f = w.0 in
        let g : ℕ → ℕ = λ x. cond (ltb x m) (f x) x in
        let e : Agree m f g = λ x l. sym (cond-true (ltb x m) (f x) x (lt-ltb x m l)) in
        let b = w.2.0 in
        let h = good-other f b g b e (λ x l. refl) w.2.1 in
        inl (from-iso m n as' bs named none la g b lb (good-iso g b h)
        (λ x l. elim (cases_lt x m) [ inl k ↦ h.3 x k l | inr k ↦ cond-false (ltb x m) (f x) x (le-ltb x m k) ]))
    | inr w ↦ inr (λ s.
        let iso = to-iso m n as' bs named none la s in
        w s.net (λ x l. (s.nets x l).0)
        (s.net_back, (s.nets, s.nets_back, λ g lg p lp q lq. iso.weigh (three g p q) (lg, lp, lq), λ x l k. s.keeps x k)))
  ]

pub compared : Compared
unfolding Compared
compared m n as' bs named none la lb = compared-one m n as' bs named none la lb
