-- From borders to what lies beside a channel, and from that to its device, or that it is none.
use Rattle.std.proofs.Common.{◌≡◌, ℕ, ◌⊎◌, List, Some, None, Option, sym, refl, ◌∙◌, subst, inl, inr, arith}
use Rattle.std.specs.List.{ContainsAt as In}
use Rattle.std.proofs.lemmas.Bool.{cases_Bool, cond-true, cond-false}
use Rattle.layout.specs.Layout.{Drawing}
use Rattle.nets.specs.Nets.{Technology, Spot, Way}
use Rattle.nets.proofs.Ways.{ways_on, ways_back}
use Rattle.devices.specs.declared.border.Border.{Border}
use Rattle.devices.specs.declared.terminal.Terminal.{Terminal}
use Rattle.devices.specs.declared.terminal.Terminals.{Terminals}
use Rattle.devices.specs.declared.terminal.Terminals.TheVariants.{Isolated, One, Two, Many}
use Rattle.devices.specs.Channels.{spot_of, Earlier, First}
use Rattle.devices.specs.Ends.{Side, Ends, DeviceAt}
use Rattle.devices.specs.Terminals.{precedes, ends_of, Held, Later, Sums}
use Rattle.devices.specs.Readings.{terminal_spot, Follows, Judged}
use Rattle.devices.proofs.Orders.{earlier_on, earlier-none, earlier-through}
use Rattle.devices.proofs.Terminals.{precedes-earlier, earlier-precedes}

abbrev pub border-spot : Technology → Border → Spot
border-spot k b = spot_of k b.x b.y

-- the borders of number r are those beside the channel of a: each is one, they are of one net exactly if their numbers are the same, and no square beside the channel comes before all of its net
pub record Lists (k : Technology) (d : Drawing) (a : Spot) (r : ℕ) (bs : List Border) : Type 0 where
  pub sound : (b : Border) → In bs b → b.channel ≡ r → Side k d a (border-spot k b)
  pub same : (b c : Border) → In bs b → In bs c → b.channel ≡ r → c.channel ≡ r → b.net ≡ c.net → Way k d (border-spot k b) (border-spot k c)
  pub apart : (b c : Border) → In bs b → In bs c → b.channel ≡ r → c.channel ≡ r → Way k d (border-spot k b) (border-spot k c) → b.net ≡ c.net
  pub complete : (e : Spot) → Side k d a e → (b : Border) × In bs b × (b.channel ≡ r) × Way k d (border-spot k b) e × (Earlier e (border-spot k b) → ⊥)

module _ (k : Technology) (d : Drawing) (a : Spot) (r : ℕ) (bs : List Border) (l : Lists k d a r bs) where
  held-spot : (t : Terminal) (h : Held bs r t) → border-spot k h.border ≡ terminal_spot k t
  held-spot t h = λ i. record { layer = k.crossed; x = h.across i; y = h.down i }

  held-side : (t : Terminal) → Held bs r t → Side k d a (terminal_spot k t)
  held-side t h = subst (Side k d a) (held-spot t h) (l.sound h.border h.has h.channel)

  held-apart : (s t : Terminal) → Held bs r s → Held bs r t → (s.net ≡ t.net → ⊥) → Way k d (terminal_spot k s) (terminal_spot k t) → ⊥
  held-apart s t p q n w =
      n (sym p.net ∙ (l.apart p.border q.border p.has q.has p.channel q.channel
      (subst (λ v. Way k d v (border-spot k q.border)) (sym (held-spot s p)) (subst (Way k d (terminal_spot k s)) (sym (held-spot t q)) w)) ∙ q.net))

  follows : (t : Terminal) → Held bs r t → (b : Border) → In bs b → b.channel ≡ r → Later t b → (e : Spot) → Way k d (border-spot k b) e → (Earlier e (border-spot k b) → ⊥) → Follows k d (terminal_spot k t) e
  follows t h b m c later e w n = record {
    way = ways_on k d (terminal_spot k t) (border-spot k b) e
        (subst (λ v. Way k d v (border-spot k b)) (held-spot t h) (l.same h.border b h.has m h.channel c (h.net ∙ sym later.net))) w;
    late = λ z. n (earlier-through e (terminal_spot k t) (border-spot k b) z later.late);
  }

  pub judged : (t : Terminals) → Sums bs r t → Judged k d a t
  judged Isolated h = λ e s. let p = l.complete e s in h p.0 p.1 p.2
  judged (One t) h = (
    held-side t h.0,
    λ e s. let p = l.complete e s in follows t h.0 p.0 p.1 p.2 (h.1 p.0 p.1 p.2) e p.3 p.4,
  )
  judged (Two s t) h = (
    held-side s h.0,
    held-side t h.1,
    held-apart s t h.0 h.1 h.2,
    λ e z.
        let p = l.complete e z in
        elim (h.3 p.0 p.1 p.2) [
          | inl v ↦ inl (follows s h.0 p.0 p.1 p.2 v e p.3 p.4)
          | inr v ↦ inr (follows t h.1 p.0 p.1 p.2 v e p.3 p.4)
        ],
  )
  judged Many h = (
    terminal_spot k h.0,
    terminal_spot k h.1,
    terminal_spot k h.2,
    held-side h.0 h.3,
    held-side h.1 h.4,
    held-side h.2 h.5,
    held-apart h.0 h.1 h.3 h.4 h.6,
    held-apart h.0 h.2 h.3 h.5 h.7,
    held-apart h.1 h.2 h.4 h.5 h.8,
  )

module _ (k : Technology) (d : Drawing) (a : Spot) where
  -- of two nets, the first square of one before that of the other
  two-device :
      First k d a → (s t : Spot) → Side k d a s → Side k d a t → (Way k d s t → ⊥) → ((e : Spot) → Side k d a e → Follows k d s e ⊎ Follows k d t e) → (Earlier t s → ⊥) → DeviceAt k d a s t
  two-device f s t p q n all o = record {
    first = f;
    ends = record { one = p; other = q; only = λ e z. elim (all e z) [ inl v ↦ inl v.way | inr v ↦ inr v.way ] };
    near = λ e z y. elim (all e z) [ inl v ↦ v.late y | inr v ↦ v.late (earlier-through e s t y o) ];
    far = λ e z y. elim (all e z) [ inl v ↦ v.way | inr v ↦ absurd (v.late y) ];
    same = λ w. absurd (n w);
  }

  swapped : {A B : Type 0} → A ⊎ B → B ⊎ A
  swapped (inl x) = inr x
  swapped (inr x) = inl x

  apart_none : {X : Type 0} (o : Option (Terminal × Terminal)) (p : Terminal × Terminal) → o ≡ None → o ≡ Some p → X
  apart_none o p e h = let z : ◌≡◌ {A = ℕ} 0 1 = cc in absurd (omega arith)

  some-parts : (p q : Terminal × Terminal) → Some p ≡ Some q → p ≡ q
  some-parts p q e = cc

  pub judged-device : First k d a → (t : Terminals) → Judged k d a t → (one other : Terminal) → ends_of t ≡ Some (one, other) → DeviceAt k d a (terminal_spot k one) (terminal_spot k other)
  judged-device f Isolated h one other e = apart_none None (one, other) refl e
  judged-device f (One t) h one other e =
      let p = some-parts (t, t) (one, other) e in
      subst (λ v. DeviceAt k d a (terminal_spot k v.0) (terminal_spot k v.1)) p (record {
        first = f;
        ends = record { one = h.0; other = h.0; only = λ x z. inl (h.1 x z).way };
        near = λ x z. (h.1 x z).late;
        far = λ x z y. (h.1 x z).way;
        same = λ w. refl;
      })
  judged-device f (Two s t) h one other e =
      elim (cases_Bool (precedes t s)) [
        | inl c ↦
            let p = some-parts (t, s) (one, other) (sym (cond-true (precedes t s) (Some (t, s)) (Some (s, t)) c) ∙ e) in
            subst (λ v. DeviceAt k d a (terminal_spot k v.0) (terminal_spot k v.1)) p
            (two-device f (terminal_spot k t) (terminal_spot k s) h.1 h.0 (λ w. h.2 (ways_back k d (terminal_spot k t) (terminal_spot k s) w)) (λ x z. swapped (h.3 x z))
            (λ z. earlier-none (terminal_spot k s) (earlier_on (terminal_spot k s) (terminal_spot k t) (terminal_spot k s) z (precedes-earlier t s c))))
        | inr c ↦
            let p = some-parts (s, t) (one, other) (sym (cond-false (precedes t s) (Some (t, s)) (Some (s, t)) c) ∙ e) in
            subst (λ v. DeviceAt k d a (terminal_spot k v.0) (terminal_spot k v.1)) p
            (two-device f (terminal_spot k s) (terminal_spot k t) h.0 h.1 h.2 h.3 (earlier-precedes t s c))
      ]
  judged-device f Many h one other e = apart_none None (one, other) refl e

  -- two of three on one side are one net
  both_to : (b s t : Spot) → Way k d b s → Way k d b t → Way k d s t
  both_to b s t v w = ways_on k d s b t (ways_back k d b s v) w

  pub judged-odd : (t : Terminals) → Judged k d a t → ends_of t ≡ None → (b c : Spot) → Ends k d a b c → ⊥
  judged-odd Isolated h e b c x = h b x.one
  judged-odd (One t) h e b c x = apart_none (Some (t, t)) (t, t) e refl
  judged-odd (Two s t) h e b c x =
      elim (cases_Bool (precedes t s)) [
        | inl z ↦ apart_none (ends_of (Two s t)) (t, s) e (cond-true (precedes t s) (Some (t, s)) (Some (s, t)) z)
        | inr z ↦ apart_none (ends_of (Two s t)) (s, t) e (cond-false (precedes t s) (Some (t, s)) (Some (s, t)) z)
      ]
  judged-odd Many h e b c x =
      let s = h.0 in
      let t = h.1 in
      let u = h.2 in
      elim (x.only s h.3) [
        | inl p ↦ elim (x.only t h.4) [
          | inl q ↦ h.6 (both_to b s t p q)
          | inr q ↦ elim (x.only u h.5) [ inl r ↦ h.7 (both_to b s u p r) | inr r ↦ h.8 (both_to c t u q r) ]
        ]
        | inr p ↦ elim (x.only t h.4) [
          | inr q ↦ h.6 (both_to c s t p q)
          | inl q ↦ elim (x.only u h.5) [ inl r ↦ h.8 (both_to b t u q r) | inr r ↦ h.7 (both_to c s u p r) ]
        ]
      ]
