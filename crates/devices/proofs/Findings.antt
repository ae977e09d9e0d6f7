-- Which refusal comes first, and what the entry then says.
use Rattle.std.proofs.Common.{◌≡◌, ℕ, suc, ◌+◌, ◌*◌, ◌/◌, ◌<◌, ◌≤◌, true, false, List, length, Ok, Err, sym, refl, subst, inl, inr, arith}
use Rattle.std.proofs.lemmas.Bool.{ne_eqb, cases_order}
use Rattle.layout.specs.Layout.{Drawing}
use Rattle.layout.specs.Numbers.{layout_in, layout_refusal}
use Rattle.layout.specs.Checks.{TurnedAway}
use Rattle.layout.specs.declared.refusal.Refusal.{Refusal}
use Rattle.layout.specs.declared.refusal.Refusal.TheVariants.{Nodes, Number, Node, Boxes, Regions, Region, Technology as OfTechnology, Spots, Room, Circuit, Text}
use Rattle.layout.specs.declared.refusal.Fault.TheVariants.{Refused, Memory}
use Rattle.nets.specs.Nets.{Technology}
use Rattle.nets.specs.Technologies.{technology_in, technology_ok}
use Rattle.devices.specs.declared.reading.Device.{Device}
use Rattle.devices.specs.declared.reading.Found.TheVariants.{Odd}
use Rattle.devices.specs.Channels.{spot_of, Under, Earlier}
use Rattle.devices.specs.Ends.{DeviceAt, OddAt}
use Rattle.devices.specs.Readings.{device_at, device_spot, terminal_spot, Enumerated, Written}
use Rattle.devices.specs.Findings.{place_at, Listed, Crowded, devices_refusal, ReadInto, Says}
use Rattle.devices.proofs.Channels.{unders-back, ends-move}

module _ (k : Technology) (d : Drawing) (vs : List Device) (all : Enumerated k d vs) where
  listed-once : (i j : ℕ) → i < length vs → j < length vs → Under k d (device_spot k vs i) (device_spot k vs j) → i ≡ j
  listed-once i j p q u =
      elim (cases_order i j) [
        | inl e ↦ e
        | inr o ↦ elim o [
          | inl l ↦ absurd ((all.each j q).first.first (device_spot k vs i) (unders-back k d (device_spot k vs i) (device_spot k vs j) u) (all.order i j l q))
          | inr l ↦ absurd ((all.each i p).first.first (device_spot k vs j) u (all.order j i l p))
        ]
      ]

  crowded : (room : List ℕ) → length room / 6 < length vs → Crowded k d room
  crowded room more = record {
    count = length vs;
    spots = device_spot k vs;
    more = omega arith;
    there = λ i h. (all.each i h).first.there;
    once = listed-once;
    devices = λ a h. let p = all.all a h in (_, _, ends-move k d (device_spot k vs p.0) a _ _ p.2 (all.each p.0 p.1).ends);
  }

  module _ (room xs : List ℕ) (w : Written vs (length vs) room xs) where
    spot_is : (i : ℕ) → i < length vs → place_at k xs (6 * i) ≡ device_spot k vs i
    spot_is i h = λ j. spot_of k ((w.spot i h).0 j) ((w.spot i h).1 j)

    one-is : (i : ℕ) → i < length vs → place_at k xs (6 * i + 2) ≡ terminal_spot k (device_at vs i).one
    one-is i h = λ j. spot_of k ((w.one i h).0 j) ((w.one i h).1 j)

    other-is : (i : ℕ) → i < length vs → place_at k xs (6 * i + 4) ≡ terminal_spot k (device_at vs i).other
    other-is i h = λ j. spot_of k ((w.other i h).0 j) ((w.other i h).1 j)

    pub listed : Listed k d (length vs) xs
    listed = record {
      each = λ i h.
          subst (λ a. DeviceAt k d a (place_at k xs (6 * i + 2)) (place_at k xs (6 * i + 4))) (sym (spot_is i h))
          (subst (λ b. DeviceAt k d (device_spot k vs i) b (place_at k xs (6 * i + 4))) (sym (one-is i h))
          (subst (λ e. DeviceAt k d (device_spot k vs i) (terminal_spot k (device_at vs i).one) e) (sym (other-is i h)) (all.each i h)));
      order = λ i j l h.
          subst (λ a. Earlier a (place_at k xs (6 * j))) (sym (spot_is i (omega arith))) (subst (λ b. Earlier (device_spot k vs i) b) (sym (spot_is j h)) (all.order i j l h));
      once = λ i j p q u.
          listed-once i j p q (subst (λ a. Under k d a (device_spot k vs j)) (spot_is i p) (subst (λ b. Under k d (place_at k xs (6 * i)) b) (spot_is j q) u));
      all = λ a h. let p = all.all a h in (p.0, p.1, subst (λ s. Under k d s a) (sym (spot_is p.0 p.1)) p.2);
    }

module _ (xs technology room : List ℕ) where
  layout-first : (n : ℕ) → layout_refusal xs ≡ suc n → devices_refusal xs technology ≡ suc n
  unfolding devices_refusal
  layout-first n h = rw (h, ne_eqb (suc n) 0 (λ e. omega arith))

  pub turned-away : (e : Refusal) → TurnedAway xs e → Says xs technology room (Err (Refused e)) room
  turned-away (Nodes p) h = ((layout-first 0 h.0, h), refl)
  turned-away (Number p) h = ((layout-first 1 h.0, h), refl)
  turned-away (Node p) h = ((layout-first 1 h.0, h), refl)
  turned-away (Boxes p) h = ((layout-first 2 h.0, h), refl)
  turned-away (Regions p) h = absurd h
  turned-away (Region p) h = absurd h
  turned-away (OfTechnology p) h = absurd h
  turned-away (Spots p) h = absurd h
  turned-away (Room p) h = absurd h
  turned-away (Circuit p) h = absurd h
  turned-away (Text p) h = absurd h

  module _ (taken : layout_refusal xs ≡ 0) where
    pub technology-away : technology_ok technology ≡ false → Says xs technology room (Err (Refused (OfTechnology (length technology)))) room
    unfolding devices_refusal
    technology-away h = ((rw (taken, h), refl), refl)

    module _ (ok : technology_ok technology ≡ true) where
      none-away : devices_refusal xs technology ≡ 0
      unfolding devices_refusal
      none-away = rw (taken, ok)

      pub no-memory : Says xs technology room (Err Memory) room
      no-memory = (none-away, refl)

      module _ (k : Technology) (d : Drawing) (same : k ≡ technology_in technology) (drawn : (l x y : ℕ) → d l x y ≡ layout_in xs l x y) where
        -- what holds of the boxes holds of the layout
        carried : (P : Technology → Drawing → Type 0) → P k d → P (technology_in technology) (layout_in xs)
        carried P h = subst (P (technology_in technology)) (λ i l x y. drawn l x y i) (subst (λ v. P v d) same h)

        pub odd-shown : (x y : ℕ) → OddAt k d (spot_of k x y) → Says xs technology room (Ok (Odd x y)) room
        odd-shown x y h = (none-away, carried (λ v e. OddAt v e (spot_of v x y)) h, refl)

        module _ (vs : List Device) (all : Enumerated k d vs) where
          pub too-little : length room / 6 < length vs → Says xs technology room (Err (Refused (Room (length room)))) room
          too-little h = ((none-away, refl, carried (λ v e. Crowded v e room) (crowded k d vs all room h)), refl)

          pub read_all : (room₁ : List ℕ) → length vs ≤ length room / 6 → Written vs (length vs) room room₁ → ReadInto xs technology room (length vs) room₁
          read_all room₁ h w = record {
            taken = none-away;
            long = w.long;
            fits = omega arith;
            listed = carried (λ v e. Listed v e (length vs) room₁) (listed k d vs all room room₁ w);
            beyond = w.beyond;
          }
