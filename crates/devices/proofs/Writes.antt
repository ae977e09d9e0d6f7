-- Six numbers for each device, one device after another.
use Rattle.std.proofs.Common.{◌≡◌, ℕ, ◌+◌, ◌*◌, ◌<◌, ◌≢◌, List, length, get_or, set, sym, refl, ◌∙◌, subst, inl, inr, arith, get_or-set_other, get_or-set_same}
use Rattle.std.proofs.lemmas.List.{length-set}
use Rattle.std.proofs.lemmas.Bool.{cases_lt}
use Rattle.devices.specs.declared.reading.Device.{Device}
use Rattle.devices.specs.Readings.{device_at, Written}

-- x and y stand at a, and the rest is as it was
pub record Put (a x y : ℕ) (xs ys : List ℕ) : Type 0 where
  pub long : length ys ≡ length xs
  pub here : get_or ys a 0 ≡ x
  pub next : get_or ys (a + 1) 0 ≡ y
  pub rest : (j : ℕ) → j ≢ a → j ≢ a + 1 → get_or ys j 0 ≡ get_or xs j 0

pub put-from : (a x y : ℕ) (xs ys : List ℕ) → a + 1 < length xs → ys ≡ set (set xs a x) (a + 1) y → Put a x y xs ys
put-from a x y xs ys h e = subst (Put a x y xs) (sym e) (record {
  long = length-set (set xs a x) (a + 1) y ∙ length-set xs a x;
  here = get_or-set_other (set xs a x) (a + 1) a y 0 (omega arith) ∙ get_or-set_same xs a x 0 (omega arith);
  next = get_or-set_same (set xs a x) (a + 1) y 0 (omega (arith, length-set xs a x));
  rest = λ j p q. get_or-set_other (set xs a x) (a + 1) j y 0 q ∙ get_or-set_other xs a j x 0 p;
})

pub written_none : (vs : List Device) (room : List ℕ) → Written vs 0 room room
written_none vs room = record {
  long = refl;
  spot = λ i h. absurd (omega arith);
  one = λ i h. absurd (omega arith);
  other = λ i h. absurd (omega arith);
  beyond = λ j h. refl;
}

module _ (vs : List Device) (n : ℕ) (room xs ys zs us : List ℕ) where
  pub written-more :
      Written vs n room xs → Put (6 * n) (device_at vs n).x (device_at vs n).y xs ys → Put (6 * n + 2) (device_at vs n).one.x (device_at vs n).one.y ys zs →
      Put (6 * n + 4) (device_at vs n).other.x (device_at vs n).other.y zs us → Written vs (n + 1) room us
  written-more old p q r = record {
    long = r.long ∙ (q.long ∙ (p.long ∙ old.long));
    spot = λ i h. elim (cases_lt i n) [
      | inl l ↦ (kept (6 * i) (omega arith) ∙ (old.spot i l).0, kept (6 * i + 1) (omega arith) ∙ (old.spot i l).1)
      | inr g ↦ let e : n ≡ i = omega arith in
          subst (λ m. (get_or us (6 * m) 0 ≡ (device_at vs m).x) × (get_or us (6 * m + 1) 0 ≡ (device_at vs m).y)) e
          (r.rest (6 * n) (omega arith) (omega arith) ∙ (q.rest (6 * n) (omega arith) (omega arith) ∙ p.here), r.rest (6 * n + 1) (omega arith) (omega arith) ∙ (q.rest (6 * n + 1) (omega arith) (omega arith) ∙ p.next))
    ];
    one = λ i h. elim (cases_lt i n) [
      | inl l ↦ (kept (6 * i + 2) (omega arith) ∙ (old.one i l).0, kept (6 * i + 2 + 1) (omega arith) ∙ (old.one i l).1)
      | inr g ↦ let e : n ≡ i = omega arith in
          subst (λ m. (get_or us (6 * m + 2) 0 ≡ (device_at vs m).one.x) × (get_or us (6 * m + 2 + 1) 0 ≡ (device_at vs m).one.y)) e
          (r.rest (6 * n + 2) (omega arith) (omega arith) ∙ q.here, r.rest (6 * n + 2 + 1) (omega arith) (omega arith) ∙ q.next)
    ];
    other = λ i h. elim (cases_lt i n) [
      | inl l ↦ (kept (6 * i + 4) (omega arith) ∙ (old.other i l).0, kept (6 * i + 4 + 1) (omega arith) ∙ (old.other i l).1)
      | inr g ↦ let e : n ≡ i = omega arith in
          subst (λ m. (get_or us (6 * m + 4) 0 ≡ (device_at vs m).other.x) × (get_or us (6 * m + 4 + 1) 0 ≡ (device_at vs m).other.y)) e (r.here, r.next)
    ];
    beyond = λ j h. r.rest j (omega arith) (omega arith) ∙ (q.rest j (omega arith) (omega arith) ∙ (p.rest j (omega arith) (omega arith) ∙ old.beyond j (omega arith)));
  }
    where
      kept : (j : ℕ) → j < 6 * n → get_or us j 0 ≡ get_or xs j 0
      kept j h = r.rest j (omega arith) (omega arith) ∙ (q.rest j (omega arith) (omega arith) ∙ p.rest j (omega arith) (omega arith))
