-- Circuits in numbers, and what is lent to the comparison. Assumes nothing.
use Rattle.std.proofs.Common.{◌≡◌, ℕ, zero, suc, ◌+◌, ◌-◌, ◌*◌, ◌/◌, ◌%◌, ◌<◌, ◌≤◌, min, true, false, cond, ◌&&◌, eqb, leb, ltb, List, [], ◌∷◌, length, get_or, take, sym, refl, ap, ap₂, ◌∙◌, subst, inl, inr, arith}
use native.Mathlib.Numerals.{add-three}
use Rattle.std.proofs.lemmas.Bool.{cases_Bool, cases_lt, eq-eqb, eqb-true, lt-ltb, le-ltb, le-leb, lt-leb, leb-true, and_parts, and_from}
use Rattle.std.proofs.lemmas.List.{same_lists, length-take-le, get_or-take, get_or_default, get_or_past, take_all}
use Rattle.std.specs.List.{list_all, sum_by}
use Rattle.circuits.specs.Circuits.{Same}
use Rattle.circuits.specs.declared.netlist.Device.{Device}
use Rattle.circuits.specs.Laws.{BelowNets}
use Rattle.circuits.specs.Netlists.{fits, has, Netlist, threes, all_at_most, device_at, devices_in, none, circuit_ok, Below}
use Rattle.circuits.specs.Pairings.{Partners, Has, at, Paired, Missing, Named, Pairable}
use Rattle.std.specs.Option.{unwrap_or}
use Rattle.circuits.proofs.Partners.{held}
use Rattle.circuits.proofs.Sums.{sum_by-is}
use Rattle.circuits.proofs.Isos.{to-iso, from-iso}

pub threes-is : (xs : List ℕ) → threes xs ≡ length xs / 3
unfolding threes
threes-is [] = refl
threes-is (a ∷ []) = refl
threes-is (a ∷ (b ∷ [])) = refl
threes-is (a ∷ (b ∷ (c ∷ xs))) = omega (arith, threes-is xs)

pub devices-length : (xs : List ℕ) → length (devices_in xs) ≡ length xs / 3
unfolding devices_in
devices-length [] = refl
devices-length (a ∷ []) = refl
devices-length (a ∷ (b ∷ [])) = refl
devices-length (a ∷ (b ∷ (c ∷ xs))) = omega (arith, devices-length xs)

getD_three : (a b c : ℕ) (xs : List ℕ) (k : ℕ) → get_or (a ∷ (b ∷ (c ∷ xs))) (k + 3) 0 ≡ get_or xs k 0
getD_three a b c xs k = ap (λ n. get_or (a ∷ (b ∷ (c ∷ xs))) n 0) (add-three k)

abbrev pub three_at : List ℕ → ℕ → Device
three_at xs i = record { gate = get_or xs (3 * i) 0; one = get_or xs (3 * i + 1) 0; other = get_or xs (3 * i + 2) 0 }

device-three : (a b c : ℕ) (xs : List ℕ) (i : ℕ) → three_at (a ∷ (b ∷ (c ∷ xs))) (suc i) ≡ three_at xs i
device-three a b c xs i =
    let zs = a ∷ (b ∷ (c ∷ xs)) in
    let i₀ : 3 * suc i ≡ 3 * i + 3 = omega arith in
    let i₁ : 3 * suc i + 1 ≡ 3 * i + 1 + 3 = omega arith in
    let i₂ : 3 * suc i + 2 ≡ 3 * i + 2 + 3 = omega arith in
    let g : get_or zs (3 * suc i) 0 ≡ get_or xs (3 * i) 0 = ap (λ n. get_or zs n 0) i₀ ∙ getD_three a b c xs (3 * i) in
    let p : get_or zs (3 * suc i + 1) 0 ≡ get_or xs (3 * i + 1) 0 = ap (λ n. get_or zs n 0) i₁ ∙ getD_three a b c xs (3 * i + 1) in
    let q : get_or zs (3 * suc i + 2) 0 ≡ get_or xs (3 * i + 2) 0 = ap (λ n. get_or zs n 0) i₂ ∙ getD_three a b c xs (3 * i + 2) in
    λ t. record { gate = g t; one = p t; other = q t }

pub devices-at : (xs : List ℕ) (i : ℕ) → i < length xs / 3 → get_or (devices_in xs) i none ≡ three_at xs i
unfolding devices_in
devices-at [] i h = absurd (omega arith)
devices-at (a ∷ []) i h = absurd (omega arith)
devices-at (a ∷ (b ∷ [])) i h = absurd (omega arith)
devices-at (a ∷ (b ∷ (c ∷ xs))) zero h = refl
devices-at (a ∷ (b ∷ (c ∷ xs))) (suc i) h = devices-at xs i (omega arith) ∙ sym (device-three a b c xs i)

-- the device at a place, as it is read
pub read-there : (xs : List ℕ) (i : ℕ) → 3 * i + 2 < length xs → three_at xs i ≡ get_or (devices_in xs) i none
read-there xs i h = sym (devices-at xs i (omega arith))

pub read-behind : (xs : List ℕ) (i : ℕ) → length xs ≤ 3 * i + 2 → none ≡ get_or (devices_in xs) i none
read-behind xs i h = sym (get_or_past (devices_in xs) i none (omega (arith, devices-length xs)))

-- nets lie below what all numbers lie below
pub devices-low : (m : ℕ) (xs : List ℕ) → 0 < m → ((k : ℕ) → k < length xs → get_or xs k 0 < m) → (i : ℕ) → Below m (device_at (devices_in xs) i)
devices-low m xs some low i = elim (cases_lt i (length xs / 3)) [
  | inl l ↦ subst (Below m) (read-there xs i (omega arith)) (low (3 * i) (omega arith), low (3 * i + 1) (omega arith), low (3 * i + 2) (omega arith))
  | inr h ↦ subst (Below m) (read-behind xs i (omega arith)) (some, some, some)
]

pub at_most_all : (m : ℕ) (xs : List ℕ) → all_at_most m xs ≡ true → (k : ℕ) → k < length xs → get_or xs k 0 ≤ m
unfolding all_at_most
at_most_all m [] e k h = absurd (omega arith)
at_most_all m (x ∷ xs) e zero h = leb-true x m (and_parts (leb x m) (all_at_most m xs) e).0
at_most_all m (x ∷ xs) e (suc k) h = at_most_all m xs (and_parts (leb x m) (all_at_most m xs) e).1 k (omega arith)

pub at_most_from : (m : ℕ) (xs : List ℕ) → ((k : ℕ) → k < length xs → get_or xs k 0 ≤ m) → all_at_most m xs ≡ true
unfolding all_at_most
at_most_from m [] h = refl
at_most_from m (x ∷ xs) h = and_from (leb x m) (all_at_most m xs) (le-leb x m (h 0 (omega arith))) (at_most_from m xs (λ k l. h (suc k) (omega arith)))

-- the same test, as the code makes it
pub all_below : (n : ℕ) (xs : List ℕ) → 1 ≤ n → list_all (λ x. ltb x n) xs ≡ all_at_most (n - 1) xs
unfolding all_at_most
all_below n [] h = refl
all_below n (x ∷ xs) h = ap₂ ◌&&◌ (below n x h) (all_below n xs h)
  where
    below : (n x : ℕ) → 1 ≤ n → ltb x n ≡ leb x (n - 1)
    below n x h = elim (cases_lt x n) [
      | inl l ↦ lt-ltb x n l ∙ sym (le-leb x (n - 1) (omega arith))
      | inr g ↦ le-ltb x n g ∙ sym (lt-leb x (n - 1) (omega arith))
    ]

pub record Sound (n : ℕ) (xs : List ℕ) : Type 0 where
  pub threes : length xs % 3 ≡ 0
  pub few : length xs / 3 ≤ 256
  pub some : 1 ≤ n
  pub nets : n ≤ 256
  pub low : all_at_most (n - 1) xs ≡ true

pub ok_sound : (n : ℕ) (xs : List ℕ) → circuit_ok n xs ≡ true → Sound n xs
unfolding circuit_ok
ok_sound n xs e =
    let a = and_parts (eqb (length xs) (3 * threes xs)) _ e in
    let b = and_parts (leb (threes xs) 256) _ a.1 in
    let c = and_parts (leb 1 n) _ b.1 in
    let d = and_parts (leb n 256) _ c.1 in
    let t = threes-is xs in
    record {
      threes = omega (arith, eqb-true _ _ a.0, t);
      few = omega (arith, leb-true _ _ b.0, t);
      some = leb-true _ _ c.0;
      nets = leb-true _ _ d.0;
      low = d.1;
    }

pub sound_ok : (n : ℕ) (xs : List ℕ) → length xs % 3 ≡ 0 → length xs / 3 ≤ 256 → 1 ≤ n → n ≤ 256 → circuit_ok n xs ≡ all_at_most (n - 1) xs
unfolding circuit_ok
sound_ok n xs a b c d =
    let t = threes-is xs in
    let e₁ = eq-eqb (length xs) (3 * threes xs) (omega arith) in
    let e₂ = le-leb (threes xs) 256 (omega arith) in
    let e₃ = le-leb 1 n c in
    let e₄ = le-leb n 256 d in
    rw (e₁, e₂, e₃, e₄) refl

pub unsound : (n : ℕ) (xs : List ℕ) → (Sound n xs → ⊥) → false ≡ circuit_ok n xs
unsound n xs h = elim (cases_Bool (circuit_ok n xs)) [ inl e ↦ absurd (h (ok_sound n xs e)) | inr e ↦ sym e ]

pub ok_low : (n : ℕ) (xs : List ℕ) → circuit_ok n xs ≡ true → (k : ℕ) → k < length xs → get_or xs k 0 < n
ok_low n xs e k l = let s = ok_sound n xs e in omega (arith, at_most_all (n - 1) xs s.low k l, s.some)

pub ok_byte : (n : ℕ) (xs : List ℕ) → circuit_ok n xs ≡ true → (k : ℕ) → k < length xs → get_or xs k 0 ≤ 255
ok_byte n xs e k l = omega (arith, ok_low n xs e k l, (ok_sound n xs e).nets)

pub ok_netlist : (n : ℕ) (xs : List ℕ) → circuit_ok n xs ≡ true → Netlist n (devices_in xs)
ok_netlist n xs e =
    let s = ok_sound n xs e in
    record {
      some = s.nets;
      few = omega (arith, s.few, devices-length xs);
      nets = λ i _. devices-low n xs s.some (ok_low n xs e) i;
    }

-- a room whose front has been read
pub room_is : (xs : List ℕ) (room : List Device) → length room ≡ 256 → length xs / 3 ≤ 256 → ((i : ℕ) → i < 256 → get_or room i none ≡ get_or (devices_in xs) i none) → take (length xs / 3) room ≡ devices_in xs
room_is xs room long few h =
    let fits = length-take-le (length xs / 3) room (omega arith) in
    same_lists (take (length xs / 3) room) (devices_in xs) (fits ∙ sym (devices-length xs))
    (λ k d l.
    get_or-take (length xs / 3) room k d (omega (arith, l, fits))
    ∙ (get_or_default room k d none (omega (arith, l, fits))
    ∙ (h k (omega (arith, l, fits)) ∙ get_or_default (devices_in xs) k none d (omega (arith, l, fits, devices-length xs)))))

-- how many devices of a list are like one
pub counted : (vs : List Device) (t : Device) → sum_by (λ p. cond (fits p t) 1 0) vs ≡ has vs t
counted vs t = ap (sum_by (λ p. cond (fits p t) 1 0)) (sym (take_all (length vs) vs (omega arith))) ∙ sum_by-is (λ p. cond (fits p t) 1 0) vs none (length vs) (omega arith)

pub named-paired : (m n named : ℕ) (to : Partners) → named ≤ m → named ≤ n → m ≤ 256 → n ≤ 256 → Named named to → Paired m n to to
named-paired m n named to hm hn sm sn p =
    let own : (k x : ℕ) → k ≤ 256 → x < k → Has to x → x < named = λ k x s l q. named-low x (omega arith) q in
    record {
      there = λ x l q. let w = own m x sm l q in let e : at to x ≡ x = ap (λ o. unwrap_or o 256) (p.low x (omega arith) w) in (omega (arith, e), ap (at to) e ∙ e);
      backs = λ x l q. let w = own n x sn l q in let e : at to x ≡ x = ap (λ o. unwrap_or o 256) (p.low x (omega arith) w) in (omega (arith, e), ap (at to) e ∙ e);
    }
  where
    named-low : (x : ℕ) → x < 256 → Has to x → x < named
    named-low x l q = elim (cases_lt x named) [ inl w ↦ w | inr w ↦ absurd (q (p.high x l w)) ]

-- the entry's answer, both ways
module _ (m n named : ℕ) (as' bs : List Device) (ca : Netlist m as') (cb : Netlist n bs) (to : Partners) (hm : named ≤ m) (p : Named named to) where
  below_nets : (n : ℕ) (vs : List Device) → Netlist n vs → BelowNets n vs none
  unfolding BelowNets
  below_nets n vs c i l = c.nets i l

  pub same_from : Pairable m n as' bs to → Same m n as' bs named none
  same_from w =
      from-iso m n as' bs named none (below_nets m as' ca) w.0 w.1 (below_nets n bs cb) w.2
      (λ x l. let e : at to x ≡ x = ap (λ o. unwrap_or o 256) (p.low x (omega (arith, ca.some)) l) in w.3 x (omega arith) (held to x x e (omega (arith, ca.some))) ∙ e)

  pub not_same : Missing m n as' bs to → Same m n as' bs named none → ⊥
  not_same h s =
      h s.net s.net_back (to-iso m n as' bs named none (below_nets m as' ca) s)
      (λ x l q. elim (cases_lt x named) [ inl w ↦ s.keeps x w ∙ sym (ap (λ o. unwrap_or o 256) (p.low x (omega (arith, ca.some)) w)) | inr w ↦ absurd (q (p.high x (omega (arith, ca.some)) w)) ])

pub names-not : (named m n : ℕ) → min m n < named → (leb named m && leb named n) ≡ false
names-not named m n h = elim (cases_Bool (leb named m && leb named n)) [
  | inl e ↦ let w = and_parts (leb named m) _ e in absurd (omega (arith, leb-true _ _ w.0, leb-true _ _ w.1))
  | inr e ↦ e
]

-- what holds of two circuits as they were made holds of them as they were given
pub as_given :
    (P : ℕ → ℕ → List Device → List Device → Type 0) (m n : ℕ) (as' bs : List Device) {m' n' : ℕ} {as'' bs' : List Device} → m ≡ m' → n ≡ n' → as' ≡ as'' → bs ≡ bs' →
    P m n as' bs → P m' n' as'' bs'
as_given P m n as' bs {m'} {n'} {as''} em en ea eb h =
    subst (P m' n' as'') eb (subst (λ v. P m' n' v bs) ea (subst (λ v. P m' v as' bs) en (subst (λ v. P v n as' bs) em h)))
