-- One place more is numbered.
use Rattle.std.proofs.Common.{◌≡◌, ℕ, zero, suc, ◌+◌, ◌<◌, ◌≤◌, cond, ltb, ◌⊎◌, List, length, get_or, set, Some, None, Option, sym, refl, ap, ◌∙◌, inl, inr, add-one, arith, length-set, get_or-set_other, get_or-set_same, below_more}
use Rattle.std.proofs.lemmas.Bool.{cases_eq, lt-ltb, le-ltb}
use Rattle.groups.specs.Numbers.{highest, Earlier, First, Numbered, Given}

-- a write at i or past it leaves the largest of those before
highest-set : (ns : List ℕ) (k i x : ℕ) → i ≤ k → highest (set ns k x) i ≡ highest ns i
unfolding highest
highest-set ns k zero x h = refl
highest-set ns k (suc i) x h = rw (get_or-set_other ns k i x 0 (omega arith), highest-set ns k i x (omega arith))

highest-at : (ns : List ℕ) (i : ℕ) → highest ns (i + 1) ≡ cond (ltb (highest ns i) (get_or ns i 0)) (get_or ns i 0) (highest ns i)
unfolding highest
highest-at ns i = rw add-one refl

-- the largest once more, where a number is written at i
module _ (ns : List ℕ) (i x : ℕ) (here : i < length ns) where
  highest-new : highest ns i < x → highest (set ns i x) (i + 1) ≡ x
  highest-new l = highest-at (set ns i x) i ∙ rw (get_or-set_same ns i x 0 here, highest-set ns i i x (omega arith), lt-ltb (highest ns i) x l)

  highest-old : x ≤ highest ns i → highest (set ns i x) (i + 1) ≡ highest ns i
  highest-old l = highest-at (set ns i x) i ∙ rw (get_or-set_same ns i x 0 here, highest-set ns i i x (omega arith), le-ltb (highest ns i) x l)

module _ (f : ℕ → ℕ) (item : ℕ → Option ℕ) where
  earlier-set : (ns : List ℕ) (i k x r n : ℕ) → i ≤ k → Earlier f item ns i r n → Earlier f item (set ns k x) i r n
  earlier-set ns i k x r n h e = record {
    place = e.place;
    what = e.what;
    before = e.before;
    here = e.here;
    same = e.same;
    number = get_or-set_other ns k e.place x 0 (omega (arith, e.before)) ∙ e.number;
  }

  earlier_more : (ns : List ℕ) (i r n : ℕ) → Earlier f item ns i r n → Earlier f item ns (i + 1) r n
  earlier_more ns i r n e = record {
    place = e.place;
    what = e.what;
    before = omega (arith, e.before);
    here = e.here;
    same = e.same;
    number = e.number;
  }

  first_more : (i r : ℕ) → First f item i r → ((b : ℕ) → item i ≡ Some b → f b ≡ r → ⊥) → First f item (i + 1) r
  first_more i r old new j b h = below_more (λ j. item j ≡ Some b → f b ≡ r → ⊥) i (λ j l. old j b l) (new b) j h

  Is : (ns : List ℕ) (i : ℕ) → Type 0
  Is ns i =
      (item i ≡ None → get_or ns i 0 ≡ 0)
      × ((a : ℕ) → item i ≡ Some a → Earlier f item ns i (f a) (get_or ns i 0) ⊎ (First f item i (f a) × (get_or ns i 0 ≡ suc (highest ns i))))

  is_set : (ns : List ℕ) (i k x : ℕ) → i < k → Is ns i → Is (set ns k x) i
  unfolding Is
  is_set ns i k x h old = (
    λ e. get_or-set_other ns k i x 0 (omega arith) ∙ old.0 e,
    λ a e. rw (get_or-set_other ns k i x 0 (omega arith), highest-set ns k i x (omega arith)) (elim (old.1 a e) [
      | inl p ↦ inl (earlier-set ns i k x (f a) (get_or ns i 0) (omega arith) p)
      | inr p ↦ inr p
    ]),
  )

  numbered_more : (ns : List ℕ) (i x : ℕ) → Numbered f item i ns → Is (set ns i x) i → Numbered f item (i + 1) (set ns i x)
  unfolding Is
  numbered_more ns i x old here =
      let all : (k : ℕ) → k < i + 1 → Is (set ns i x) k = below_more (Is (set ns i x)) i (λ k h. is_set ns k i x h (old.none k h, λ a. old.some k a h)) here in
      record { none = λ k h. (all k h).0; some = λ k a h. (all k h).1 a }

-- the loop over places: the first i are numbered, count is the largest number, and seen has the number of each root that came
pub record Going (f : ℕ → ℕ) (item : ℕ → Option ℕ) (i : ℕ) (seen : List (Option ℕ)) (count : ℕ) (ns : List ℕ) : Type 0 where
  pub numbered : Numbered f item i ns
  pub largest : count ≡ highest ns i
  pub few : count ≤ i
  pub each : (r : ℕ) → ((get_or seen r None ≡ None) × First f item i r) ⊎ ((n : ℕ) × (get_or seen r None ≡ Some n) × (n ≤ count) × Earlier f item ns i r n)

pub going-none : (f : ℕ → ℕ) (item : ℕ → Option ℕ) (seen : List (Option ℕ)) (ns : List ℕ) → ((r : ℕ) → get_or seen r None ≡ None) → Going f item 0 seen 0 ns
unfolding highest
going-none f item seen ns fresh = record {
  numbered = record { none = λ k h. absurd (omega arith); some = λ k a h. absurd (omega arith) };
  largest = refl;
  few = omega arith;
  each = λ r. inl (fresh r, λ j b h. absurd (omega arith));
}

some_apart : {X : Type 0} (o : Option ℕ) (a : ℕ) → o ≡ None → o ≡ Some a → X
some_apart o a p q = let z : ◌≡◌ {A = ℕ} 0 1 = cc in absurd (omega arith)

same_some : (o : Option ℕ) (a b : ℕ) → o ≡ Some a → o ≡ Some b → a ≡ b
same_some o a b p q = cc

module _ (f : ℕ → ℕ) (item : ℕ → Option ℕ) (i : ℕ) (seen : List (Option ℕ)) (count : ℕ) (ns : List ℕ) (here : i < length ns) (old : Going f item i seen count ns) where
  pub going-empty : item i ≡ None → Going f item (i + 1) seen count (set ns i 0)
  unfolding Is
  going-empty e = record {
    numbered = numbered_more f item ns i 0 old.numbered (λ _. get_or-set_same ns i 0 0 here, λ a q. some_apart _ a e q);
    largest = old.largest ∙ sym (highest-old ns i 0 here (omega arith));
    few = omega (arith, old.few);
    each = λ r. elim (old.each r) [
      | inl p ↦ inl (p.0, first_more f item i r p.1 (λ b q. some_apart _ b e q))
      | inr p ↦ inr (p.0, p.1, p.2, earlier_more f item (set ns i 0) i r _ (earlier-set f item ns i i 0 r _ (omega arith) p.3))
    ];
  }

  -- an item whose root came before
  pub going-again : (a n : ℕ) → item i ≡ Some a → get_or seen (f a) None ≡ Some n → Going f item (i + 1) seen count (set ns i n)
  unfolding Is
  going-again a n e is =
      let came : (n ≤ count) × Earlier f item ns i (f a) n =
      elim (old.each (f a)) [ inl p ↦ some_apart _ n p.0 is | inr p ↦ let s = same_some _ p.0 n p.1 is in rw (← s) (p.2, p.3) ] in
      record {
        numbered = numbered_more f item ns i n old.numbered (
          λ q. some_apart _ a q e,
          λ b q. inl (rw (get_or-set_same ns i n 0 here, ap f (same_some _ b a q e)) (earlier-set f item ns i i n (f a) n (omega arith) came.1)),
        );
        largest = old.largest ∙ sym (highest-old ns i n here (omega (arith, came.0, old.largest)));
        few = omega (arith, old.few);
        each = λ r. elim (old.each r) [
          | inl p ↦ inl (p.0, first_more f item i r p.1 (λ b q w. some_apart _ n (ap (λ k. get_or seen k None) (ap f (same_some _ a b e q) ∙ w) ∙ p.0) is))
          | inr p ↦ inr (p.0, p.1, p.2, earlier_more f item (set ns i n) i r _ (earlier-set f item ns i i n r _ (omega arith) p.3))
        ];
      }

  -- an item whose root is new
  pub going-new : (a n : ℕ) → item i ≡ Some a → f a < length seen → get_or seen (f a) None ≡ None → n ≡ count + 1 → Going f item (i + 1) (set seen (f a) (Some n)) n (set ns i n)
  unfolding Is
  going-new a n e room none is =
      let first : First f item i (f a) = elim (old.each (f a)) [ inl p ↦ p.1 | inr p ↦ some_apart _ p.0 none p.1 ] in
      record {
        numbered = numbered_more f item ns i n old.numbered (
          λ q. some_apart _ a q e,
          λ b q. inr (
            rw (ap f (same_some _ b a q e)) first,
            rw (get_or-set_same ns i n 0 here, highest-set ns i i n (omega arith)) (omega (arith, old.largest)),
          ),
        );
        largest = sym (highest-new ns i n here (omega (arith, old.largest)));
        few = omega (arith, old.few);
        each = λ r. elim (cases_eq r (f a)) [
          | inl w ↦ inr (rw (w, get_or-set_same seen (f a) (Some n) None room)
              (n, refl, omega arith, record { place = i; what = a; before = omega arith; here = e; same = refl; number = get_or-set_same ns i n 0 here }))
          | inr w ↦ rw (get_or-set_other seen (f a) r (Some n) None w) (elim (old.each r) [
            | inl p ↦ inl (p.0, first_more f item i r p.1 (λ b q v. w (sym v ∙ ap f (same_some _ b a q e))))
            | inr p ↦ inr (p.0, p.1, omega (arith, p.2), earlier_more f item (set ns i n) i r _ (earlier-set f item ns i i n r _ (omega arith) p.3))
          ])
        ];
      }

  pub going-some :
      (a root r : ℕ) (seen₁ : List (Option ℕ)) (count₁ : ℕ) → item i ≡ Some a → root ≡ f a → root < length seen →
      Given seen count root seen₁ count₁ r → Going f item (i + 1) seen₁ count₁ (set ns i r)
  going-some a root r seen₁ count₁ e is room (inl g) =
      rw (g.1, g.2) (going-again a r e (ap (λ k. get_or seen k None) (sym is) ∙ g.0))
  going-some a root r seen₁ count₁ e is room (inr g) =
      rw (g.2, g.3, is) (going-new a r e (omega arith) (ap (λ k. get_or seen k None) (sym is) ∙ g.0) g.1)

-- a number given leaves as many roots
pub given_length : (seen : List (Option ℕ)) (count root : ℕ) (seen₁ : List (Option ℕ)) (count₁ r : ℕ) → Given seen count root seen₁ count₁ r → length seen₁ ≡ length seen
given_length seen count root seen₁ count₁ r (inl g) = ap length g.1
given_length seen count root seen₁ count₁ r (inr g) = ap length g.2 ∙ length-set seen root (Some r)
