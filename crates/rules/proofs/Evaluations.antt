-- Terms evaluated in their order, and the squares that break a rule. Assumes nothing.
use Rattle.std.proofs.Common.{◌≡◌, ℕ, zero, suc, ◌+◌, ◌-◌, ◌*◌, ◌^◌, ◌<◌, ◌≤◌, Bool, true, not, ◌&&◌, ◌||◌, List, [], ◌∷◌, length, get_or, vec_items, sym, refl, ap, ◌∙◌, subst, inl, inr, arith, length-append}
use Rattle.std.proofs.lemmas.Bool.{cases_lt, cases_eq}
use Rattle.std.proofs.lemmas.List.{get_or_append_left, get_or-append_right}
use Rattle.layout.specs.Layout.{Drawing}
use Rattle.scanline.specs.Bands.{covers}
use Rattle.region.specs.Firsts.{Squares}
use Rattle.region.specs.declared.regions.Region.{Region}
use Rattle.blocks.specs.Blocks.{near, in_a_block, free_block}
use Rattle.blocks.specs.Settled.{Settled, Exactly}
use Rattle.blocks.proofs.Counts.{tell_same, near-some, some_near}
use Rattle.blocks.proofs.Dilations.{settled_more}
use Rattle.rules.specs.Rules as rules
use Rattle.rules.specs.Rules.{squares, breaks, surrounded}
use Rattle.rules.specs.Numbers.{max_number}
use Rattle.rules.specs.Terms.{term_region, Names}
use Rattle.rules.specs.Layers.{shows}
use Rattle.rules.specs.Tests.{terms_of}
use Rattle.rules.specs.Values.{values, value, Over, among, Shown, done_at, TermDone, Evaluated}
use Rattle.rules.specs.declared.term.Term.{Term}
use Rattle.rules.specs.declared.term.Term.TheVariants.{Layer, And, Or, Without, Grown}
use Rattle.rules.specs.declared.rule.Rule.{Rule}
use Rattle.rules.specs.declared.layers.Layers.{Layers}

-- the values of earlier terms stay

pub values-long : (ts : List Term) (n : ℕ) → length (values ts n) ≡ n
unfolding values
values-long ts zero = refl
values-long ts (suc n) = length-append (values ts n) _ ∙ omega (arith, values-long ts n)

pub value-at : (ts : List Term) (n i : ℕ) → i < n → get_or (values ts n) i (rules.layer 0) ≡ value ts i
unfolding values
value-at ts zero i l = absurd (omega arith)
value-at ts (suc n) i l =
    elim (cases_eq i n) [
      | inl e ↦
          let z : i - n ≡ 0 = omega arith in
          get_or-append_right (values ts n) (value ts n ∷ []) n i (rules.layer 0) (values-long ts n) (omega arith) ∙ ap (λ j. get_or (value ts n ∷ []) j (rules.layer 0)) z ∙ ap (value ts) (sym e)
      | inr e ↦
          let k : i < length (values ts n) = elim (cases_lt i n) [ inl q ↦ omega (arith, values-long ts n) | inr q ↦ absurd (e (omega arith)) ] in
          get_or_append_left (values ts n) (value ts n ∷ []) (rules.layer 0) i k ∙ value-at ts n i (omega (arith, values-long ts n))
    ]

-- sets of squares that are the same everywhere
pub same-squares : (s t : Squares) → ((x y : ℕ) → s x y ≡ t x y) → s ≡ t
same-squares s t h = λ i x y. h x y i

settled_two : (f : Bool → Bool → Bool) (m : ℕ) (s t : Squares) → Settled m s → Settled m t → Settled m (λ x y. f (s x y) (t x y))
settled_two f m s t h g = record {
  columns = λ x y l. ap (λ b. f b (t x y)) (h.columns x y l) ∙ ap (f (s m y)) (g.columns x y l);
  rows = λ x y l. ap (λ b. f b (t x y)) (h.rows x y l) ∙ ap (f (s x m)) (g.rows x y l);
}

settled_near : (n m : ℕ) (s : Squares) → Settled m s → Settled (m + n) (near n s)
settled_near n m s h = record {
  columns = λ x y l. tell_same (near n s x y) (near n s (m + n) y)
      (λ t. let w = near-some n s x y t in
      some_near n s (m + n) y m w.1 (omega arith) (omega arith) w.4 w.5 (sym (h.columns w.0 w.1 (omega (arith, w.3))) ∙ w.6))
      (λ t. let w = near-some n s (m + n) y t in
      some_near n s x y x w.1 (omega arith) (omega arith) w.4 w.5 (h.columns x w.1 (omega arith) ∙ sym (h.columns w.0 w.1 (omega (arith, w.3))) ∙ w.6));
  rows = λ x y l. tell_same (near n s x y) (near n s x (m + n))
      (λ t. let w = near-some n s x y t in
      some_near n s x (m + n) w.0 m w.2 w.3 (omega arith) (omega arith) (sym (h.rows w.0 w.1 (omega (arith, w.5))) ∙ w.6))
      (λ t. let w = near-some n s x (m + n) t in
      some_near n s x y w.0 y w.2 w.3 (omega arith) (omega arith) (h.rows w.0 y (omega arith) ∙ sym (h.rows w.0 w.1 (omega (arith, w.5))) ∙ w.6));
}

-- a region settles as far out as its terms are many
pub reach : ℕ → ℕ → ℕ
reach m n = m + 256 * suc n

module _ (d : Drawing) (m : ℕ) (ts : List Term) (len : ℕ) (settles : (l : ℕ) → Settled m (d l)) (names : (i : ℕ) → i < len → Names i (get_or ts i (Layer 0))) where
  of-term : (n : ℕ) (t : Term) → Names n t → ((i : ℕ) → i < n → Settled (reach m i) (squares d (get_or (values ts n) i (rules.layer 0)))) → Settled (reach m n) (squares d (term_region (λ i. get_or (values ts n) i (rules.layer 0)) t))
  unfolding squares reach
  of-term n (Layer l) h g = settled_more m (m + 256 * suc n) (d l) (omega arith) (settles l)
  of-term n (And a b) h g = settled_two (λ p q. p && q) _ _ _ (settled_more _ (m + 256 * suc n) _ (omega (arith, h.1.0)) (g a h.1.0)) (settled_more _ (m + 256 * suc n) _ (omega (arith, h.1.1.0)) (g b h.1.1.0))
  of-term n (Or a b) h g = settled_two (λ p q. p || q) _ _ _ (settled_more _ (m + 256 * suc n) _ (omega (arith, h.1.0)) (g a h.1.0)) (settled_more _ (m + 256 * suc n) _ (omega (arith, h.1.1.0)) (g b h.1.1.0))
  of-term n (Without a b) h g = settled_two (λ p q. p && not q) _ _ _ (settled_more _ (m + 256 * suc n) _ (omega (arith, h.1.0)) (g a h.1.0)) (settled_more _ (m + 256 * suc n) _ (omega (arith, h.1.1.0)) (g b h.1.1.0))
  of-term n (Grown k a) h g = settled_more (m + 256 * suc a + k) (m + 256 * suc n) _ (omega (arith, h.0, h.1.0)) (settled_near k (m + 256 * suc a) _ (g a h.1.0))

  below : (k n : ℕ) → n < k → n < len → Settled (reach m n) (squares d (value ts n))
  below zero n l q = absurd (omega arith)
  below (suc k) n l q = of-term n (get_or ts n (Layer 0)) (names n q) (λ i j. subst (λ v. Settled (reach m i) (squares d v)) (sym (value-at ts n i j)) (below k i (omega arith) (omega arith)))

  pub settled-value : (n : ℕ) → n < len → Settled (reach m n) (squares d (value ts n))
  settled-value n q = below (suc n) n (omega arith) q

-- one term more
module _ (d : Drawing) (m : ℕ) (s : Layers) (ts : List Term) (len : ℕ) (shown : Shown d m s ts len) (names : (i : ℕ) → i < len → Names i (get_or ts i (Layer 0))) (few : len ≤ 16) (need : List Bool) (n : ℕ) (l : n < len) (done : List Region) (h : Evaluated d ts need n done) where
  earlier : (a : ℕ) (e : Region) → a < n → among need a ≡ true → done_at done a e ≡ squares d (get_or (values ts n) a (rules.layer 0))
  earlier a e q t = same-squares _ _ (λ x y. h.holds a x y e q t ∙ ap (λ v. squares d v x y) (sym (value-at ts n a q)))

  fits-at : (a k : ℕ) → a < n → k ≤ max_number → reach m a + 2 * k < 2 ^ 64
  unfolding reach
  fits-at a k i j = omega (arith, shown.near, few)

  of-done : (e : Region) (t : Term) (v : Region) → Names n t → Over (among need) t → ((k : ℕ) → t ≡ Layer k → (x y : ℕ) → shows s k x y ≡ d k x y) → TermDone s done t v → (x y : ℕ) → covers (vec_items v.bands) x y ≡ squares d (term_region (λ i. get_or (values ts n) i (rules.layer 0)) t) x y
  unfolding squares
  of-done e (Layer k) v q o w td x y = td x y ∙ w k refl x y
  of-done e (And a b) v q o w td x y = td e x y ∙ ap (λ f. f x y && done_at done b e x y) (earlier a e q.1.0 o.0) ∙ ap (λ f. squares d (get_or (values ts n) a (rules.layer 0)) x y && f x y) (earlier b e q.1.1.0 o.1.0)
  of-done e (Or a b) v q o w td x y = td e x y ∙ ap (λ f. f x y || done_at done b e x y) (earlier a e q.1.0 o.0) ∙ ap (λ f. squares d (get_or (values ts n) a (rules.layer 0)) x y || f x y) (earlier b e q.1.1.0 o.1.0)
  of-done e (Without a b) v q o w td x y = td e x y ∙ ap (λ f. f x y && not (done_at done b e x y)) (earlier a e q.1.0 o.0) ∙ ap (λ f. squares d (get_or (values ts n) a (rules.layer 0)) x y && not (f x y)) (earlier b e q.1.1.0 o.1.0)
  of-done e (Grown k a) v q o w td x y =
      let p = earlier a e q.1.0 o.0 in
      let st : Settled (reach m a) (squares d (get_or (values ts n) a (rules.layer 0))) = subst (λ r. Settled (reach m a) (squares d r)) (sym (value-at ts n a q.1.0)) (settled-value d m ts len shown.settles names a (omega (arith, q.1.0))) in
      (subst (λ f. Exactly (2 * k) f (near k f) (covers (vec_items v.bands))) p (td e)).holds (reach m a) (fits-at a k q.1.0 q.0) st x y

  pub evaluated-more : (done' : List Region) (v : Region) → ((k : ℕ) (e : Region) → k < n → get_or done' k e ≡ get_or done k e) → ((e : Region) → get_or done' n e ≡ v) → Names n (get_or ts n (Layer 0)) → (among need n ≡ true → Over (among need) (get_or ts n (Layer 0))) → (among need n ≡ true → TermDone s done (get_or ts n (Layer 0)) v) → Evaluated d ts need (n + 1) done'
  evaluated-more done' v early new q o td = record {
    holds = λ i x y e k t. elim (cases_eq i n) [
      | inl z ↦ subst (λ j. covers (vec_items (get_or done' j e).bands) x y ≡ squares d (value ts j) x y) (sym z)
          (let u : among need n ≡ true = subst (λ j. among need j ≡ true) z t in
          ap (λ w. covers (vec_items w.bands) x y) (new e) ∙ of-done e (get_or ts n (Layer 0)) v q (o u) (λ k z x y. shown.shows_it n k x y l z) (td u) x y)
      | inr z ↦
          let j : i < n = elim (cases_lt i n) [ inl p ↦ p | inr p ↦ absurd (z (omega arith)) ] in
          ap (λ w. covers (vec_items w.bands) x y) (early i e j) ∙ h.holds i x y e j t
    ];
  }

pub evaluated_none : (d : Drawing) (ts : List Term) (need : List Bool) (done : List Region) → Evaluated d ts need 0 done
evaluated_none d ts need done = record { holds = λ i x y e l t. absurd (omega arith) }

-- a rule of regions that are evaluated
module _ (d : Drawing) (m : ℕ) (s : Layers) (r : Rule) (shown : Shown d m s (terms_of r) (length (terms_of r))) (i : ℕ) (l : i < (length (terms_of r))) (A : Squares) (is : (x y : ℕ) → A x y ≡ squares d (value (terms_of r) i) x y) where
  path : A ≡ squares d (value (terms_of r) i)
  path = same-squares A _ is

  settled : Settled (reach m i) (squares d (value (terms_of r) i))
  settled = settled-value d m (terms_of r) (length (terms_of r)) shown.settles r.sound.names i l

  fits : (k : ℕ) → k ≤ max_number → reach m i + 2 * k < 2 ^ 64
  unfolding reach
  fits k q = omega (arith, shown.near, r.sound.few)

  pub wide_is : (R : Squares) (k : ℕ) → k ≤ max_number → Exactly (2 * k) A (λ x y. A x y && not (in_a_block k A x y)) R → (x y : ℕ) → R x y ≡ breaks d (rules.wide (value (terms_of r) i) k) x y
  unfolding breaks
  wide_is R k q h x y = (subst (λ f. Exactly (2 * k) f (λ x y. f x y && not (in_a_block k f x y)) R) path h).holds (reach m i) (fits k q) settled x y

  pub apart-is : (R : Squares) (k : ℕ) → k ≤ max_number → Exactly (2 * k) A (λ x y. not (A x y) && not (free_block k A x y)) R → (x y : ℕ) → R x y ≡ breaks d (rules.apart (value (terms_of r) i) k) x y
  unfolding breaks
  apart-is R k q h x y = (subst (λ f. Exactly (2 * k) f (λ x y. not (f x y) && not (free_block k f x y)) R) path h).holds (reach m i) (fits k q) settled x y

  pub inside_is : (R B : Squares) (j k : ℕ) → ((x y : ℕ) → B x y ≡ squares d (value (terms_of r) j) x y) → k ≤ max_number → Exactly (2 * k) A (λ x y. B x y && not (surrounded k A x y)) R → (x y : ℕ) → R x y ≡ breaks d (rules.inside (value (terms_of r) j) (value (terms_of r) i) k) x y
  unfolding breaks
  inside_is R B j k b q h x y = (subst (λ f. Exactly (2 * k) f (λ x y. B x y && not (surrounded k f x y)) R) path h).holds (reach m i) (fits k q) settled x y ∙ ap (λ v. v && not (surrounded k (squares d (value (terms_of r) i)) x y)) (b x y)

  pub never-is : (R : Squares) → ((x y : ℕ) → R x y ≡ A x y) → (x y : ℕ) → R x y ≡ breaks d (rules.never (value (terms_of r) i)) x y
  unfolding breaks
  never-is R h x y = h x y ∙ is x y
