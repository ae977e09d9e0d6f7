-- Every layout has nets: the spots below its bound, given one name after another where one can step over.
use Rattle.std.proofs.Common.{◌≡◌, ℕ, zero, suc, ◌<◌, Bool, true, false, cond, ◌&&◌, ◌||◌, eqb, ◌⊎◌, List, [], ◌∷◌, ◌++◌, sym, refl, ap, ◌∙◌, subst, inl, inr, arith}
use Rattle.std.specs.List.{AllByRecursion}
use Rattle.std.proofs.ByRecursion.{All-append}
use Rattle.std.proofs.lemmas.Bool.{cases_Bool, cases_eq, and_parts, and_from, or_cases, or_left, or_right, eq-eqb, ne_eqb, eqb-true, both_ways, false≢true, cond-true, cond-false}
use Rattle.layout.specs.Layout.{Drawing, drawn}
use Rattle.nets.specs.Nets.{Technology, wire, Spot, on, Beside, right, left, below, above, Way, stays, along, through, Netted}
use Rattle.nets.specs.Laws.{HasNets}
use Rattle.nets.proofs.Ways.{way-starts, way-ends, ways_on, ways_back}
use Rattle.nets.proofs.Bounds.{BelowAll, drawn_bound}

-- what is in a list

abbrev In : {X : Type 0} → X → List X → Type 0
In x [] = ⊥
In x (y ∷ ys) = (y ≡ x) ⊎ In x ys

in_left : {X : Type 0} (x : X) (xs ys : List X) → In x xs → In x (xs ++ ys)
in_left x [] ys h = absurd h
in_left x (z ∷ xs) ys (inl e) = inl e
in_left x (z ∷ xs) ys (inr h) = inr (in_left x xs ys h)

in_right : {X : Type 0} (x : X) (xs ys : List X) → In x ys → In x (xs ++ ys)
in_right x [] ys h = h
in_right x (z ∷ xs) ys h = inr (in_right x xs ys h)

-- the spots below a bound

abbrev at : ℕ → ℕ → ℕ → Spot
at l x y = record { layer = l; x = x; y = y }

abbrev in_column : (l x n : ℕ) → List Spot
in_column l x zero = []
in_column l x (suc n) = at l x n ∷ in_column l x n

abbrev in_field : (l m n : ℕ) → List Spot
in_field l zero n = []
in_field l (suc m) n = in_column l m n ++ in_field l m n

abbrev in_layers : (k n : ℕ) → List Spot
in_layers zero n = []
in_layers (suc k) n = in_field k n n ++ in_layers k n

below-column : (l x n y : ℕ) → y < n → In (at l x y) (in_column l x n)
below-column l x zero y h = absurd (omega arith)
below-column l x (suc n) y h = elim (cases_eq n y) [ inl e ↦ inl (ap (at l x) e) | inr ne ↦ inr (below-column l x n y (omega arith)) ]

below_field : (l m n x y : ℕ) → x < m → y < n → In (at l x y) (in_field l m n)
below_field l zero n x y h k = absurd (omega arith)
below_field l (suc m) n x y h k =
    elim (cases_eq m x) [
      | inl e ↦ in_left (at l x y) (in_column l m n) (in_field l m n) (subst (λ v. In (at l x y) (in_column l v n)) (sym e) (below-column l x n y k))
      | inr ne ↦ in_right (at l x y) (in_column l m n) (in_field l m n) (below_field l m n x y (omega arith) k)
    ]

below-layers : (k n l x y : ℕ) → l < k → x < n → y < n → In (at l x y) (in_layers k n)
below-layers zero n l x y g h m = absurd (omega arith)
below-layers (suc k) n l x y g h m =
    elim (cases_eq k l) [
      | inl e ↦ in_left (at l x y) (in_field k n n) (in_layers k n) (subst (λ v. In (at l x y) (in_field v n n)) (sym e) (below_field l n n x y h m))
      | inr ne ↦ in_right (at l x y) (in_field k n n) (in_layers k n) (below-layers k n l x y (omega arith) h m)
    ]

-- a spot's place in a list tells it from the others

abbrev same_spot : Spot → Spot → Bool
same_spot s t = eqb s.layer t.layer && (eqb s.x t.x && eqb s.y t.y)

spot-same : (s t : Spot) → same_spot s t ≡ true → s ≡ t
spot-same s t h =
    let p = and_parts (eqb s.layer t.layer) _ h in
    let q = and_parts (eqb s.x t.x) (eqb s.y t.y) p.1 in
    let l = eqb-true s.layer t.layer p.0 in
    let x = eqb-true s.x t.x q.0 in
    let y = eqb-true s.y t.y q.1 in
    λ i. record { layer = l i; x = x i; y = y i }

same_from : (s t : Spot) → s ≡ t → same_spot s t ≡ true
same_from s t e =
    and_from (eqb s.layer t.layer) _ (eq-eqb _ _ (ap (λ v. v.layer) e)) (and_from (eqb s.x t.x) _ (eq-eqb _ _ (ap (λ v. v.x) e)) (eq-eqb _ _ (ap (λ v. v.y) e)))

abbrev place : List Spot → Spot → ℕ
place [] s = 0
place (t ∷ ts) s = cond (same_spot t s) 0 (suc (place ts s))

place-one : (ts : List Spot) (a b : Spot) → In a ts → In b ts → place ts a ≡ place ts b → a ≡ b
place-one [] a b h k e = absurd h
place-one (t ∷ ts) a b h k e =
    elim (cases_Bool (same_spot t a)) [
      | inl p ↦ elim (cases_Bool (same_spot t b)) [
        | inl q ↦ sym (spot-same t a p) ∙ spot-same t b q
        | inr q ↦
            let z : 0 ≡ suc (place ts b) = sym (cond-true (same_spot t a) 0 (suc (place ts a)) p) ∙ (e ∙ cond-false (same_spot t b) 0 (suc (place ts b)) q) in
            absurd (omega arith)
      ]
      | inr p ↦ elim (cases_Bool (same_spot t b)) [
        | inl q ↦
            let z : suc (place ts a) ≡ 0 = sym (cond-false (same_spot t a) 0 (suc (place ts a)) p) ∙ (e ∙ cond-true (same_spot t b) 0 (suc (place ts b)) q) in
            absurd (omega arith)
        | inr q ↦
            let z : suc (place ts a) ≡ suc (place ts b) = sym (cond-false (same_spot t a) 0 (suc (place ts a)) p) ∙ (e ∙ cond-false (same_spot t b) 0 (suc (place ts b)) q) in
            place-one ts a b (rest t a h p) (rest t b k q) (omega arith)
      ]
    ]
  where
    rest : (t a : Spot) → (t ≡ a) ⊎ In a ts → same_spot t a ≡ false → In a ts
    rest t a (inl g) n = absurd (both_ways _ n (same_from t a g))
    rest t a (inr g) n = g

-- names after links were made one by one

abbrev merge : Spot → Spot → (Spot → ℕ) → Spot → ℕ
merge s t f u = cond (eqb (f u) (f t)) (f s) (f u)

abbrev names : List Spot → List (Spot × Spot) → Spot → ℕ
names base [] u = place base u
names base (p ∷ ps) u = merge p.0 p.1 (names base ps) u

merge-cases : (s t : Spot) (f : Spot → ℕ) (u : Spot) → ((f u ≡ f t) × (merge s t f u ≡ f s)) ⊎ ((f u ≡ f t → ⊥) × (merge s t f u ≡ f u))
merge-cases s t f u =
    elim (cases_eq (f u) (f t)) [
      | inl e ↦ inl (e, cond-true (eqb (f u) (f t)) (f s) (f u) (eq-eqb _ _ e))
      | inr n ↦ inr (n, cond-false (eqb (f u) (f t)) (f s) (f u) (ne_eqb _ _ n))
    ]

merge_keeps : (s t : Spot) (f : Spot → ℕ) (a b : Spot) → f a ≡ f b → merge s t f a ≡ merge s t f b
merge_keeps s t f a b e = ap (λ n. cond (eqb n (f t)) (f s) n) e

merge-joins : (s t : Spot) (f : Spot → ℕ) → merge s t f s ≡ merge s t f t
merge-joins s t f =
    let h : merge s t f t ≡ f s = cond-true (eqb (f t) (f t)) (f s) (f t) (eq-eqb _ _ refl) in
    elim (merge-cases s t f s) [ inl p ↦ p.1 ∙ sym h | inr p ↦ p.1 ∙ sym h ]

names-link : (base : List Spot) (ps : List (Spot × Spot)) (s t : Spot) → In (s, t) ps → names base ps s ≡ names base ps t
names-link base [] s t h = absurd h
names-link base (p ∷ ps) s t (inl e) =
    subst (λ q. names base (p ∷ ps) q.0 ≡ names base (p ∷ ps) q.1) e (merge-joins p.0 p.1 (names base ps))
names-link base (p ∷ ps) s t (inr h) = merge_keeps p.0 p.1 (names base ps) s t (names-link base ps s t h)

module _ (k : Technology) (d : Drawing) where
  abbrev Wire : Spot → Type 0
  Wire s = on (wire k d) s ≡ true

  names-sound :
      (base : List Spot) → ((s : Spot) → Wire s → In s base) → (ps : List (Spot × Spot)) → AllByRecursion (λ p. Way k d p.0 p.1) ps →
      (a b : Spot) → Wire a → Wire b → names base ps a ≡ names base ps b → Way k d a b
  names-sound base all [] h a b wa wb e = subst (Way k d a) (place-one base a b (all a wa) (all b wb) e) (stays wa)
  names-sound base all (p ∷ ps) h a b wa wb e =
      let f = names base ps in
      let ws = way-starts k d p.0 p.1 h.0 in
      let wt = way-ends k d p.0 p.1 h.0 in
      elim (merge-cases p.0 p.1 f a) [
        | inl x ↦ elim (merge-cases p.0 p.1 f b) [
          | inl y ↦ names-sound base all ps h.1 a b wa wb (x.0 ∙ sym y.0)
          | inr y ↦ ways_on k d a p.1 b (names-sound base all ps h.1 a p.1 wa wt x.0)
              (ways_on k d p.1 p.0 b (ways_back k d p.0 p.1 h.0) (names-sound base all ps h.1 p.0 b ws wb (sym x.1 ∙ (e ∙ y.1))))
        ]
        | inr x ↦ elim (merge-cases p.0 p.1 f b) [
          | inl y ↦ ways_on k d a p.0 b (names-sound base all ps h.1 a p.0 wa ws (sym x.1 ∙ (e ∙ y.1)))
              (ways_on k d p.0 p.1 b h.0 (names-sound base all ps h.1 p.1 b wt wb (sym y.0)))
          | inr y ↦ names-sound base all ps h.1 a b wa wb (sym x.1 ∙ (e ∙ y.1))
        ]
      ]

  -- a link where a test passes
  abbrev link-if : Bool → Spot → Spot → List (Spot × Spot)
  link-if b s t = cond b ((s, t) ∷ []) []

  link-way : (b : Bool) (s t : Spot) → (b ≡ true → Way k d s t) → AllByRecursion (λ p. Way k d p.0 p.1) (link-if b s t)
  link-way true s t h = (h refl, tt)
  link-way false s t h = tt

  link-in : (b : Bool) (s t : Spot) → b ≡ true → In (s, t) (link-if b s t)
  link-in b s t h = subst (λ v. In (s, t) (link-if v s t)) (sym h) (inl refl)

  -- some layer below n joins the layers of two spots at a square
  abbrev joined_by : (n l m x y : ℕ) → Bool
  joined_by zero l m x y = false
  joined_by (suc j) l m x y = ((k.joins j l m || k.joins j m l) && d j x y) || joined_by j l m x y

  joined-layer :
      (n l m x y : ℕ) → joined_by n l m x y ≡ true → (j : ℕ) × ((k.joins j l m ≡ true) ⊎ (k.joins j m l ≡ true)) × (d j x y ≡ true)
  joined-layer zero l m x y h = absurd (false≢true h)
  joined-layer (suc j) l m x y h =
      elim (or_cases ((k.joins j l m || k.joins j m l) && d j x y) (joined_by j l m x y) h) [
        | inl e ↦ let p = and_parts (k.joins j l m || k.joins j m l) (d j x y) e in (j, or_cases _ _ p.0, p.1)
        | inr e ↦ joined-layer j l m x y e
      ]

  layer-joined :
      (n l m x y j : ℕ) → j < n → (k.joins j l m ≡ true) ⊎ (k.joins j m l ≡ true) → d j x y ≡ true → joined_by n l m x y ≡ true
  layer-joined zero l m x y j h o c = absurd (omega arith)
  layer-joined (suc n) l m x y j h o c =
      elim (cases_eq n j) [
        | inl e ↦ or_left ((k.joins n l m || k.joins n m l) && d n x y) (joined_by n l m x y) (subst (λ v. ((k.joins v l m || k.joins v m l) && d v x y) ≡ true) (sym e)
            (and_from (k.joins j l m || k.joins j m l) (d j x y) (elim o [ inl a ↦ or_left _ (k.joins j m l) a | inr a ↦ or_right (k.joins j l m) _ a ]) c))
        | inr ne ↦ or_right ((k.joins n l m || k.joins n m l) && d n x y) (joined_by n l m x y) (layer-joined n l m x y j (omega arith) o c)
      ]

  -- the links of a spot: to the right, below, and to each layer below n
  abbrev ups : (bound n : ℕ) → Spot → List (Spot × Spot)
  ups bound zero s = []
  ups bound (suc m) s = link-if ((on (wire k d) s && on (wire k d) (at m s.x s.y)) && joined_by bound s.layer m s.x s.y) s (at m s.x s.y) ++ ups bound m s

  abbrev links-at : ℕ → Spot → List (Spot × Spot)
  links-at bound s =
      link-if (on (wire k d) s && on (wire k d) (at s.layer (suc s.x) s.y)) s (at s.layer (suc s.x) s.y)
      ++ (link-if (on (wire k d) s && on (wire k d) (at s.layer s.x (suc s.y))) s (at s.layer s.x (suc s.y)) ++ ups bound bound s)

  ups-way : (bound n : ℕ) (s : Spot) → AllByRecursion (λ p. Way k d p.0 p.1) (ups bound n s)
  ups-way bound zero s = tt
  ups-way bound (suc m) s =
      All-append (λ p. Way k d p.0 p.1) (link-if ((on (wire k d) s && on (wire k d) (at m s.x s.y)) && joined_by bound s.layer m s.x s.y) s (at m s.x s.y)) (ups bound m s)
      (link-way _ s (at m s.x s.y) (λ h.
      let p = and_parts (on (wire k d) s && on (wire k d) (at m s.x s.y)) (joined_by bound s.layer m s.x s.y) h in
      let q = and_parts (on (wire k d) s) (on (wire k d) (at m s.x s.y)) p.0 in
      let j = joined-layer bound s.layer m s.x s.y p.1 in
      through s (at m s.x s.y) j.0 (stays q.0) refl refl j.1 j.2 q.1))
      (ups-way bound m s)

  links-way : (bound : ℕ) (s : Spot) → AllByRecursion (λ p. Way k d p.0 p.1) (links-at bound s)
  links-way bound s =
      All-append (λ p. Way k d p.0 p.1) (link-if (on (wire k d) s && on (wire k d) (at s.layer (suc s.x) s.y)) s (at s.layer (suc s.x) s.y)) _
      (link-way _ s (at s.layer (suc s.x) s.y) (λ h.
      let p = and_parts (on (wire k d) s) (on (wire k d) (at s.layer (suc s.x) s.y)) h in
      along s (at s.layer (suc s.x) s.y) (stays p.0) (right s.layer s.x s.y) p.1))
      (All-append (λ p. Way k d p.0 p.1) (link-if (on (wire k d) s && on (wire k d) (at s.layer s.x (suc s.y))) s (at s.layer s.x (suc s.y))) (ups bound bound s)
      (link-way _ s (at s.layer s.x (suc s.y)) (λ h.
      let p = and_parts (on (wire k d) s) (on (wire k d) (at s.layer s.x (suc s.y))) h in
      along s (at s.layer s.x (suc s.y)) (stays p.0) (below s.layer s.x s.y) p.1))
      (ups-way bound bound s))

  abbrev links : ℕ → List Spot → List (Spot × Spot)
  links bound [] = []
  links bound (s ∷ ss) = links-at bound s ++ links bound ss

  links-sound : (bound : ℕ) (ss : List Spot) → AllByRecursion (λ p. Way k d p.0 p.1) (links bound ss)
  links-sound bound [] = tt
  links-sound bound (s ∷ ss) = All-append (λ p. Way k d p.0 p.1) (links-at bound s) (links bound ss) (links-way bound s) (links-sound bound ss)

  links-in : (bound : ℕ) (ss : List Spot) (s : Spot) (p : Spot × Spot) → In s ss → In p (links-at bound s) → In p (links bound ss)
  links-in bound [] s p h g = absurd h
  links-in bound (r ∷ ss) s p (inl e) g = in_left p (links-at bound r) (links bound ss) (subst (λ v. In p (links-at bound v)) (sym e) g)
  links-in bound (r ∷ ss) s p (inr h) g = in_right p (links-at bound r) (links bound ss) (links-in bound ss s p h g)

  -- each step has its link
  right-in : (bound l x y : ℕ) → Wire (at l x y) → Wire (at l (suc x) y) → In (at l x y, at l (suc x) y) (links-at bound (at l x y))
  right-in bound l x y g h = in_left _ _ _ (link-in _ (at l x y) (at l (suc x) y) (and_from _ _ g h))

  below_in : (bound l x y : ℕ) → Wire (at l x y) → Wire (at l x (suc y)) → In (at l x y, at l x (suc y)) (links-at bound (at l x y))
  below_in bound l x y g h =
      in_right _ (link-if (on (wire k d) (at l x y) && on (wire k d) (at l (suc x) y)) (at l x y) (at l (suc x) y)) _ (in_left _ _ _ (link-in _ (at l x y) (at l x (suc y)) (and_from _ _ g h)))

  up_in : (bound n m : ℕ) (s : Spot) → m < n → Wire s → Wire (at m s.x s.y) → joined_by bound s.layer m s.x s.y ≡ true → In (s, at m s.x s.y) (ups bound n s)
  up_in bound zero m s h g w j = absurd (omega arith)
  up_in bound (suc n) m s h g w j =
      elim (cases_eq m n) [
        | inl e ↦ in_left _ (link-if ((on (wire k d) s && on (wire k d) (at n s.x s.y)) && joined_by bound s.layer n s.x s.y) s (at n s.x s.y)) _
            (subst (λ v. In (s, at m s.x s.y) (link-if ((on (wire k d) s && on (wire k d) (at v s.x s.y)) && joined_by bound s.layer v s.x s.y) s (at v s.x s.y))) e
            (link-in _ s (at m s.x s.y) (and_from _ _ (and_from _ _ g w) j)))
        | inr ne ↦ in_right _ (link-if ((on (wire k d) s && on (wire k d) (at n s.x s.y)) && joined_by bound s.layer n s.x s.y) s (at n s.x s.y)) _ (up_in bound n m s (omega arith) g w j)
      ]

  module _ (bound : ℕ) (low : BelowAll d bound) where
    wire-low : (s : Spot) → Wire s → (s.layer < bound) × (s.x < bound) × (s.y < bound)
    unfolding on wire
    wire-low s h = low s.layer s.x s.y (and_parts (d s.layer s.x s.y) _ (and_parts (k.carries s.layer) _ h).1).0

    abbrev all-spots : List Spot
    all-spots = in_layers bound bound

    spot_in : (s : Spot) → Wire s → In s all-spots
    spot_in s h = let p = wire-low s h in below-layers bound bound s.layer s.x s.y p.0 p.1 p.2

    abbrev net : Spot → ℕ
    net = names all-spots (links bound all-spots)

    linked : (s t : Spot) → Wire s → In (s, t) (links-at bound s) → net s ≡ net t
    linked s t w h = names-link all-spots (links bound all-spots) s t (links-in bound all-spots s (s, t) (spot_in s w) h)

    step : (s t : Spot) → Beside s t → Wire s → Wire t → net s ≡ net t
    step s t (right l x y) g h = linked (at l x y) (at l (suc x) y) g (right-in bound l x y g h)
    step s t (left l x y) g h = sym (linked (at l x y) (at l (suc x) y) h (right-in bound l x y h g))
    step s t (below l x y) g h = linked (at l x y) (at l x (suc y)) g (below_in bound l x y g h)
    step s t (above l x y) g h = sym (linked (at l x y) (at l x (suc y)) h (below_in bound l x y h g))

    -- up or down to another layer at the same square
    climb : (s : Spot) (m j : ℕ) → Wire s → Wire (at m s.x s.y) → (k.joins j s.layer m ≡ true) ⊎ (k.joins j m s.layer ≡ true) → d j s.x s.y ≡ true → net s ≡ net (at m s.x s.y)
    climb s m j g h o c =
        let up = up_in bound bound m s (wire-low (at m s.x s.y) h).0 g h (layer-joined bound s.layer m s.x s.y j (low j s.x s.y c).0 o c) in
        linked s (at m s.x s.y) g
        (in_right _ (link-if (on (wire k d) s && on (wire k d) (at s.layer (suc s.x) s.y)) s (at s.layer (suc s.x) s.y)) _
        (in_right _ (link-if (on (wire k d) s && on (wire k d) (at s.layer s.x (suc s.y))) s (at s.layer s.x (suc s.y))) _ up))

    way-net : (a b : Spot) → Way k d a b → net a ≡ net b
    way-net a b (stays h) = refl
    way-net a b (along c e w n h) = way-net a c w ∙ step c b n (way-ends k d a c w) h
    way-net a b (through c e j w p q o z h) =
        let same : at b.layer c.x c.y ≡ b = λ i. record { layer = b.layer; x = p i; y = q i } in
        way-net a c w ∙ (climb c b.layer j (way-ends k d a c w) (subst Wire (sym same) h) o z ∙ ap net same)

    pub bounded-nets : (f : Spot → ℕ) × Netted k d f
    bounded-nets = (
      net,
      record {
        same = λ a b ha hb w. way-net a b w;
        apart = λ a b ha hb e. names-sound all-spots spot_in (links bound all-spots) (links-sound bound all-spots) a b ha hb e;
      },
    )

pub has_nets : HasNets
has_nets k bodies n a = let b = drawn_bound bodies n a in bounded-nets k (drawn bodies n a) b.0 b.1
