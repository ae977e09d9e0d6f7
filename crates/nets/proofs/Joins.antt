-- Bridges between layers: what they tie is what one can go through.
use Rattle.std.proofs.Common.{◌≡◌, ℕ, zero, suc, ◌+◌, ◌<◌, ◌≤◌, true, ◌&&◌, eqb, List, length, sym, refl, ap, ◌∙◌, subst, inl, inr, arith, below_more}
use Rattle.std.proofs.ByRecursion.{All-get_or}
use Rattle.std.proofs.lemmas.Bool.{and_parts, and_from, or_cases, or_left, or_right, eq-eqb, eqb-true, cases_order, false≢true}
use Rattle.layout.specs.Layout.{Drawing}
use Rattle.groups.specs.Names.{Joined}
use Rattle.groups.specs.Chains.{Chain, start, on as then, back, Grouped}
use Rattle.groups.proofs.Chains.{joined-chained, grouped}
use Rattle.tiles.specs.declared.tile.Tile.{Tile}
use Rattle.tiles.specs.Tiles.{none, tile_at, Holds, Solid, Ordered}
use Rattle.tiles.specs.Links.{Touch}
use Rattle.tiles.proofs.Tiles.{held_place, place-held, holds-within, one-holder}
use Rattle.nets.specs.declared.process.Join.{Join}
use Rattle.nets.specs.Nets.{Technology, wire, Spot, on, Way, stays, through}
use Rattle.nets.specs.Processes.{join_at, joins_among}
use Rattle.nets.specs.Wires.{Tiled, Has, Sound, Named}
use Rattle.nets.specs.Joins.{bridge, Bridges, Tied, Along, Bridged}
use Rattle.nets.proofs.Ways.{Through, ways_on, ways_back}
use Rattle.nets.proofs.Wires.{has-wire, wire-place, grouped-sound, way-named, box-named}

-- the loop over the bridges of a join: f names tiles before, and g once m bridges are done
pub record Spanning (ts bs : List Tile) (q : Join) (f : ℕ → ℕ) (m : ℕ) (g : ℕ → ℕ) : Type 0 where
  pub chained : (a b : ℕ) → g a ≡ g b → Chain (Tied f ts bs q) a b
  pub keeps : (a b : ℕ) → f a ≡ f b → g a ≡ g b
  pub done : (n : ℕ) → n < m → (i j : ℕ) → Holds (tile_at ts i) q.one (tile_at bs n).left (tile_at bs n).top →
      Holds (tile_at ts j) q.other (tile_at bs n).left (tile_at bs n).top → g i ≡ g j

module _ (ts bs : List Tile) (q : Join) (f : ℕ → ℕ) where
  pub spanning-none : Spanning ts bs q f 0 f
  spanning-none = record {
    chained = λ a b e. then a b start (inl e);
    keeps = λ a b e. e;
    done = λ n h. absurd (omega arith);
  }

  module _ (order : Ordered ts) (m : ℕ) (g : ℕ → ℕ) (old : Spanning ts bs q f m g) where
    pub spanning-joined :
        (i j : ℕ) (h : ℕ → ℕ) → m < length bs → Holds (tile_at ts i) q.one (tile_at bs m).left (tile_at bs m).top →
        Holds (tile_at ts j) q.other (tile_at bs m).left (tile_at bs m).top → Joined g h i j → Spanning ts bs q f (m + 1) h
    spanning-joined i j h within p r new = record {
      chained = joined-chained (Tied f ts bs q) g h i j new (then i j start (inr (record { place = m; within = within; one = p; other = r }))) old.chained;
      keeps = λ a b e. new.keeps a b (old.keeps a b e);
      done = below_more (λ n. (a b : ℕ) → Holds (tile_at ts a) q.one (tile_at bs n).left (tile_at bs n).top → Holds (tile_at ts b) q.other (tile_at bs n).left (tile_at bs n).top → h a ≡ h b) m
          (λ n l a b u v. new.keeps a b (old.done n l a b u v))
          (λ a b u v. ap h (one-holder ts order a i _ _ _ u p) ∙ (new.joins ∙ ap h (one-holder ts order j b _ _ _ r v)));
    }

    pub spanning-all : length bs ≤ m → Grouped (Tied f ts bs q) g
    spanning-all past = grouped (Tied f ts bs q) g old.chained (λ a b t. elim t [
      | inl e ↦ old.keeps a b e
      | inr s ↦ old.done s.place (omega (arith, s.within)) a b s.one s.other
    ])

-- what a join ties is what one can go through

module _ (k : Technology) (d : Drawing) (ts bs : List Tile) (q : Join) (tiled : Tiled (wire k d) ts) (made : Bridges k d q bs) (joins : k.joins q.by q.one q.other ≡ true) where
  -- the squares of a bridge
  bridge-at : (n x y : ℕ) → Holds (tile_at bs n) q.by x y → bridge k d q x y ≡ true
  bridge-at n x y h = sym (made.holds x y) ∙ place-held bs n q.by x y h

  first-square : (n : ℕ) → n < length bs → Holds (tile_at bs n) q.by (tile_at bs n).left (tile_at bs n).top
  first-square n h =
      let s = All-get_or Solid bs n none h made.solid in
      record { level = All-get_or (λ b. b.layer ≡ q.by) bs n none h made.layers; left = omega arith; right = s.wide; top = omega arith; bottom = s.tall }

  bridge-parts : (x y : ℕ) → bridge k d q x y ≡ true → (wire k d q.one x y ≡ true) × (wire k d q.other x y ≡ true) × (d q.by x y ≡ true)
  bridge-parts x y h =
      let p = and_parts (wire k d q.one x y && wire k d q.other x y) (d q.by x y) h in
      let r = and_parts (wire k d q.one x y) (wire k d q.other x y) p.0 in
      (r.0, r.1, p.1)

  abbrev at : ℕ → ℕ → ℕ → Spot
  at l x y = record { layer = l; x = x; y = y }

  wired : (l x y : ℕ) → wire k d l x y ≡ true → on (wire k d) (at l x y) ≡ true
  unfolding on
  wired l x y h = h

  through-way : (n : ℕ) → n < length bs → Way k d (at q.one (tile_at bs n).left (tile_at bs n).top) (at q.other (tile_at bs n).left (tile_at bs n).top)
  through-way n h =
      let b = tile_at bs n in
      let p = bridge-parts b.left b.top (bridge-at n b.left b.top (first-square n h)) in
      through _ _ q.by (stays (wired _ _ _ p.0)) refl refl (inl joins) p.2 (wired _ _ _ p.1)

  -- chains of ties are ways, between all tiles of the names at their ends
  tied-way :
      (f : ℕ → ℕ) → Sound k d ts f → (i j : ℕ) → Chain (Tied f ts bs q) i j →
      (a b : ℕ) (s t : Spot) → Has ts a s → Has ts b t → f a ≡ f i → f b ≡ f j → Way k d s t
  tied-way f sound i j start a b s t p r e g = sound a b s t p r (e ∙ sym g)
  tied-way f sound i j (then m n w (inl h)) a b s t p r e g = tied-way f sound i m w a b s t p r e (g ∙ sym h)
  tied-way f sound i j (then m n w (inr h)) a b s t p r e g =
      let c = tile_at bs h.place in
      ways_on k d s (at q.one c.left c.top) t (tied-way f sound i m w a m s (at q.one c.left c.top) p h.one e refl)
      (ways_on k d (at q.one c.left c.top) (at q.other c.left c.top) t (through-way h.place h.within)
      (sound j b (at q.other c.left c.top) t h.other r (sym g)))
  tied-way f sound i j (back m n w (inl h)) a b s t p r e g = tied-way f sound i m w a b s t p r e (g ∙ h)
  tied-way f sound i j (back m n w (inr h)) a b s t p r e g =
      let c = tile_at bs h.place in
      ways_on k d s (at q.other c.left c.top) t (tied-way f sound i m w a m s (at q.other c.left c.top) p h.other e refl)
      (ways_on k d (at q.other c.left c.top) (at q.one c.left c.top) t (ways_back k d _ _ (through-way h.place h.within))
      (sound j b (at q.one c.left c.top) t h.one r (sym g)))

  -- a bridge lies within one net of each layer, so its first square speaks for all
  spans_all :
      (f g : ℕ → ℕ) → Along ts g → Grouped (Tied f ts bs q) g →
      (i j x y : ℕ) → bridge k d q x y ≡ true → Holds (tile_at ts i) q.one x y → Holds (tile_at ts j) q.other x y → g i ≡ g j
  spans_all f g touch grp i j x y h u v =
      let p = held_place bs q.by x y (made.holds x y ∙ h) in
      let n = p.0 in
      let b = tile_at bs n in
      let within = holds-within bs n q.by x y p.1 in
      let first = bridge-parts b.left b.top (bridge-at n b.left b.top (first-square n within)) in
      let one = wire-place k d ts tiled (at q.one b.left b.top) (wired _ _ _ first.0) in
      let other = wire-place k d ts tiled (at q.other b.left b.top) (wired _ _ _ first.1) in
      let box : (a c : ℕ) → b.left ≤ a → a < b.right → b.top ≤ c → c < b.bottom → bridge k d q a c ≡ true =
      λ a c r s t z. bridge-at n a c (record { level = p.1.level; left = r; right = s; top = t; bottom = z }) in
      sym (box-named k d ts tiled g touch q.one b.left b.top b.right b.bottom (λ a c r s t z. wired _ _ _ (bridge-parts a c (box a c r s t z)).0)
      x y one.0 i p.1.left p.1.right p.1.top p.1.bottom one.1 u)
      ∙ (grp.named one.0 other.0 (then one.0 other.0 start (inr (record { place = n; within = within; one = one.1; other = other.1 })))
      ∙ box-named k d ts tiled g touch q.other b.left b.top b.right b.bottom (λ a c r s t z. wired _ _ _ (bridge-parts a c (box a c r s t z)).1)
      x y other.0 j p.1.left p.1.right p.1.top p.1.bottom other.1 v)

  pub bridged-from : (f g : ℕ → ℕ) → Along ts f → Grouped (Tied f ts bs q) g → Bridged k d ts q f g
  bridged-from f g touch grp =
      let keeps : (a b : ℕ) → f a ≡ f b → g a ≡ g b = λ a b e. grp.named a b (then a b start (inl e)) in
      record {
        keeps = keeps;
        sound = λ sound a b s t p r e. tied-way f sound a b (grp.chained a b e) a b s t p r refl refl;
        spans = spans_all f g (λ a b t. keeps a b (touch a b t)) grp;
      }

-- the loop over the joins

pub record Connecting (k : Technology) (d : Drawing) (ts : List Tile) (js : List Join) (m : ℕ) (f : ℕ → ℕ) : Type 0 where
  pub along : Along ts f
  pub sound : Sound k d ts f
  pub spans : (n : ℕ) → n < m → (i j x y : ℕ) → bridge k d (join_at js n) x y ≡ true → Holds (tile_at ts i) (join_at js n).one x y → Holds (tile_at ts j) (join_at js n).other x y → f i ≡ f j

pub connecting_none :
    (k : Technology) (d : Drawing) (ts : List Tile) (js : List Join) → Tiled (wire k d) ts → (f : ℕ → ℕ) → Grouped (Touch ts) f → Connecting k d ts js 0 f
connecting_none k d ts js tiled f g = record {
  along = λ i j t. g.named i j (then i j start t);
  sound = grouped-sound k d ts tiled f g;
  spans = λ n h. absurd (omega arith);
}

pub connecting_more :
    (k : Technology) (d : Drawing) (ts : List Tile) (js : List Join) (m : ℕ) (q : Join) (f g : ℕ → ℕ) → q ≡ join_at js m →
    Connecting k d ts js m f → Bridged k d ts q f g → Connecting k d ts js (m + 1) g
connecting_more k d ts js m q f g is old new = record {
  along = λ i j t. new.keeps i j (old.along i j t);
  sound = new.sound old.sound;
  spans = below_more (λ n. (i j x y : ℕ) → bridge k d (join_at js n) x y ≡ true → Holds (tile_at ts i) (join_at js n).one x y → Holds (tile_at ts j) (join_at js n).other x y → g i ≡ g j) m
      (λ n l i j x y h u v. new.keeps i j (old.spans n l i j x y h u v))
      (subst (λ p. (i j x y : ℕ) → bridge k d p x y ≡ true → Holds (tile_at ts i) p.one x y → Holds (tile_at ts j) p.other x y → g i ≡ g j) is new.spans);
}

-- each join of the list is one, and each that is one is in the list
pub joins_at : (js : List Join) (m n : ℕ) → n < m → joins_among js m (join_at js n).by (join_at js n).one (join_at js n).other ≡ true
joins_at js zero n h = absurd (omega arith)
joins_at js (suc m) n h =
    elim (cases_order n m) [
      | inl e ↦ or_left _ (joins_among js m (join_at js n).by (join_at js n).one (join_at js n).other)
          (and_from (eqb (join_at js m).by (join_at js n).by) _ (eq-eqb _ _ (ap (λ p. (join_at js p).by) (sym e)))
          (and_from (eqb (join_at js m).one (join_at js n).one) _ (eq-eqb _ _ (ap (λ p. (join_at js p).one) (sym e))) (eq-eqb _ _ (ap (λ p. (join_at js p).other) (sym e)))))
      | inr o ↦ elim o [
        | inl l ↦ or_right (eqb (join_at js m).by (join_at js n).by && (eqb (join_at js m).one (join_at js n).one && eqb (join_at js m).other (join_at js n).other))
            (joins_among js m (join_at js n).by (join_at js n).one (join_at js n).other) (joins_at js m n l)
        | inr g ↦ absurd (omega arith)
      ]
    ]

pub join_place :
    (js : List Join) (m j a b : ℕ) → joins_among js m j a b ≡ true →
    (n : ℕ) × (n < m) × ((join_at js n).by ≡ j) × ((join_at js n).one ≡ a) × ((join_at js n).other ≡ b)
join_place js zero j a b h = absurd (false≢true h)
join_place js (suc m) j a b h =
    elim (or_cases (eqb (join_at js m).by j && (eqb (join_at js m).one a && eqb (join_at js m).other b)) (joins_among js m j a b) h) [
      | inl e ↦
          let p = and_parts (eqb (join_at js m).by j) (eqb (join_at js m).one a && eqb (join_at js m).other b) e in
          let r = and_parts (eqb (join_at js m).one a) (eqb (join_at js m).other b) p.1 in
          (m, omega arith, eqb-true _ _ p.0, eqb-true _ _ r.0, eqb-true _ _ r.1)
      | inr e ↦ let p = join_place js m j a b e in (p.0, omega (arith, p.1), p.2, p.3, p.4)
    ]

-- one join of the list, by the slices that the code has of it and of its bridges
pub connecting_step :
    (k : Technology) (d : Drawing) (ts : List Tile) (js items : List Join) (bs slice : List Tile) (m : ℕ) (f g : ℕ → ℕ) → items ≡ js → slice ≡ bs → m < length items →
    ((j a b : ℕ) → k.joins j a b ≡ joins_among js (length js) j a b) → Tiled (wire k d) ts → Bridges k d (join_at items m) bs → Grouped (Tied f ts slice (join_at items m)) g →
    Connecting k d ts js m f → Connecting k d ts js (m + 1) g
connecting_step k d ts js items bs slice m f g e h within is tiled made tied old =
    let q = join_at items m in
    let same : q ≡ join_at js m = ap (λ v. join_at v m) e in
    let joins : k.joins q.by q.one q.other ≡ true =
    subst (λ p. k.joins p.by p.one p.other ≡ true) (sym same) (is _ _ _ ∙ joins_at js (length js) m (omega (arith, ap length e))) in
    connecting_more k d ts js m q f g same old (bridged-from k d ts bs q tiled made joins f g old.along (subst (λ v. Grouped (Tied f ts v q) g) h tied))

module _ (k : Technology) (d : Drawing) (ts : List Tile) (js : List Join) (tiled : Tiled (wire k d) ts) (f : ℕ → ℕ) (m : ℕ) (done : Connecting k d ts js m f) where
  -- over a square of a bridge
  across : (n : ℕ) → n < m → (i j x y by one other : ℕ) → (join_at js n).by ≡ by → (join_at js n).one ≡ one → (join_at js n).other ≡ other → d by x y ≡ true →
      Holds (tile_at ts i) one x y → Holds (tile_at ts j) other x y → f i ≡ f j
  unfolding on
  across n l i j x y by one other e g h z p r =
      let u : Holds (tile_at ts i) (join_at js n).one x y = subst (λ v. Holds (tile_at ts i) v x y) (sym g) p in
      let v : Holds (tile_at ts j) (join_at js n).other x y = subst (λ v. Holds (tile_at ts j) v x y) (sym h) r in
      done.spans n l i j x y
      (and_from _ _ (and_from _ _ (has-wire k d ts tiled i (record { layer = (join_at js n).one; x = x; y = y }) u) (has-wire k d ts tiled j (record { layer = (join_at js n).other; x = x; y = y }) v))
      (subst (λ v. d v x y ≡ true) (sym e) z)) u v

  pub connected : ((j a b : ℕ) → k.joins j a b ≡ joins_among js m j a b) → Named k d ts f
  connected is = record {
    same = λ i j s t p r w. way-named k d ts tiled f done.along through-named i s j t w p r;
    apart = done.sound;
  }
    where
      through-named : (i j : ℕ) (s t : Spot) → Through k d s t → Has ts i s → Has ts j t → f i ≡ f j
      through-named i j s t h p r =
          elim h.joins [
            | inl e ↦
                let n = join_place js m h.by s.layer t.layer (sym (is _ _ _) ∙ e) in
                across n.0 n.1 i j s.x s.y h.by s.layer t.layer n.2 n.3 n.4 h.covered p
                (subst (λ x. Holds (tile_at ts j) t.layer x s.y) (sym h.across) (subst (λ y. Holds (tile_at ts j) t.layer t.x y) (sym h.down) r))
            | inr e ↦
                let n = join_place js m h.by t.layer s.layer (sym (is _ _ _) ∙ e) in
                sym (across n.0 n.1 j i s.x s.y h.by t.layer s.layer n.2 n.3 n.4 h.covered
                (subst (λ x. Holds (tile_at ts j) t.layer x s.y) (sym h.across) (subst (λ y. Holds (tile_at ts j) t.layer t.x y) (sym h.down) r)) p)
          ]
