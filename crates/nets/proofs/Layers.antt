-- Wire by layers: regions that show it, and tiles of one layer after another.
use Rattle.std.proofs.Common.{◌≡◌, ℕ, ◌+◌, ◌^◌, ◌<◌, ◌≤◌, Bool, true, false, not, ◌&&◌, ◌||◌, eqb, ltb, leb, ◌⊎◌, List, [], ◌∷◌, ◌++◌, sym, refl, ap, ◌∙◌, subst, inl, inr, arith}
use Rattle.std.specs.List.{AllByRecursion}
use Rattle.std.proofs.ByRecursion.{All-append, All-weaker}
use Rattle.std.proofs.lemmas.Bool.{cases_lt, cases_order, lt-ltb, le-ltb, eq-eqb, ne_eqb, and_left, and_right, or_from}
use Rattle.layout.specs.declared.rect.Rect.{Rect}
use Rattle.layout.specs.Layout.{Drawing}
use Rattle.layout.specs.Rects.{Within, in_rect, covered}
use Rattle.scanline.specs.declared.band.Band.{Band}
use Rattle.scanline.specs.declared.Op.TheVariants.{And, Without}
use Rattle.scanline.specs.Bands.{covers}
use Rattle.region.specs.Regions.{Combined}
use Rattle.tiles.specs.declared.tile.Tile.{Tile}
use Rattle.tiles.specs.Tiles.{held, Before, Ordered}
use Rattle.tiles.specs.Cuts.{Bounded, Cut}
use Rattle.tiles.proofs.Tiles.{held-append, ordered-append}
use Rattle.nets.specs.declared.process.Join.{Join}
use Rattle.nets.specs.Nets.{Technology, wire}
use Rattle.nets.specs.Wires.{Shows, Tiled}
use Rattle.nets.specs.Joins.{bridge, Bridges}

-- boxes that are not far out cover nothing there

far-across : (qs : List Rect) (l x y : ℕ) → AllByRecursion (Within (2 ^ 40)) qs → 2 ^ 40 ≤ x → covered qs l x y ≡ false
unfolding covered in_rect
far-across [] l x y h k = refl
far-across (q ∷ qs) l x y h k =
    or_from _ _ (and_right (eqb l q.layer) _ (and_right (leb q.x x) _ (and_left (ltb x (q.x + q.across)) _ (le-ltb x (q.x + q.across) (omega (arith, h.0))))))
    (far-across qs l x y h.1 k)

far-down : (qs : List Rect) (l x y : ℕ) → AllByRecursion (Within (2 ^ 40)) qs → 2 ^ 40 ≤ y → covered qs l x y ≡ false
unfolding covered in_rect
far-down [] l x y h k = refl
far-down (q ∷ qs) l x y h k =
    or_from _ _ (and_right (eqb l q.layer) _ (and_right (leb q.x x) _ (and_right (ltb x (q.x + q.across)) _ (and_right (leb q.y y) _ (le-ltb y (q.y + q.down) (omega (arith, h.0)))))))
    (far-down qs l x y h.1 k)

-- what is near is within all that a sweep takes
pub near-boxes : (qs : List Rect) → AllByRecursion (Within (2 ^ 40)) qs → AllByRecursion (Within (2 ^ 63)) qs
near-boxes qs h = All-weaker (Within (2 ^ 40)) (Within (2 ^ 63)) (λ q k. (omega arith, omega arith)) qs h

-- a region that shows part of what is covered
pub bounded_from : (bs : List Band) (s : ℕ → ℕ → Bool) → Shows bs s → ((x y : ℕ) → (2 ^ 40 ≤ x) ⊎ (2 ^ 40 ≤ y) → s x y ≡ false) → Bounded bs
bounded_from bs s h far = record { across = λ x y k. h.shows x y ∙ far x y (inl k); down = λ x y k. h.shows x y ∙ far x y (inr k) }

pub far-covered : (qs : List Rect) (l : ℕ) → AllByRecursion (Within (2 ^ 40)) qs → (x y : ℕ) → (2 ^ 40 ≤ x) ⊎ (2 ^ 40 ≤ y) → covered qs l x y ≡ false
far-covered qs l h x y (inl k) = far-across qs l x y h k
far-covered qs l h x y (inr k) = far-down qs l x y h k

pub far-wire : (k : Technology) (qs : List Rect) (l : ℕ) → AllByRecursion (Within (2 ^ 40)) qs → (x y : ℕ) → (2 ^ 40 ≤ x) ⊎ (2 ^ 40 ≤ y) → wire k (covered qs) l x y ≡ false
unfolding wire
far-wire k qs l h x y o = and_right (k.carries l) _ (and_left (covered qs l x y) _ (far-covered qs l h x y o))

-- the wire of a layer

module _ (k : Technology) (qs : List Rect) (l : ℕ) (bs : List Band) where
  pub shows-none : k.carries l ≡ false → ((x y : ℕ) → covers bs x y ≡ false) → Shows bs (wire k (covered qs) l)
  unfolding wire
  shows-none h e = record { shows = λ x y. e x y ∙ sym (and_left (k.carries l) _ h) }

  pub shows-whole : k.carries l ≡ true → (l ≡ k.crossed → ⊥) → ((x y : ℕ) → covers bs x y ≡ covered qs l x y) → Shows bs (wire k (covered qs) l)
  unfolding wire
  shows-whole h n e = record { shows = λ x y. e x y ∙ sym (rw (h, ne_eqb l k.crossed n) (whole (covered qs l x y))) }
    where
      whole : (a : Bool) → (true && (a && not (false && covered qs k.gate 0 0))) ≡ a
      whole true = refl
      whole false = refl

  pub shows-crossed :
      (cs gs : List Band) → k.carries l ≡ true → l ≡ k.crossed → ((x y : ℕ) → covers cs x y ≡ covered qs l x y) → ((x y : ℕ) → covers gs x y ≡ covered qs k.gate x y) →
      Combined Without cs gs bs → Shows bs (wire k (covered qs) l)
  unfolding wire
  shows-crossed cs gs h e c g b = record { shows = λ x y. b.holds x y ∙ rw (h, eq-eqb l k.crossed e, c x y, g x y) }

-- bridges

pub bridges_from :
    (k : Technology) (qs : List Rect) (q : Join) (a b c e f : List Band) (ts : List Tile) →
    Shows a (wire k (covered qs) q.one) → Shows b (wire k (covered qs) q.other) → Combined And a b c → ((x y : ℕ) → covers e x y ≡ covered qs q.by x y) → Combined And c e f →
    (vs : List Tile) → vs ≡ [] → Cut q.by f vs ts → Bridges k (covered qs) q ts
bridges_from k qs q a b c e f ts one other both layer all vs none cut =
    let same : ts ≡ cut.fresh = cut.adds ∙ ap (λ v. v ++ cut.fresh) none in
    record {
      solid = subst (AllByRecursion _) (sym same) cut.ordered.solid;
      layers = subst (AllByRecursion (λ b. b.layer ≡ q.by)) (sym same) cut.layers;
      holds = λ x y. ap (λ v. held v q.by x y) same ∙ (cut.holds q.by x y
          ∙ rw (eq-eqb q.by q.by refl) (all.holds x y ∙ rw (both.holds x y, one.shows x y, other.shows x y, layer x y)));
    }

pub far-bridge : (k : Technology) (qs : List Rect) (q : Join) → AllByRecursion (Within (2 ^ 40)) qs → (x y : ℕ) → (2 ^ 40 ≤ x) ⊎ (2 ^ 40 ≤ y) → bridge k (covered qs) q x y ≡ false
far-bridge k qs q h x y o = and_right (wire k (covered qs) q.one x y && wire k (covered qs) q.other x y) _ (far-covered qs q.by h x y o)

pub shows-bridge :
    (k : Technology) (qs : List Rect) (q : Join) (a b c e f : List Band) → Shows a (wire k (covered qs) q.one) → Shows b (wire k (covered qs) q.other) → Combined And a b c →
    ((x y : ℕ) → covers e x y ≡ covered qs q.by x y) → Combined And c e f → Shows f (bridge k (covered qs) q)
shows-bridge k qs q a b c e f one other both layer all = record { shows = λ x y. all.holds x y ∙ rw (both.holds x y, one.shows x y, other.shows x y, layer x y) }

-- the tiles of the first n layers of a drawing
pub record Layered (d : Drawing) (n : ℕ) (ts : List Tile) : Type 0 where
  pub ordered : Ordered ts
  pub low : AllByRecursion (λ t. t.layer < n) ts
  pub holds : (l x y : ℕ) → held ts l x y ≡ (ltb l n && d l x y)

pub layered_more : (d : Drawing) (n : ℕ) (bs : List Band) (ts us : List Tile) → Layered d n ts → Shows bs (d n) → Cut n bs ts us → Layered d (n + 1) us
layered_more d n bs ts us old here cut = subst (Layered d (n + 1)) (sym cut.adds) (record {
  ordered = ordered-append ts cut.fresh old.ordered cut.ordered
      (All-weaker (λ t. t.layer < n) (λ t. AllByRecursion (Before t) cut.fresh) (λ t h. All-weaker (λ u. u.layer ≡ n) (Before t) (λ u e. inl (omega arith)) cut.fresh cut.layers) ts old.low);
  low = All-append (λ t. t.layer < n + 1) ts cut.fresh
      (All-weaker (λ t. t.layer < n) (λ t. t.layer < n + 1) (λ t h. omega arith) ts old.low)
      (All-weaker (λ t. t.layer ≡ n) (λ t. t.layer < n + 1) (λ t h. omega arith) cut.fresh cut.layers);
  holds = λ l x y. held-append ts cut.fresh l x y ∙ (rw (old.holds l x y, cut.holds l x y, here.shows x y) (one_more l x y (cases_order l n)));
})
  where
    or-false : (a : Bool) → (a || false) ≡ a
    or-false true = refl
    or-false false = refl

    one_more : (l x y : ℕ) → (l ≡ n) ⊎ ((l < n) ⊎ (n < l)) → ((ltb l n && d l x y) || (eqb l n && d n x y)) ≡ (ltb l (n + 1) && d l x y)
    one_more l x y (inl e) = rw (e, le-ltb n n (omega arith), eq-eqb n n refl, lt-ltb n (n + 1) (omega arith))
    one_more l x y (inr (inl h)) = rw (lt-ltb l n h, ne_eqb l n (λ e. omega arith), lt-ltb l (n + 1) (omega arith)) (or-false (d l x y))
    one_more l x y (inr (inr h)) = rw (le-ltb l n (omega arith), ne_eqb l n (λ e. omega arith), le-ltb l (n + 1) (omega arith))

-- past the last layer nothing carries
pub layered_all : (k : Technology) (d : Drawing) (n : ℕ) (ts : List Tile) → ((l : ℕ) → n ≤ l → k.carries l ≡ false) → Layered (wire k d) n ts → Tiled (wire k d) ts
unfolding wire
layered_all k d n ts none all = record {
  ordered = all.ordered;
  holds = λ l x y. all.holds l x y ∙ elim (cases_lt l n) [
    | inl h ↦ rw (lt-ltb l n h)
    | inr h ↦ rw (le-ltb l n h, none l h)
  ];
}
