-- Borders: one for the first square of each box where channels and wire meet is enough.
use Rattle.std.proofs.Common.{◌≡◌, ℕ, suc, ◌+◌, ◌-◌, ◌<◌, ◌≤◌, true, eqb, ◌⊎◌, List, [], ◌∷◌, ◌++◌, length, get_or, sym, refl, ap, ◌∙◌, subst, inl, inr, arith, below_more}
use Rattle.std.specs.List.{ContainsAt as In, AllByRecursion}
use Rattle.std.proofs.ByRecursion.{All-get_or, All-from_get_or, has_get_or, has_append_left, has_push, has_push_cases}
use Rattle.std.proofs.lemmas.Bool.{cases_lt, both_ways, and_parts, and_from, and_left, eq-eqb}
use Rattle.layout.specs.Layout.{Drawing}
use Rattle.scanline.specs.declared.band.Band.{Band}
use Rattle.scanline.specs.Bands.{covers}
use Rattle.tiles.specs.declared.tile.Tile.{Tile}
use Rattle.tiles.specs.Tiles.{none as none-tile, tile_at, Holds, held, Solid}
use Rattle.tiles.specs.Cuts.{far, Bounded, Cut}
use Rattle.tiles.proofs.Tiles.{held_place, place-held, holds-within}
use Rattle.nets.specs.Nets.{Technology, wire, Spot, on, Beside, right, left, below, above, Way}
use Rattle.nets.specs.Wires.{Shows, Has}
use Rattle.nets.proofs.Ways.{corner-way}
use Rattle.nets.proofs.Wires.{has-wire, wire-place}
use Rattle.devices.specs.declared.border.Border.{Border}
use Rattle.devices.specs.declared.direction.Direction.{Direction}
use Rattle.devices.specs.declared.direction.Direction.TheVariants.{Right, Left, Below, Above}
use Rattle.devices.specs.Channels.{channel, spot_of, Under, Earlier}
use Rattle.devices.specs.Ends.{Side}
use Rattle.devices.specs.Pieces.{root_of, gated, Gated, Wired}
use Rattle.devices.specs.Borders.{Near, channel_x, channel_y, wire_x, wire_y, meets, Meeting, BorderAt, Added, Flanked, Fringed}
use Rattle.devices.specs.Readings.{corner, Judged}
use Rattle.devices.proofs.Channels.{plain, on-plain, way-under, unders-on, unders-back, under-ends, crossed-layer}
use Rattle.devices.proofs.Orders.{channel-place, corner-has}
use Rattle.devices.specs.declared.terminal.Terminals.{Terminals}
use Rattle.devices.specs.declared.terminal.Terminals.TheVariants.{Isolated}
use Rattle.devices.specs.Terminals.{Gathered}
use Rattle.devices.proofs.Judgements.{border-spot, Lists, judged}

-- by how much a direction moves

abbrev cx : Direction → ℕ
cx Right = 0
cx Left = 1
cx Below = 0
cx Above = 0

abbrev cy : Direction → ℕ
cy Right = 0
cy Left = 0
cy Below = 0
cy Above = 1

abbrev wx : Direction → ℕ
wx Right = 1
wx Left = 0
wx Below = 0
wx Above = 0

abbrev wy : Direction → ℕ
wy Right = 0
wy Left = 0
wy Below = 1
wy Above = 0

cx-is : (v : Direction) (x : ℕ) → x + cx v ≡ channel_x v x
cx-is Right x = omega arith
cx-is Left x = refl
cx-is Below x = omega arith
cx-is Above x = omega arith

cy-is : (v : Direction) (y : ℕ) → y + cy v ≡ channel_y v y
cy-is Right y = omega arith
cy-is Left y = omega arith
cy-is Below y = omega arith
cy-is Above y = refl

wx-is : (v : Direction) (x : ℕ) → x + wx v ≡ wire_x v x
wx-is Right x = refl
wx-is Left x = omega arith
wx-is Below x = omega arith
wx-is Above x = omega arith

wy-is : (v : Direction) (y : ℕ) → y + wy v ≡ wire_y v y
wy-is Right y = omega arith
wy-is Left y = omega arith
wy-is Below y = refl
wy-is Above y = omega arith

abbrev on-layer : (l x y : ℕ) → Spot
on-layer l x y = record { layer = l; x = x; y = y }

pub beside_at : (v : Direction) (l x y : ℕ) → Beside (on-layer l (channel_x v x) (channel_y v y)) (on-layer l (wire_x v x) (wire_y v y))
beside_at Right l x y = let e : suc x ≡ x + 1 = omega arith in subst (λ n. Beside (on-layer l x y) (on-layer l n y)) e (right l x y)
beside_at Left l x y = let e : suc x ≡ x + 1 = omega arith in subst (λ n. Beside (on-layer l n y) (on-layer l x y)) e (left l x y)
beside_at Below l x y = let e : suc y ≡ y + 1 = omega arith in subst (λ n. Beside (on-layer l x y) (on-layer l x n)) e (below l x y)
beside_at Above l x y = let e : suc y ≡ y + 1 = omega arith in subst (λ n. Beside (on-layer l x n) (on-layer l x y)) e (above l x y)

-- squares beside each other lie in a direction
pub record Toward (s e : Spot) : Type 0 where
  pub way : Direction
  pub x : ℕ
  pub y : ℕ
  pub one : s ≡ on-layer s.layer (channel_x way x) (channel_y way y)
  pub other : e ≡ on-layer s.layer (wire_x way x) (wire_y way y)

pub toward : (s e : Spot) → Beside s e → Toward s e
toward s e (right l x y) = let z : suc x ≡ x + 1 = omega arith in record { way = Right; x = x; y = y; one = refl; other = λ i. on-layer l (z i) y }
toward s e (left l x y) = let z : suc x ≡ x + 1 = omega arith in record { way = Left; x = x; y = y; one = λ i. on-layer l (z i) y; other = refl }
toward s e (below l x y) = let z : suc y ≡ y + 1 = omega arith in record { way = Below; x = x; y = y; one = refl; other = λ i. on-layer l x (z i) }
toward s e (above l x y) = let z : suc y ≡ y + 1 = omega arith in record { way = Above; x = x; y = y; one = λ i. on-layer l x (z i); other = refl }

-- the same square by other names
pub holds_at : (t : Tile) (l x y u w : ℕ) → u ≡ x → w ≡ y → Holds t l x y → Holds t l u w
holds_at t l x y u w p q h = subst (λ a. Holds t l a w) (sym p) (subst (λ b. Holds t l x b) (sym q) h)

-- the loop over the boxes where they meet

module _ (v : Direction) (layer : ℕ) (cs : List Tile) (hs : List ℕ) (ws : List Tile) (ns : List ℕ) (ms : List Tile) where
  pub added_none : (bs : List Border) → Added v layer cs hs ws ns ms 0 bs bs
  added_none bs = record { keeps = λ b h. h; sound = λ b h. inl h; all = λ n h. absurd (omega arith) }

  module _ (m : ℕ) (bs ds : List Border) (old : Added v layer cs hs ws ns ms m bs ds) where
    abbrev Done : List Border → ℕ → Type 0
    Done es n = (i j : ℕ) → Holds (tile_at cs i) layer (channel_x v (tile_at ms n).left) (channel_y v (tile_at ms n).top) → Holds (tile_at ws j) layer (wire_x v (tile_at ms n).left) (wire_y v (tile_at ms n).top) →
        (b : Border) × In es b × BorderAt v layer cs hs ws ns (tile_at ms n).left (tile_at ms n).top b

    pub added-skip :
        ((i j : ℕ) → Holds (tile_at cs i) layer (channel_x v (tile_at ms m).left) (channel_y v (tile_at ms m).top) → Holds (tile_at ws j) layer (wire_x v (tile_at ms m).left) (wire_y v (tile_at ms m).top) → ⊥) →
        Added v layer cs hs ws ns ms (m + 1) bs ds
    added-skip away = record { keeps = old.keeps; sound = old.sound; all = below_more (Done ds) m old.all (λ i j p q. absurd (away i j p q)) }

    pub added_more : (b : Border) (es : List Border) → es ≡ ds ++ b ∷ [] → BorderAt v layer cs hs ws ns (tile_at ms m).left (tile_at ms m).top b → Added v layer cs hs ws ns ms (m + 1) bs es
    added_more b es e h = subst (Added v layer cs hs ws ns ms (m + 1) bs) (sym e) (record {
      keeps = λ c p. has_append_left ds (b ∷ []) c (old.keeps c p);
      sound = λ c p. elim (has_push_cases ds b c p) [
        | inl q ↦ old.sound c q
        | inr q ↦ inr ((tile_at ms m).left, (tile_at ms m).top, subst (BorderAt v layer cs hs ws ns (tile_at ms m).left (tile_at ms m).top) q h)
      ];
      all = below_more (Done (ds ++ b ∷ [])) m (λ n l i j p q. let z = old.all n l i j p q in (z.0, has_append_left ds (b ∷ []) z.0 z.1, z.2)) (λ i j p q. (b, has_push ds b, h));
    })

-- one direction after another

module _ (layer : ℕ) (cb wb : List Band) (cs : List Tile) (hs : List ℕ) (ws : List Tile) (ns : List ℕ) where
  abbrev Flank : Direction → List Border → List Border → Type 0
  Flank v = Flanked v layer cb wb cs hs ws ns

  pub fringed : (zs bs ds es fs : List Border) → zs ≡ [] → Flank Right zs bs → Flank Left bs ds → Flank Below ds es → Flank Above es fs → Fringed layer cb wb cs hs ws ns fs
  fringed zs bs ds es fs none p q r s = record { sound = sound; all = all }
    where
      sound : (b : Border) → In fs b → (v : Direction) × (x : ℕ) × (y : ℕ) × BorderAt v layer cs hs ws ns x y b
      sound b h =
          elim (s.added.sound b h) [
            | inr z ↦ (Above, z.0, z.1, z.2)
            | inl i ↦ elim (r.added.sound b i) [
              | inr z ↦ (Below, z.0, z.1, z.2)
              | inl j ↦ elim (q.added.sound b j) [
                | inr z ↦ (Left, z.0, z.1, z.2)
                | inl m ↦ elim (p.added.sound b m) [
                  | inr z ↦ (Right, z.0, z.1, z.2)
                  | inl n ↦ let z : In [] b = subst (λ l. In l b) none n in absurd (omega (arith, z.1))
                ]
              ]
            ]
          ]

      all : (v : Direction) → (ms : List Tile) × Meeting v layer cb wb ms × ((n : ℕ) → n < length ms → (i j : ℕ) → Holds (tile_at cs i) layer (channel_x v (tile_at ms n).left) (channel_y v (tile_at ms n).top) →
          Holds (tile_at ws j) layer (wire_x v (tile_at ms n).left) (wire_y v (tile_at ms n).top) →
          (b : Border) × In fs b × BorderAt v layer cs hs ws ns (tile_at ms n).left (tile_at ms n).top b)
      all Right = (p.boxes, p.meeting, λ n l i j a b. let z = p.added.all n l i j a b in (z.0, s.added.keeps z.0 (r.added.keeps z.0 (q.added.keeps z.0 z.1)), z.2))
      all Left = (q.boxes, q.meeting, λ n l i j a b. let z = q.added.all n l i j a b in (z.0, s.added.keeps z.0 (r.added.keeps z.0 z.1), z.2))
      all Below = (r.boxes, r.meeting, λ n l i j a b. let z = r.added.all n l i j a b in (z.0, s.added.keeps z.0 z.1, z.2))
      all Above = (s.boxes, s.meeting, λ n l i j a b. s.added.all n l i j a b)

near-enough : (x : ℕ) → (far ≤ x → ⊥) → x < far
near-enough x h = elim (cases_lt x far) [ inl l ↦ l | inr g ↦ absurd (h g) ]

-- the boxes, cut from a region

module _ (v : Direction) (layer : ℕ) (cb wb rb : List Band) (shows : Shows rb (meets v (covers cb) (covers wb))) where
  pub meeting-bounded : Bounded cb → Bounded rb
  meeting-bounded b = record {
    across = λ x y h. shows.shows x y ∙ and_left (covers cb (channel_x v x) (channel_y v y)) _ (b.across (channel_x v x) (channel_y v y) (omega (arith, cx-is v x)));
    down = λ x y h. shows.shows x y ∙ and_left (covers cb (channel_x v x) (channel_y v y)) _ (b.down (channel_x v x) (channel_y v y) (omega (arith, cy-is v y)));
  }

  pub meeting-from : (before ms : List Tile) → before ≡ [] → Cut layer rb before ms → Meeting v layer cb wb ms
  meeting-from before ms none cut =
      let same : ms ≡ cut.fresh = cut.adds ∙ ap (λ l. l ++ cut.fresh) none in
      record {
        solid = subst (AllByRecursion Solid) (sym same) cut.ordered.solid;
        layers = subst (AllByRecursion (λ t. t.layer ≡ layer)) (sym same) cut.layers;
        holds = λ x y. ap (λ l. held l layer x y) same ∙ (cut.holds layer x y ∙ rw (eq-eqb layer layer refl) (shows.shows x y));
      }

  -- their first squares are not far out
  pub meeting-near : Bounded cb → (before ms : List Tile) → before ≡ [] → Cut layer rb before ms → AllByRecursion Near ms
  meeting-near b before ms none cut =
      let same : ms ≡ cut.fresh = cut.adds ∙ ap (λ l. l ++ cut.fresh) none in
      let all : AllByRecursion Near cut.fresh = All-from_get_or Near cut.fresh none-tile (λ n h.
      let t = tile_at cut.fresh n in
      let s = All-get_or Solid cut.fresh n none-tile h cut.ordered.solid in
      let here : covers rb t.left t.top ≡ true = (and_parts (eqb t.layer layer) (covers rb t.left t.top) (sym (cut.holds t.layer t.left t.top)
      ∙ place-held cut.fresh n t.layer t.left t.top (record { level = refl; left = omega arith; right = s.wide; top = omega arith; bottom = s.tall }))).1 in
      (near-enough t.left (λ f. both_ways (covers rb t.left t.top) ((meeting-bounded b).across t.left t.top f) here), near-enough t.top (λ f. both_ways (covers rb t.left t.top) ((meeting-bounded b).down t.left t.top f) here))) in
      subst (AllByRecursion Near) (sym same) all

-- a box of wire, moved
box-way :
    (k : Technology) (d : Drawing) (l sx sy u w r b : ℕ) → ((p q : ℕ) → u ≤ p → p < r → w ≤ q → q < b → on (wire k d) (on-layer l (p + sx) (q + sy)) ≡ true) →
    (x y : ℕ) → u ≤ x → x < r → w ≤ y → y < b → Way k d (on-layer l (u + sx) (w + sy)) (on-layer l (x + sx) (y + sy))
box-way k d l sx sy u w r b box x y g h m n =
    corner-way k d l (u + sx) (w + sy) (r + sx) (b + sy)
    (λ p q e f i j.
    let a : p - sx + sx ≡ p = omega arith in
    let c : q - sy + sy ≡ q = omega arith in
    subst (λ z. on (wire k d) (on-layer l z q) ≡ true) a (subst (λ z. on (wire k d) (on-layer l (p - sx + sx) z) ≡ true) c (box (p - sx) (q - sy) (omega arith) (omega arith) (omega arith) (omega arith))))
    (x + sx) (y + sy) (omega arith) (omega arith) (omega arith) (omega arith)

module _ (k : Technology) (d : Drawing) where
  pub channel-gated : (x y : ℕ) → on (channel k d) (spot_of k x y) ≡ true → gated k d x y ≡ true
  unfolding on channel
  channel-gated x y h = (and_parts (eqb k.crossed k.crossed) (gated k d x y) h).1

  pub gated-channel : (x y : ℕ) → gated k d x y ≡ true → on (channel k d) (spot_of k x y) ≡ true
  unfolding on channel
  gated-channel x y h = and_from (eqb k.crossed k.crossed) (gated k d x y) (eq-eqb k.crossed k.crossed refl) h

  pub wire-on : (x y : ℕ) → wire k d k.crossed x y ≡ true → on (wire k d) (spot_of k x y) ≡ true
  unfolding on
  wire-on x y h = h

  pub on-wire : (x y : ℕ) → on (wire k d) (spot_of k x y) ≡ true → wire k d k.crossed x y ≡ true
  unfolding on
  on-wire x y h = h

module _ (k : Technology) (d : Drawing) (cb wb : List Band) (cs : List Tile) (hs : List ℕ) (ws : List Tile) (ns : List ℕ) (sc : Shows cb (gated k d)) (sw : Shows wb (wire k d k.crossed)) (g : Gated k d cs hs) (w : Wired k d ws ns)
    (bs : List Border) (fr : Fringed k.crossed cb wb cs hs ws ns bs) where
  -- the spot of a border is on a tile of wire
  border-has : (b : Border) → In bs b → (j : ℕ) × Has ws j (border-spot k b) × (b.net ≡ root_of ns j)
  border-has b m =
      let p = fr.sound b m in
      let q = p.3 in
      (q.other, subst (λ s. Has ws q.other s) (λ i. spot_of k (sym q.across i) (sym q.down i)) q.wired, q.net)

  module _ (i : ℕ) (within : i < length cs) (own : root_of hs i ≡ i) where
    border-side : (b : Border) → In bs b → b.channel ≡ i → Side k d (corner k cs i) (border-spot k b)
    border-side b m e =
        let p = fr.sound b m in
        let v = p.0 in
        let x = p.1 in
        let y = p.2 in
        let q = p.3 in
        let h = border-has b m in
        record {
          from = spot_of k (channel_x v x) (channel_y v y);
          under = g.apart i q.one (corner k cs i) (spot_of k (channel_x v x) (channel_y v y)) (corner-has k d cs hs g i within) q.under (own ∙ (sym e ∙ q.channel));
          beside = subst (Beside (spot_of k (channel_x v x) (channel_y v y))) (λ j. spot_of k (sym q.across j) (sym q.down j)) (beside_at v k.crossed x y);
          wired = has-wire k d ws w.tiled h.0 (border-spot k b) h.1;
        }

    complete : (e : Spot) → Side k d (corner k cs i) e → (b : Border) × In bs b × (b.channel ≡ i) × Way k d (border-spot k b) e × (Earlier e (border-spot k b) → ⊥)
    complete e s =
        let t = toward s.from e s.beside in
        let v = t.way in
        let x = t.x in
        let y = t.y in
        let there = under-ends k d (corner k cs i) s.from s.under in
        let level = crossed-layer k d s.from there in
        let one : s.from ≡ spot_of k (channel_x v x) (channel_y v y) = t.one ∙ ap (λ l. on-layer l (channel_x v x) (channel_y v y)) level in
        let other : e ≡ spot_of k (wire_x v x) (wire_y v y) = t.other ∙ ap (λ l. on-layer l (wire_x v x) (wire_y v y)) level in
        let here : meets v (covers cb) (covers wb) x y ≡ true =
        and_from (covers cb (channel_x v x) (channel_y v y)) (covers wb (wire_x v x) (wire_y v y))
        (sc.shows (channel_x v x) (channel_y v y) ∙ channel-gated k d (channel_x v x) (channel_y v y) (subst (λ z. on (channel k d) z ≡ true) one there))
        (sw.shows (wire_x v x) (wire_y v y) ∙ on-wire k d (wire_x v x) (wire_y v y) (subst (λ z. on (wire k d) z ≡ true) other s.wired)) in
        let al = fr.all v in
        let ms = al.0 in
        let p = held_place ms k.crossed x y (al.1.holds x y ∙ here) in
        let n = p.0 in
        let a = tile_at ms n in
        let inside = holds-within ms n k.crossed x y p.1 in
        let box : (u r : ℕ) → a.left ≤ u → u < a.right → a.top ≤ r → r < a.bottom → meets v (covers cb) (covers wb) u r ≡ true =
        λ u r f h m z. sym (al.1.holds u r) ∙ place-held ms n k.crossed u r (record { level = p.1.level; left = f; right = h; top = m; bottom = z }) in
        let under : (u r : ℕ) → a.left ≤ u → u < a.right → a.top ≤ r → r < a.bottom → on (channel k d) (spot_of k (channel_x v u) (channel_y v r)) ≡ true =
        λ u r f h m z. gated-channel k d (channel_x v u) (channel_y v r) (sym (sc.shows (channel_x v u) (channel_y v r)) ∙ (and_parts (covers cb (channel_x v u) (channel_y v r)) (covers wb (wire_x v u) (wire_y v r)) (box u r f h m z)).0) in
        let wired : (u r : ℕ) → a.left ≤ u → u < a.right → a.top ≤ r → r < a.bottom → on (wire k d) (spot_of k (wire_x v u) (wire_y v r)) ≡ true =
        λ u r f h m z. wire-on k d (wire_x v u) (wire_y v r) (sym (sw.shows (wire_x v u) (wire_y v r)) ∙ (and_parts (covers cb (channel_x v u) (channel_y v r)) (covers wb (wire_x v u) (wire_y v r)) (box u r f h m z)).1) in
        let l1 : a.left ≤ a.left = omega arith in
        let l2 : a.left < a.right = omega (arith, p.1) in
        let l3 : a.top ≤ a.top = omega arith in
        let l4 : a.top < a.bottom = omega (arith, p.1) in
        let c1 = channel-place k d cs hs g (spot_of k (channel_x v a.left) (channel_y v a.top)) (under a.left a.top l1 l2 l3 l4) in
        let c2 = wire-place k d ws w.tiled (spot_of k (wire_x v a.left) (wire_y v a.top)) (wired a.left a.top l1 l2 l3 l4) in
        let z = al.2 n inside c1.0 c2.0 c1.1 c2.1 in
        let b = z.0 in
        let q = z.2 in
        let uw : Way (plain k) (channel k d) (spot_of k (a.left + cx v) (a.top + cy v)) (spot_of k (x + cx v) (y + cy v)) =
        box-way (plain k) (channel k d) k.crossed (cx v) (cy v) a.left a.top a.right a.bottom
        (λ u r f h m o. subst (λ j. on (wire (plain k) (channel k d)) (spot_of k j (r + cy v)) ≡ true) (sym (cx-is v u)) (subst (λ j. on (wire (plain k) (channel k d)) (spot_of k (channel_x v u) j) ≡ true) (sym (cy-is v r))
        (on-plain k d (spot_of k (channel_x v u) (channel_y v r)) ∙ under u r f h m o)))
        x y p.1.left p.1.right p.1.top p.1.bottom in
        let un : Under k d (spot_of k (channel_x v a.left) (channel_y v a.top)) s.from =
        subst (Under k d (spot_of k (channel_x v a.left) (channel_y v a.top))) (sym one)
        (way-under k d _ _ (subst (λ j. Way (plain k) (channel k d) j (spot_of k (channel_x v x) (channel_y v y))) (λ j. spot_of k (cx-is v a.left j) (cy-is v a.top j))
        (subst (λ j. Way (plain k) (channel k d) (spot_of k (a.left + cx v) (a.top + cy v)) j) (λ j. spot_of k (cx-is v x j) (cy-is v y j)) uw))) in
        let ww : Way k d (spot_of k (a.left + wx v) (a.top + wy v)) (spot_of k (x + wx v) (y + wy v)) =
        box-way k d k.crossed (wx v) (wy v) a.left a.top a.right a.bottom
        (λ u r f h m o. subst (λ j. on (wire k d) (spot_of k j (r + wy v)) ≡ true) (sym (wx-is v u)) (subst (λ j. on (wire k d) (spot_of k (wire_x v u) j) ≡ true) (sym (wy-is v r)) (wired u r f h m o)))
        x y p.1.left p.1.right p.1.top p.1.bottom in
        let number : b.channel ≡ i =
        q.channel ∙ (sym (g.same i q.one (corner k cs i) (spot_of k (channel_x v a.left) (channel_y v a.top)) (corner-has k d cs hs g i within) q.under
        (unders-on k d (corner k cs i) s.from _ s.under (unders-back k d _ s.from un))) ∙ own) in
        let mine : spot_of k (a.left + wx v) (a.top + wy v) ≡ border-spot k b = λ j. spot_of k ((wx-is v a.left ∙ sym q.across) j) ((wy-is v a.top ∙ sym q.down) j) in
        let yours : spot_of k (x + wx v) (y + wy v) ≡ e = (λ j. spot_of k (wx-is v x j) (wy-is v y j)) ∙ sym other in
        let way : Way k d (border-spot k b) e = subst (λ j. Way k d j e) mine (subst (λ j. Way k d (spot_of k (a.left + wx v) (a.top + wy v)) j) yours ww) in
        (b, z.1, number, way, λ o. not-before a.left a.top x y (wx v) (wy v) p.1.left p.1.top (subst (λ j. Earlier j (spot_of k (a.left + wx v) (a.top + wy v))) (sym yours) (subst (λ j. Earlier e j) (sym mine) o)))
      where
        not-before : (u r x y f h : ℕ) → u ≤ x → r ≤ y → (y + h < r + h) ⊎ ((y + h ≡ r + h) × (x + f < u + f)) → ⊥
        not-before u r x y f h m n (inl o) = omega arith
        not-before u r x y f h m n (inr o) = omega arith

    pub lists-from : Lists k d (corner k cs i) i bs
    lists-from = record {
      sound = border-side;
      same = λ b c p q e f h. let u = border-has b p in let r = border-has c q in w.named.apart u.0 r.0 (border-spot k b) (border-spot k c) u.1 r.1 (sym u.2 ∙ (h ∙ r.2));
      apart = λ b c p q e f h. let u = border-has b p in let r = border-has c q in u.2 ∙ (w.named.same u.0 r.0 (border-spot k b) (border-spot k c) u.1 r.1 h ∙ sym r.2);
      complete = complete;
    }

    pub known-judged : (es : List Terminals) → Gathered bs (length cs) es → Judged k d (corner k cs i) (get_or es i Isolated)
    known-judged es all = judged k d (corner k cs i) i bs lists-from (get_or es i Isolated) (all.each i within)

  pub borders-within : AllByRecursion (λ b. b.channel < length cs) bs
  borders-within = All-from_get_or (λ b. b.channel < length cs) bs (record { channel = 0; net = 0; x = 0; y = 0 }) (λ n h.
      let q = (fr.sound _ (has_get_or bs n (record { channel = 0; net = 0; x = 0; y = 0 }) h)).3 in
      omega (arith, q.channel, g.low q.one, holds-within cs q.one _ _ _ q.under))
