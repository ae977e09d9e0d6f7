-- The tiles of a region are in order, and hold what it covers.
use Rattle.std.proofs.Common.{◌≡◌, ℕ, suc, ◌+◌, ◌-◌, ◌^◌, ◌<◌, ◌≤◌, Bool, true, false, cond, ◌&&◌, ◌||◌, eqb, ltb, leb, List, [], ◌∷◌, ◌++◌, length, get_or, take, drop, sym, refl, ap, ◌∙◌, inl, inr, arith}
use Rattle.std.specs.List.{AllByRecursion}
use Rattle.std.proofs.lemmas.List.{append-nil, append_assoc, take_rest}
use Rattle.std.proofs.ByRecursion.{All-append, All-weaker}
use Rattle.std.proofs.lemmas.Bool.{cases_lt, cases_Bool, le-leb, lt-leb, lt-ltb, le-ltb, both_ways, true≢false}
use Rattle.scanline.specs.declared.band.Band.{Band}
use Rattle.scanline.specs.Lines.{inside, differ}
use Rattle.scanline.specs.Bands.{edges, line_at, covers, lastLine, Canonical}
use Rattle.scanline.proofs.Merge.{From, rises-from, from-rises, inside-before}
use Rattle.scanline.proofs.Rows as rows
use Rattle.scanline.proofs.Rows.{canonical-from, line_before}
use Rattle.scanline.proofs.Unique.{one_line}
use Rattle.tiles.specs.declared.tile.Tile.{Tile}
use Rattle.tiles.specs.Tiles.{in_tile, held, Solid, Before, Ascending}
use Rattle.tiles.specs.Cuts.{line_tiles, band_tiles, Bounded, Cut}
use Rattle.tiles.proofs.Tiles.{held-append, ascending_append}

-- one turn of each loop

pub line-more :
    (l t b : ℕ) (out : List Tile) (es : List ℕ) → 2 ≤ length es →
    (out ++ record { layer = l; left = get_or es 0 0; right = get_or es 1 0; top = t; bottom = b } ∷ []) ++ line_tiles l t b (take (length es - 2) (drop 2 es))
    ≡ out ++ line_tiles l t b es
line-more l t b out [] h = absurd (omega arith)
line-more l t b out (e ∷ []) h = absurd (omega arith)
line-more l t b out (e ∷ (f ∷ es)) h =
    ap (λ r. (out ++ record { layer = l; left = e; right = f; top = t; bottom = b } ∷ []) ++ line_tiles l t b r) (take_rest (e ∷ (f ∷ es)) 2)
    ∙ append_assoc out (record { layer = l; left = e; right = f; top = t; bottom = b } ∷ []) (line_tiles l t b es)

pub band_more :
    (l : ℕ) (out : List Tile) (bs : List Band) (b c : Band) → 2 ≤ length bs → b ≡ get_or bs 0 b → c ≡ get_or bs 1 c →
    (out ++ line_tiles l b.from c.from (edges b)) ++ band_tiles l (take (length bs - 1) (drop 1 bs)) ≡ out ++ band_tiles l bs
band_more l out [] b c h p q = absurd (omega arith)
band_more l out (d ∷ []) b c h p q = absurd (omega arith)
band_more l out (d ∷ (e ∷ bs)) b c h p q =
    ap (λ r. (out ++ line_tiles l b.from c.from (edges b)) ++ band_tiles l r) (take_rest (d ∷ (e ∷ bs)) 1)
    ∙ (append_assoc out (line_tiles l b.from c.from (edges b)) (band_tiles l (e ∷ bs))
    ∙ (ap (λ v. out ++ (line_tiles l v.from c.from (edges v) ++ band_tiles l (e ∷ bs))) p
    ∙ ap (λ v. out ++ (line_tiles l d.from v.from (edges d) ++ band_tiles l (e ∷ bs))) q))

pub band_all : (l : ℕ) (out : List Tile) (bs : List Band) → length bs < 2 → out ++ band_tiles l bs ≡ out
band_all l out [] h = append-nil out
band_all l out (b ∷ []) h = append-nil out
band_all l out (b ∷ (c ∷ bs)) h = absurd (omega arith)

-- lines that end

abbrev even : List ℕ → Bool
even [] = true
even (e ∷ []) = false
even (e ∷ (f ∷ es)) = even es

twice : (a : Bool) → differ true (differ true a) ≡ a
twice true = refl
twice false = refl

-- past all its edges a line with an odd number of them goes on
odd-inside : (es : List ℕ) (x : ℕ) → AllByRecursion (λ e. e ≤ x) es → even es ≡ false → inside es x ≡ true
odd-inside [] x h e = absurd (true≢false e)
odd-inside (a ∷ []) x h e = rw (le-leb a x h.0)
odd-inside (a ∷ (b ∷ es)) x h e = rw (le-leb a x h.0, le-leb b x h.1.0) (twice (inside es x) ∙ odd-inside es x h.1.1 e)

above : (es : List ℕ) → (m : ℕ) × AllByRecursion (λ e. e ≤ m) es
above [] = (0, tt)
above (e ∷ es) =
    let p = above es in
    (e + p.0, (omega arith, All-weaker (λ k. k ≤ p.0) (λ k. k ≤ e + p.0) (λ k h. omega arith) es p.1))

ends-even : (es : List ℕ) (m : ℕ) → ((x : ℕ) → m ≤ x → inside es x ≡ false) → even es ≡ true
ends-even es m none =
    elim (cases_Bool (even es)) [
      | inl e ↦ e
      | inr e ↦
          let p = above es in
          absurd (both_ways _ (none (m + p.0) (omega arith)) (odd-inside es (m + p.0) (All-weaker (λ k. k ≤ p.0) (λ k. k ≤ m + p.0) (λ k h. omega arith) es p.1) e))
    ]

-- what one interval and those after it hold
interval : (p e f : ℕ) (es : List ℕ) (x : ℕ) → From p (e ∷ (f ∷ es)) → ((leb e x && ltb x f) || inside es x) ≡ inside (e ∷ (f ∷ es)) x
interval p e f es x h =
    elim (cases_lt x e) [
      | inl l ↦ rw (lt-leb e x l, lt-leb f x (omega arith), inside-before (suc f) es x h.1.1 (omega arith))
      | inr g ↦ elim (cases_lt x f) [
        | inl l ↦ rw (le-leb e x g, lt-ltb x f l, lt-leb f x l, inside-before (suc f) es x h.1.1 (omega arith))
        | inr k ↦ rw (le-leb e x g, le-ltb x f k, le-leb f x k) (sym (twice (inside es x)))
      ]
    ]

spread : (a b c d e : Bool) → ((a && (b && (c && d))) || (a && (b && (c && e)))) ≡ (a && (b && (c && (d || e))))
spread true true true d e = refl
spread true true false d e = refl
spread true false c d e = refl
spread false b c d e = refl

and-false : (a b c : Bool) → (a && (b && (c && false))) ≡ false
and-false true true true = refl
and-false true true false = refl
and-false true false c = refl
and-false false b c = refl

line-held :
    (l t b p : ℕ) (es : List ℕ) → From p es → even es ≡ true → (k x y : ℕ) →
    held (line_tiles l t b es) k x y ≡ (eqb k l && (leb t y && (ltb y b && inside es x)))
line-held l t b p [] h v k x y = sym (and-false (eqb k l) (leb t y) (ltb y b))
line-held l t b p (e ∷ []) h v k x y = absurd (both_ways _ refl v)
line-held l t b p (e ∷ (f ∷ es)) h v k x y =
    ap (λ r. in_tile (record { layer = l; left = e; right = f; top = t; bottom = b }) k x y || r) (line-held l t b (suc f) es h.1.1 v k x y)
    ∙ (spread (eqb k l) (leb t y) (ltb y b) (leb e x && ltb x f) (inside es x)
    ∙ ap (λ r. eqb k l && (leb t y && (ltb y b && r))) (interval p e f es x h))

-- bands whose lines end, down to one that is empty
pub record Ending (b : Band) (bs : List Band) : Type 0 where
  pub evens : AllByRecursion (λ c. even (edges c) ≡ true) (b ∷ bs)
  pub last : lastLine (edges b) bs ≡ []

upper : (a p i j : Bool) → ((a && (p && (true && i))) || (a && (false && j))) ≡ (a && (p && i))
upper true true true j = refl
upper true true false j = refl
upper true false i j = refl
upper false p i j = refl

lower : (a i j : Bool) → ((a && (true && (false && i))) || (a && (true && j))) ≡ (a && (true && j))
lower true i j = refl
lower false i j = refl

none-held : (a p : Bool) → false ≡ (a && (p && false))
none-held true true = refl
none-held true false = refl
none-held false p = refl

band_held :
    (l : ℕ) (b : Band) (bs : List Band) → rows.From (suc b.from) bs → Ending b bs → (k x y : ℕ) →
    held (band_tiles l (b ∷ bs)) k x y ≡ (eqb k l && (leb b.from y && inside (line_at (edges b) bs y) x))
band_held l b [] h v k x y = none-held (eqb k l) (leb b.from y) ∙ ap (λ es. eqb k l && (leb b.from y && inside es x)) (sym v.last)
band_held l b (c ∷ cs) h v k x y =
    held-append (line_tiles l b.from c.from (edges b)) (band_tiles l (c ∷ cs)) k x y
    ∙ (rw (
      line-held l b.from c.from 0 (edges b) (rises-from 0 (edges b) b.line.sorted) v.evens.0 k x y,
      band_held l c cs h.1 (record { evens = v.evens.1; last = v.last }) k x y,
    )
    (elim (cases_lt y c.from) [
      | inl m ↦ rw (lt-ltb y c.from m, lt-leb c.from y m, line_before (edges b) (suc c.from) cs y h.1 (omega arith))
          (upper (eqb k l) (leb b.from y) (inside (edges b) x) (inside (line_at (edges c) cs y) x))
      | inr m ↦ rw (le-ltb y c.from m, le-leb c.from y m, le-leb b.from y (omega arith))
          (lower (eqb k l) (inside (edges b) x) (inside (line_at (edges c) cs y) x))
    ]))

-- bounded regions end

late : (line : List ℕ) (bs : List Band) (y : ℕ) → AllByRecursion (λ b. b.from ≤ y) bs → line_at line bs y ≡ lastLine line bs
late line [] y h = refl
late line (b ∷ bs) y h = rw (le-leb b.from y h.0) (late (edges b) bs y h.1)

last_row : (bs : List Band) → (m : ℕ) × AllByRecursion (λ b. b.from ≤ m) bs
last_row [] = (0, tt)
last_row (b ∷ bs) =
    let p = last_row bs in
    (b.from + p.0, (omega arith, All-weaker (λ c. c.from ≤ p.0) (λ c. c.from ≤ b.from + p.0) (λ c h. omega arith) bs p.1))

last-from : (line : List ℕ) (bs : List Band) → From 0 line → From 0 (lastLine line bs)
last-from line [] h = h
last-from line (b ∷ bs) h = last-from (edges b) bs (rises-from 0 (edges b) b.line.sorted)

lines-even :
    (line : List ℕ) (p m : ℕ) (bs : List Band) → rows.From p bs → ((x y : ℕ) → m ≤ x → inside (line_at line bs y) x ≡ false) → AllByRecursion (λ b. even (edges b) ≡ true) bs
lines-even line p m [] h none = tt
lines-even line p m (b ∷ bs) h none =
    let here : (x : ℕ) → m ≤ x → inside (edges b) x ≡ false =
    λ x l. ap (λ es. inside es x) (sym (rw (le-leb b.from b.from (omega arith)) (line_before (edges b) (suc b.from) bs b.from h.1 (omega arith)))) ∙ none x b.from l in (
      ends-even (edges b) m here,
      lines-even (edges b) (suc b.from) m bs h.1 (λ x y l. elim (cases_lt y b.from) [
        | inl k ↦ ap (λ es. inside es x) (line_before (edges b) (suc b.from) bs y h.1 (omega arith)) ∙ here x l
        | inr k ↦ ap (λ v. inside (line_at (cond v (edges b) line) bs y) x) (sym (le-leb b.from y k)) ∙ none x y l
      ]),
    )

last_empty : (bs : List Band) (m : ℕ) → ((x y : ℕ) → m ≤ y → inside (line_at [] bs y) x ≡ false) → lastLine [] bs ≡ []
last_empty bs m none =
    let p = last_row bs in
    let y = m + p.0 in
    let e : line_at [] bs y ≡ lastLine [] bs = late [] bs y (All-weaker (λ c. c.from ≤ p.0) (λ c. c.from ≤ y) (λ c h. omega arith) bs p.1) in
    one_line (lastLine [] bs) [] (from-rises 0 (lastLine [] bs) (last-from [] bs tt)) refl (λ x. ap (λ es. inside es x) (sym e) ∙ none x y (omega arith))

-- order

-- in the rows from t up to b of the layer l, from p on
abbrev InLine : (l t b p : ℕ) → Tile → Type 0
InLine l t b p s = (s.layer ≡ l) × (s.top ≡ t) × (s.bottom ≡ b) × (p ≤ s.left)

line-in : (l t b p : ℕ) (es : List ℕ) → From p es → AllByRecursion (InLine l t b p) (line_tiles l t b es)
line-in l t b p [] h = tt
line-in l t b p (e ∷ []) h = tt
line-in l t b p (e ∷ (f ∷ es)) h =
    ((refl, refl, refl, h.0), All-weaker (InLine l t b (suc f)) (InLine l t b p) (λ s k. (k.0, k.1, k.2, omega arith)) (line_tiles l t b es) (line-in l t b (suc f) es h.1.1))

line-ascends : (l t b p : ℕ) (es : List ℕ) → From p es → Ascending (line_tiles l t b es)
line-ascends l t b p [] h = tt
line-ascends l t b p (e ∷ []) h = tt
line-ascends l t b p (e ∷ (f ∷ es)) h = (
  All-weaker (InLine l t b (suc f)) (Before (record { layer = l; left = e; right = f; top = t; bottom = b }))
      (λ s k. inr (sym k.0, inr (sym k.1, sym k.2, k.3))) (line_tiles l t b es) (line-in l t b (suc f) es h.1.1),
  line-ascends l t b (suc f) es h.1.1,
)

line-solid : (l t b p : ℕ) (es : List ℕ) → t < b → From p es → AllByRecursion Solid (line_tiles l t b es)
line-solid l t b p [] k h = tt
line-solid l t b p (e ∷ []) k h = tt
line-solid l t b p (e ∷ (f ∷ es)) k h = (record { wide = omega arith; tall = k }, line-solid l t b (suc f) es k h.1.1)

-- on the layer l, from row t on
abbrev InRows : (l t : ℕ) → Tile → Type 0
InRows l t s = (s.layer ≡ l) × (t ≤ s.top)

edges-from : (b : Band) → From 0 (edges b)
edges-from b = rises-from 0 (edges b) b.line.sorted

bands_in : (l p : ℕ) (bs : List Band) → rows.From p bs → AllByRecursion (InRows l p) (band_tiles l bs)
bands_in l p [] h = tt
bands_in l p (b ∷ []) h = tt
bands_in l p (b ∷ (c ∷ bs)) h =
    All-append (InRows l p) (line_tiles l b.from c.from (edges b)) (band_tiles l (c ∷ bs))
    (All-weaker (InLine l b.from c.from 0) (InRows l p) (λ s k. (k.0, omega arith)) _ (line-in l b.from c.from 0 (edges b) (edges-from b)))
    (All-weaker (InRows l (suc b.from)) (InRows l p) (λ s k. (k.0, omega arith)) _ (bands_in l (suc b.from) (c ∷ bs) h.1))

bands_ascend : (l p : ℕ) (bs : List Band) → rows.From p bs → Ascending (band_tiles l bs)
bands_ascend l p [] h = tt
bands_ascend l p (b ∷ []) h = tt
bands_ascend l p (b ∷ (c ∷ bs)) h =
    ascending_append (line_tiles l b.from c.from (edges b)) (band_tiles l (c ∷ bs)) (line-ascends l b.from c.from 0 (edges b) (edges-from b)) (bands_ascend l (suc b.from) (c ∷ bs) h.1)
    (All-weaker (InLine l b.from c.from 0) (λ s. AllByRecursion (Before s) (band_tiles l (c ∷ bs)))
    (λ s k. All-weaker (InRows l c.from) (Before s) (λ r m. inr (k.0 ∙ sym m.0, inl (omega arith))) (band_tiles l (c ∷ bs)) (bands_in l c.from (c ∷ bs) (omega arith, h.1.1)))
    _ (line-in l b.from c.from 0 (edges b) (edges-from b)))

bands_solid : (l p : ℕ) (bs : List Band) → rows.From p bs → AllByRecursion Solid (band_tiles l bs)
bands_solid l p [] h = tt
bands_solid l p (b ∷ []) h = tt
bands_solid l p (b ∷ (c ∷ bs)) h =
    All-append Solid (line_tiles l b.from c.from (edges b)) (band_tiles l (c ∷ bs)) (line-solid l b.from c.from 0 (edges b) (omega arith) (edges-from b)) (bands_solid l (suc b.from) (c ∷ bs) h.1)

-- THE CUT

region_held : (l : ℕ) (bs : List Band) → rows.From 0 bs → Bounded bs → (k x y : ℕ) → held (band_tiles l bs) k x y ≡ (eqb k l && covers bs x y)
region_held l [] h v k x y = none-covered (eqb k l)
  where
    none-covered : (a : Bool) → false ≡ (a && false)
    none-covered true = refl
    none-covered false = refl
region_held l (b ∷ bs) h v k x y =
    band_held l b bs h.1 (record { evens = lines-even [] 0 (2 ^ 40) (b ∷ bs) h v.across; last = last_empty (b ∷ bs) (2 ^ 40) v.down }) k x y
    ∙ ap (λ r. eqb k l && r) (elim (cases_lt y b.from) [
      | inl m ↦ rw (lt-leb b.from y m) (sym (ap (λ es. inside es x) (line_before [] (suc b.from) bs y h.1 (omega arith))))
      | inr m ↦ rw (le-leb b.from y m)
    ])

pub region_cut : (l : ℕ) (bs : List Band) (before after : List Tile) → Canonical bs → Bounded bs → after ≡ before ++ band_tiles l bs → Cut l bs before after
region_cut l bs before after canon bound e =
    let h = canonical-from [] 0 bs canon in
    record {
      fresh = band_tiles l bs;
      adds = e;
      ordered = record { solid = bands_solid l 0 bs h; before = bands_ascend l 0 bs h };
      layers = All-weaker (InRows l 0) (λ t. t.layer ≡ l) (λ t k. k.0) (band_tiles l bs) (bands_in l 0 bs h);
      holds = region_held l bs h bound;
    }
