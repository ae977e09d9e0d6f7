-- The sums of lines and bands are the numbers of their columns and squares. Assumes nothing.
use Rattle.std.proofs.Common.{◌≡◌, ℕ, suc, ◌+◌, ◌-◌, ◌*◌, ◌^◌, ◌<◌, ◌≤◌, true, cond, not, leb, ◌⊎◌, List, [], ◌∷◌, length, get_or, take, drop, Some, None, Option, sym, refl, ap, ◌∙◌, subst, inl, inr, zero-mul, arith}
use Rattle.std.proofs.lemmas.Bool.{cases_lt, le-leb, lt-leb, both_ways}
use Rattle.std.proofs.lemmas.List.{take_rest}
use Rattle.scanline.specs.Lines.{inside, rises}
use Rattle.scanline.specs.Bands.{edges, line_at, covers, Canonical}
use Rattle.scanline.specs.declared.band.Band.{Band}
use Rattle.scanline.proofs.Merge.{From, rises-from, inside-before}
use Rattle.scanline.proofs.Widens.{far}
use Rattle.scanline.proofs.Rows as rows
use Rattle.scanline.proofs.Rows.{canonical-from, line_before}
use Rattle.area.specs.Areas.{sum_of, columns, squares_within, Ends, length_of, area_of, Sums, Counted}
use Rattle.area.proofs.Sums.{sum_same, sum-none, sum-add, columns-turn, sum-from, times_between}

-- lines

from_on : (p : ℕ) (es : List ℕ) (x : ℕ) → From p es → inside es x ≡ true → p ≤ x
from_on p es x h t = elim (cases_lt x p) [ inl l ↦ absurd (both_ways _ (inside-before p es x h l) t) | inr g ↦ g ]

first-inside : (e : ℕ) (es : List ℕ) → From (suc e) es → inside (e ∷ es) e ≡ true
first-inside e es h = far e es e (omega arith) ∙ ap not (inside-before (suc e) es e h (omega arith))

-- the last column of the first interval
last-inside : (e f : ℕ) (es : List ℕ) → From (suc e) (f ∷ es) → inside (e ∷ (f ∷ es)) (f - 1) ≡ true
last-inside e f es h = far e (f ∷ es) (f - 1) (omega arith) ∙ ap not (inside-before f (f ∷ es) (f - 1) (omega arith, h.1) (omega arith))

-- past an interval the line goes on as the rest of it does
rest-inside : (e f : ℕ) (es : List ℕ) (x : ℕ) → From (suc e) (f ∷ es) → inside es x ≡ true → inside (e ∷ (f ∷ es)) x ≡ true
rest-inside e f es x h t =
    let l = from_on (suc f) es x h.1 t in
    far e (f ∷ es) x (omega arith) ∙ ap not (far f es x (omega arith)) ∙ ap (λ v. not (not v)) t

pub line-columns : (m p : ℕ) (es : List ℕ) → From p es → ((x : ℕ) → inside es x ≡ true → x < m) → columns m (inside es) ≡ length_of es
line-columns m p [] h k = sum-none m (λ x. 0) (λ x. refl)
line-columns m p (e ∷ []) h k = absurd (omega (arith, k (e + m) (far e [] (e + m) (omega arith))))
line-columns m p (e ∷ (f ∷ es)) h k =
    let one = columns-turn m e (inside (f ∷ es)) (λ x t. omega (arith, from_on (suc e) (f ∷ es) x h.1 t)) in
    let two = columns-turn m f (inside es) (λ x t. omega (arith, from_on (suc f) es x h.1.1 t)) in
    let rest = line-columns m (suc f) es h.1.1 (λ x t. k x (rest-inside e f es x h.1 t)) in
    let last = k (f - 1) (last-inside e f es h.1) in
    omega (arith, one, two, rest, last, h.1.0)

-- bands

row_below : (b : Band) (bs : List Band) (y : ℕ) → rows.From (suc b.from) bs → y < b.from → line_at [] (b ∷ bs) y ≡ []
row_below b bs y h l = line_before [] b.from (b ∷ bs) y (omega arith, h) l

row_within : (b c : Band) (bs : List Band) (y : ℕ) → rows.From (suc b.from) (c ∷ bs) → b.from ≤ y → y < c.from → line_at [] (b ∷ (c ∷ bs)) y ≡ edges b
row_within b c bs y h g l = rw (le-leb b.from y g) (line_before (edges b) c.from (c ∷ bs) y (omega arith, h.1) l)

row-past : (b c : Band) (bs : List Band) (y : ℕ) → rows.From (suc b.from) (c ∷ bs) → c.from ≤ y → line_at [] (b ∷ (c ∷ bs)) y ≡ line_at [] (c ∷ bs) y
row-past b c bs y h g = let l : b.from ≤ y = omega (arith, h.0) in rw (le-leb b.from y l, le-leb c.from y g)

module _ (m : ℕ) where
  -- how many columns of a row are covered
  abbrev across : List Band → ℕ → ℕ
  across bs y = columns m (inside (line_at [] bs y))

  none-across : columns m (inside []) ≡ 0
  none-across = sum-none m (λ x. 0) (λ x. refl)

  -- the rows of a band from its first on, and those of what follows, are its rows up to there
  across-step : (b c : Band) (bs : List Band) (y : ℕ) → rows.From (suc b.from) (c ∷ bs) → across (b ∷ (c ∷ bs)) y + cond (leb c.from y) (columns m (inside (edges b))) 0 ≡ cond (leb b.from y) (columns m (inside (edges b))) 0 + across (c ∷ bs) y
  across-step b c bs y h =
      elim (cases_lt y b.from) [
        | inl l ↦
            let k : y < c.from = omega (arith, h.0) in
            rw (row_below b (c ∷ bs) y h l, row_below c bs y h.1 k, lt-leb b.from y l, lt-leb c.from y k) (omega arith)
        | inr g ↦ elim (cases_lt y c.from) [
          | inl l ↦ rw (row_within b c bs y h g l, row_below c bs y h.1 l, le-leb b.from y g, lt-leb c.from y l, none-across) (omega arith)
          | inr k ↦ rw (row-past b c bs y h k, le-leb b.from y g, le-leb c.from y k) (omega arith)
        ]
      ]

  -- a band with columns ends by row m
  band-ends : (b c : Band) (bs : List Band) (es : List ℕ) → edges b ≡ es → rows.From (suc b.from) (c ∷ bs) → Ends m (covers (b ∷ (c ∷ bs))) → (columns m (inside es) ≡ 0) ⊎ (c.from ≤ m)
  band-ends b c bs [] q h k = inl none-across
  band-ends b c bs (e ∷ es) q h k =
      let row : line_at [] (b ∷ (c ∷ bs)) (c.from - 1) ≡ e ∷ es = row_within b c bs (c.from - 1) h (omega (arith, h.0)) (omega (arith, h.0)) ∙ q in
      let s : rises 0 (e ∷ es) ≡ true = subst (λ v. rises 0 v ≡ true) q b.line.sorted in
      inr (omega (arith, h.0, (k e (c.from - 1) (ap (λ v. inside v e) row ∙ first-inside e es (rises-from 0 (e ∷ es) s).1)).1))

  -- what follows a band ends where the whole does
  rest-ends : (b c : Band) (bs : List Band) → rows.From (suc b.from) (c ∷ bs) → Ends m (covers (b ∷ (c ∷ bs))) → Ends m (covers (c ∷ bs))
  rest-ends b c bs h k x y t =
      elim (cases_lt y c.from) [
        | inl l ↦ absurd (both_ways _ (ap (λ v. inside v x) (row_below c bs y h.1 l)) t)
        | inr g ↦ k x y (ap (λ v. inside v x) (row-past b c bs y h g) ∙ t)
      ]

  -- a last band that ends has no columns
  last_none : (b : Band) (es : List ℕ) → edges b ≡ es → Ends m (covers (b ∷ [])) → (y : ℕ) → across (b ∷ []) y ≡ 0
  last_none b [] q k y =
      elim (cases_lt y b.from) [
        | inl l ↦ rw (lt-leb b.from y l) none-across
        | inr g ↦ rw (le-leb b.from y g, q) none-across
      ]
  last_none b (e ∷ es) q k y =
      let row : line_at [] (b ∷ []) (b.from + m) ≡ e ∷ es = (let l : b.from ≤ b.from + m = omega arith in rw (le-leb b.from (b.from + m) l) q) in
      let s : rises 0 (e ∷ es) ≡ true = subst (λ v. rises 0 v ≡ true) q b.line.sorted in
      absurd (omega (arith, (k e (b.from + m) (ap (λ v. inside v e) row ∙ first-inside e es (rises-from 0 (e ∷ es) s).1)).1))

  pub bands-squares : (bs : List Band) (p : ℕ) → rows.From p bs → Ends m (covers bs) → sum_of m (across bs) ≡ area_of bs
  bands-squares [] p h k = sum-none m (across []) (λ y. none-across)
  bands-squares (b ∷ []) p h k = sum-none m (across (b ∷ [])) (last_none b (edges b) refl k)
  bands-squares (b ∷ (c ∷ bs)) p h k =
      let n = columns m (inside (edges b)) in
      let rest = bands-squares (c ∷ bs) (suc b.from) h.1 (rest-ends b c bs h.1 k) in
      let row : (x : ℕ) → covers (b ∷ (c ∷ bs)) x b.from ≡ inside (edges b) x = λ x. ap (λ v. inside v x) (row_within b c bs b.from h.1 (omega arith) (omega (arith, h.1.0))) in
      let line : n ≡ length_of (edges b) = line-columns m 0 (edges b) (rises-from 0 (edges b) b.line.sorted) (λ x t. (k x b.from (row x ∙ t)).0) in
      let sums : sum_of m (across (b ∷ (c ∷ bs))) + n * (m - c.from) ≡ n * (m - b.from) + sum_of m (across (c ∷ bs)) =
      ap (λ v. sum_of m (across (b ∷ (c ∷ bs))) + v) (sym (sum-from m c.from n))
      ∙ sym (sum-add m (across (b ∷ (c ∷ bs))) (λ y. cond (leb c.from y) n 0))
      ∙ sum_same m _ _ (λ y. across-step b c bs y h.1)
      ∙ sum-add m (λ y. cond (leb b.from y) n 0) (across (c ∷ bs))
      ∙ ap (λ v. v + sum_of m (across (c ∷ bs))) (sum-from m b.from n)
      in
      subst (λ v. sum_of m (across (b ∷ (c ∷ bs))) ≡ v * (c.from - b.from) + area_of (c ∷ bs)) line
      (elim (band-ends b c bs (edges b) refl h.1 k) [
        | inl z ↦
            let u : n * (m - c.from) ≡ 0 = ap (λ v. v * (m - c.from)) z ∙ zero-mul (m - c.from) in
            let v : n * (m - b.from) ≡ 0 = ap (λ v. v * (m - b.from)) z ∙ zero-mul (m - b.from) in
            let w : n * (c.from - b.from) ≡ 0 = ap (λ v. v * (c.from - b.from)) z ∙ zero-mul (c.from - b.from) in
            omega (arith, u, v, w, sums, rest)
        | inr l ↦
            let t = times_between n m b.from c.from (omega (arith, h.1.0)) l in
            omega (arith, t, sums, rest)
      ])

-- the squares of bands in normal form
pub area_squares : (m : ℕ) (bs : List Band) → Canonical bs → Ends m (covers bs) → squares_within m (covers bs) ≡ area_of bs
area_squares m bs h k = bands-squares m bs 0 (canonical-from [] 0 bs h) k

-- the loops

-- one interval more
pub length_more : (es : List ℕ) → 2 ≤ length es → length_of es ≡ (get_or es 1 0 - get_or es 0 0) + length_of (take (length es - 2) (drop 2 es))
length_more [] h = absurd (omega arith)
length_more (e ∷ []) h = absurd (omega arith)
length_more (e ∷ (f ∷ es)) h = ap (λ r. (f - e) + length_of r) (sym (take_rest (e ∷ (f ∷ es)) 2))

pub length-done : (es : List ℕ) → length es < 2 → length_of es ≡ 0
length-done [] h = refl
length-done (e ∷ []) h = refl
length-done (e ∷ (f ∷ es)) h = absurd (omega arith)

-- some bands are added up, and the rest is left
pub record Adding (bs : List Band) (sum : ℕ) (rest : List Band) : Type 0 where
  pub low : ℕ
  pub from : rows.From low rest
  pub adds : sum + area_of rest ≡ area_of bs

pub adding_none : (bs : List Band) → Canonical bs → Adding bs 0 bs
adding_none bs h = record { low = 0; from = canonical-from [] 0 bs h; adds = omega arith }

-- two bands that follow one another, and one band more
pub record Next (bs : List Band) (sum : ℕ) (rest after : List Band) (b c : Band) : Type 0 where
  pub rises : b.from < c.from
  pub more : sum + (length_of (edges b) * (c.from - b.from) + area_of after) ≡ area_of bs
  pub from : rows.From (suc b.from) after

pub adding_next : (bs : List Band) (sum : ℕ) (rest : List Band) (b c : Band) → 2 ≤ length rest → b ≡ get_or rest 0 b → c ≡ get_or rest 1 c → Adding bs sum rest → Next bs sum rest (take (length rest - 1) (drop 1 rest)) b c
adding_next bs sum [] b c h p q a = absurd (omega arith)
adding_next bs sum (d ∷ []) b c h p q a = absurd (omega arith)
adding_next bs sum (d ∷ (e ∷ rest)) b c h p q a =
    subst (λ v. Next bs sum (d ∷ (e ∷ rest)) (take (length (d ∷ (e ∷ rest)) - 1) (drop 1 (d ∷ (e ∷ rest)))) v c) (sym p)
    (subst (λ v. Next bs sum (d ∷ (e ∷ rest)) (take (length (d ∷ (e ∷ rest)) - 1) (drop 1 (d ∷ (e ∷ rest)))) d v) (sym q)
    (subst (λ r. Next bs sum (d ∷ (e ∷ rest)) r d e) (sym (take_rest (d ∷ (e ∷ rest)) 1))
    (record { rises = omega (arith, a.from.1.0); more = a.adds; from = a.from.1 })))

pub adding_done : (bs : List Band) (sum : ℕ) (rest : List Band) → length rest < 2 → Adding bs sum rest → sum ≡ area_of bs
adding_done bs sum [] h a = omega (arith, a.adds)
adding_done bs sum (d ∷ []) h a = omega (arith, a.adds)
adding_done bs sum (d ∷ (e ∷ rest)) h a = absurd (omega arith)

-- what a sum of the bands says of the squares
pub counted : (bs : List Band) (o : Option ℕ) → Canonical bs → Sums (area_of bs) o → Counted (covers bs) o
counted bs (Some n) h s = λ m k. area_squares m bs h k ∙ sym s
counted bs None h s = λ m k. subst (λ v. 2 ^ 64 ≤ v) (sym (area_squares m bs h k)) s
