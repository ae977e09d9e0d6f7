-- What one turn of the merge of two lists of bands keeps. Assumes nothing.
use Rattle.std.proofs.Common.{◌≡◌, ℕ, suc, ◌+◌, ◌<◌, ◌≤◌, min, false, cond, eqb, Option, List, [], ◌∷◌, ◌++◌, length, Some, None, refl, ap, ◌∙◌, subst, ⊎_elim, arith}
use Rattle.std.proofs.lemmas.Bool.{cases_lt, cases_eq, eq-eqb, ne_eqb, le-leb, lt-leb}
use Rattle.scanline.specs.declared.Op.{Op}
use Rattle.scanline.specs.declared.Op.TheVariants.{And, Or, Without, Xor}
use Rattle.scanline.specs.Lines as lines
use Rattle.scanline.specs.Lines.{inside, applied}
use Rattle.scanline.specs.declared.band.Band.{Band}
use Rattle.scanline.specs.Bands.{edges, line_at, covers, Canonical, lastLine, Added}
use Rattle.scanline.proofs.Rows.{From, Canon, canonical-from, canon_canonical, canon_push, canon_more, line_before, line-late, line-push, last-push}
use Rattle.scanline.specs.Starts.{first_start, starting, past}
use Rattle.region.specs.Regions.{Combined}

-- the first row at which a band of either begins
abbrev pub firstRow : List Band → List Band → Option ℕ
firstRow = first_start (λ b. b.from)

-- past a first band that begins at row y: its line, and the bands after it
abbrev pub lineAfter : ℕ → List ℕ → List Band → List ℕ
lineAfter y line [] = line
lineAfter y line (b ∷ bs) = cond (eqb b.from y) (edges b) line

abbrev pub bandsAfter : ℕ → List Band → List Band
bandsAfter = past (λ b. b.from)

pub line_here : (y : ℕ) (line : List ℕ) (bs : List Band) → lastLine line (starting (λ b. b.from) y bs) ≡ lineAfter y line bs
line_here y line [] = refl
line_here y line (b ∷ bs) = ⊎_elim (λ s. rw (eq-eqb b.from y s)) (λ n. rw (ne_eqb b.from y n)) (cases_eq b.from y)

-- past row y

after-from : (y : ℕ) (bs : List Band) → From y bs → From (suc y) (bandsAfter y bs)
after-from y [] h = tt
after-from y (b ∷ bs) h =
    ⊎_elim
    (λ s. rw (eq-eqb b.from y s) (subst (λ v. From (suc v) bs) s h.1))
    (λ n. rw (ne_eqb b.from y n) (omega arith, h.1))
    (cases_eq b.from y)

after_line : (line : List ℕ) (y : ℕ) (bs : List Band) (z : ℕ) → y ≤ z → line_at line bs z ≡ line_at (lineAfter y line bs) (bandsAfter y bs) z
after_line line y [] z l = refl
after_line line y (b ∷ bs) z l =
    ⊎_elim
    (λ s. rw (eq-eqb b.from y s, le-leb b.from z (omega arith)))
    (λ n. rw (ne_eqb b.from y n))
    (cases_eq b.from y)

after-length : (y : ℕ) (bs : List Band) → length (bandsAfter y bs) ≤ length bs
after-length y [] = omega arith
after-length y (b ∷ bs) =
    ⊎_elim
    (λ s. rw (eq-eqb b.from y s) (omega arith))
    (λ n. rw (ne_eqb b.from y n) (omega arith))
    (cases_eq b.from y)

-- firstRow

pub first-none : (a b : List Band) → firstRow a b ≡ None → (a ≡ []) × (b ≡ [])
first-none [] [] h = (refl, refl)
first-none [] (y ∷ ys) h = absurd (grind arith)
first-none (x ∷ xs) [] h = absurd (grind arith)
first-none (x ∷ xs) (y ∷ ys) h = absurd (grind arith)

first-from : (a b : List Band) (e p : ℕ) → firstRow a b ≡ Some e → From p a → From p b → (p ≤ e) × From e a × From e b
first-from [] [] e p h f g = absurd (grind arith)
first-from [] (y ∷ ys) e p h f g = let s : y.from ≡ e = cc in (omega arith, tt, (omega arith, g.1))
first-from (x ∷ xs) [] e p h f g = let s : x.from ≡ e = cc in (omega arith, (omega arith, f.1), tt)
first-from (x ∷ xs) (y ∷ ys) e p h f g = let s : min x.from y.from ≡ e = cc in (omega arith, (omega arith, f.1), (omega arith, g.1))

pub first-less : (a b : List Band) (e : ℕ) → firstRow a b ≡ Some e → length (bandsAfter e a) + length (bandsAfter e b) < length a + length b
first-less [] [] e h = absurd (grind arith)
first-less [] (y ∷ ys) e h = let s : y.from ≡ e = cc in rw (eq-eqb y.from e s) (omega arith)
first-less (x ∷ xs) [] e h = let s : x.from ≡ e = cc in rw (eq-eqb x.from e s) (omega arith)
first-less (x ∷ xs) (y ∷ ys) e h =
    let s : min x.from y.from ≡ e = cc in
    ⊎_elim
    (λ (l : y.from < x.from). let k : y.from ≡ e = omega arith in rw (eq-eqb y.from e k) (omega (arith, after-length e (x ∷ xs))))
    (λ (l : x.from ≤ y.from). let k : x.from ≡ e = omega arith in rw (eq-eqb x.from e k) (omega (arith, after-length e (y ∷ ys))))
    (cases_lt y.from x.from)

-- the merge so far: the rows below `low` are done
pub record Sofar (op : Op) (a b out left-a left-b : List Band) (line-a line-b : List ℕ) : Type 0 where
  pub low : ℕ
  pub from_a : From low left-a
  pub from_b : From low left-b
  pub is_a : (y : ℕ) → low ≤ y → line_at [] a y ≡ line_at line-a left-a y
  pub is_b : (y : ℕ) → low ≤ y → line_at [] b y ≡ line_at line-b left-b y
  pub ordered : Canon [] 0 low out
  pub last : (x : ℕ) → inside (lastLine [] out) x ≡ applied op (inside line-a x) (inside line-b x)
  pub done : (x y : ℕ) → y < low → covers out x y ≡ applied op (covers a x y) (covers b x y)

applied-false : (op : Op) → false ≡ applied op false false
applied-false And = refl
applied-false Or = refl
applied-false Without = refl
applied-false Xor = refl

pub start : (op : Op) (a b : List Band) (none : List ℕ) → none ≡ [] → Canonical a → Canonical b → Sofar op a b [] a b none none
start op a b none e f g = rw e record {
  low = 0;
  from_a = canonical-from [] 0 a f;
  from_b = canonical-from [] 0 b g;
  is_a = λ y l. refl;
  is_b = λ y l. refl;
  ordered = omega arith;
  last = λ x. applied-false op;
  done = λ x y l. absurd (omega arith);
}

pub finish : (op : Op) (a b out : List Band) (line-a line-b : List ℕ) → Sofar op a b out [] [] line-a line-b → Canonical out × Combined op a b out
finish op a b out line-a line-b h = (
  canon_canonical [] 0 h.low out h.ordered,
  record {
    holds = λ x y.
        ⊎_elim
        (λ l. h.done x y l)
        (λ l. ap (λ es. inside es x) (line-late [] 0 h.low out y h.ordered l) ∙ h.last x ∙ cc (h.is_a y l, h.is_b y l))
        (cases_lt y h.low);
  },
)

module _ (op : Op) (a b out left-a left-b : List Band) (line-a line-b : List ℕ) (h : Sofar op a b out left-a left-b line-a line-b) (row : ℕ) (f : firstRow left-a left-b ≡ Some row) where
  gap-a : (y : ℕ) → h.low ≤ y → y < row → line_at [] a y ≡ line-a
  gap-a y l m = h.is_a y l ∙ line_before line-a row left-a y (first-from left-a left-b row h.low f h.from_a h.from_b).1 m

  gap-b : (y : ℕ) → h.low ≤ y → y < row → line_at [] b y ≡ line-b
  gap-b y l m = h.is_b y l ∙ line_before line-b row left-b y (first-from left-a left-b row h.low f h.from_a h.from_b).2 m

  past-a : (y : ℕ) → row ≤ y → line_at [] a y ≡ line_at (lineAfter row line-a left-a) (bandsAfter row left-a) y
  past-a y l =
      let k = (first-from left-a left-b row h.low f h.from_a h.from_b).0 in
      h.is_a y (omega arith) ∙ after_line line-a row left-a y l

  past-b : (y : ℕ) → row ≤ y → line_at [] b y ≡ line_at (lineAfter row line-b left-b) (bandsAfter row left-b) y
  past-b y l =
      let k = (first-from left-a left-b row h.low f h.from_a h.from_b).0 in
      h.is_b y (omega arith) ∙ after_line line-b row left-b y l

  -- at the row itself
  at_a : line_at [] a row ≡ lineAfter row line-a left-a
  at_a = past-a row (omega arith) ∙ line_before _ (suc row) (bandsAfter row left-a) row (after-from row left-a (first-from left-a left-b row h.low f h.from_a h.from_b).1) (omega arith)

  at_b : line_at [] b row ≡ lineAfter row line-b left-b
  at_b = past-b row (omega arith) ∙ line_before _ (suc row) (bandsAfter row left-b) row (after-from row left-b (first-from left-a left-b row h.low f h.from_a h.from_b).2) (omega arith)

  module _ (line : List ℕ) (made : lines.Combined op (lineAfter row line-a left-a) (lineAfter row line-b left-b) line) where
    step : (out' : List Band) → Canon [] 0 (suc row) out' → ((y : ℕ) → y < row → line_at [] out' y ≡ line_at [] out y) → line_at [] out' row ≡ line → lastLine [] out' ≡ line
        → Sofar op a b out' (bandsAfter row left-a) (bandsAfter row left-b) (lineAfter row line-a left-a) (lineAfter row line-b left-b)
    step out' o early at new =
        let fs = first-from left-a left-b row h.low f h.from_a h.from_b in
        record {
          low = suc row;
          from_a = after-from row left-a fs.1;
          from_b = after-from row left-b fs.2;
          is_a = λ y l. past-a y (omega arith);
          is_b = λ y l. past-b y (omega arith);
          ordered = o;
          last = λ x. rw new (made.holds x);
          done = λ x y l.
              ⊎_elim
              (λ m.
              ap (λ es. inside es x) (early y m)
              ∙ ⊎_elim
              (λ n. h.done x y n)
              (λ n. ap (λ es. inside es x) (line-late [] 0 h.low out y h.ordered n) ∙ h.last x ∙ cc (gap-a y n m, gap-b y n m))
              (cases_lt y h.low))
              (λ m. let s : y ≡ row = omega arith in rw s (ap (λ es. inside es x) at ∙ made.holds x ∙ cc (at_a, at_b)))
              (cases_lt y row);
        }

    pub added : (out' : List Band) → Added row line out out' → Sofar op a b out' (bandsAfter row left-a) (bandsAfter row left-b) (lineAfter row line-a left-a) (lineAfter row line-b left-b)
    added out' d =
        let k = (first-from left-a left-b row h.low f h.from_a h.from_b).0 in
        ⊎_elim
        (λ s. rw s.1 (step out (canon_more [] 0 h.low (suc row) out h.ordered (omega arith)) (λ y m. refl) (line-late [] 0 h.low out row h.ordered k ∙ s.0) s.0))
        (λ n.
        let new = n.1.0 in
        let at : new.from ≡ row = n.1.1 in
        let is : edges new ≡ line = n.1.2 in
        rw n.1.3
        (step (out ++ new ∷ [])
        (rw (← at) (canon_push [] 0 h.low out new h.ordered (omega arith) (λ e. n.0 (e ∙ is))))
        (λ y m. line-push [] out new y ∙ rw (lt-leb new.from y (omega arith)))
        (line-push [] out new row ∙ rw (le-leb new.from row (omega arith)) is)
        (last-push [] out new ∙ is)))
        d
