-- Lists of bands in normal form, and what they show row by row. Assumes nothing.
use Rattle.std.proofs.Common.{◌≡◌, ℕ, suc, ◌-◌, ◌<◌, ◌≤◌, true, false, cond, not, leb, List, [], ◌∷◌, ◌++◌, length, get_or, refl, ap, ◌∙◌, inl, inr, ⊎_elim, arith}
use Rattle.std.proofs.lemmas.Bool.{le-leb, lt-leb, leb-true, and_parts, and_from, not_from_false, cases_Bool}
use Rattle.std.proofs.lemmas.Slice.Eq.{bytes_eq-Decides}
use Rattle.std.specs.Str.{bytes_eq}
use Rattle.scanline.specs.declared.band.Band.{Band}
use Rattle.scanline.specs.Bands.{edges, line_at, canonical, lastLine, Added}

-- the bands begin at p or after, one after another
abbrev pub From : ℕ → List Band → Type 0
From p [] = Unit {0}
From p (b ∷ bs) = (p ≤ b.from) × From (suc b.from) bs

-- canonical, and before row q
abbrev pub Canon : List ℕ → ℕ → ℕ → List Band → Type 0
Canon line p q [] = p ≤ q
Canon line p q (b ∷ bs) = (p ≤ b.from) × (line ≡ edges b → ⊥) × Canon (edges b) (suc b.from) q bs

pub canonical-from : (line : List ℕ) (p : ℕ) (bs : List Band) → canonical line p bs ≡ true → From p bs
canonical-from line p [] h = tt
canonical-from line p (b ∷ bs) h =
    let k = and_parts (leb p b.from) _ h in
    (leb-true p b.from k.0, canonical-from (edges b) (suc b.from) bs (and_parts (not (bytes_eq line (edges b))) _ k.1).1)

pub canon_canonical : (line : List ℕ) (p q : ℕ) (bs : List Band) → Canon line p q bs → canonical line p bs ≡ true
canon_canonical line p q [] h = refl
canon_canonical line p q (b ∷ bs) h =
    let differs : bytes_eq line (edges b) ≡ false = ⊎_elim (λ s. absurd (h.1 ((bytes_eq-Decides line (edges b)).0 s))) (λ s. s) (cases_Bool (bytes_eq line (edges b))) in
    and_from (leb p b.from) _ (le-leb p b.from h.0) (and_from (not (bytes_eq line (edges b))) _ (not_from_false _ differs) (canon_canonical (edges b) (suc b.from) q bs h.2))

pub canon_push : (line : List ℕ) (p q : ℕ) (bs : List Band) (b : Band) → Canon line p q bs → q ≤ b.from → (lastLine line bs ≡ edges b → ⊥) → Canon line p (suc b.from) (bs ++ b ∷ [])
canon_push line p q [] b h l n = (omega arith, n, omega arith)
canon_push line p q (c ∷ cs) b h l n = (h.0, h.1, canon_push (edges c) (suc c.from) q cs b h.2 l n)

pub canon_more : (line : List ℕ) (p q r : ℕ) (bs : List Band) → Canon line p q bs → q ≤ r → Canon line p r bs
canon_more line p q r [] h l = omega arith
canon_more line p q r (b ∷ bs) h l = (h.0, h.1, canon_more (edges b) (suc b.from) q r bs h.2 l)

pub canon_low : (line : List ℕ) (p q : ℕ) (bs : List Band) → Canon line p q bs → p ≤ q
canon_low line p q [] h = h
canon_low line p q (b ∷ bs) h = let k = canon_low (edges b) (suc b.from) q bs h.2 in omega arith

-- line_at before, after and at a new band

pub line_before : (line : List ℕ) (p : ℕ) (bs : List Band) (y : ℕ) → From p bs → y < p → line_at line bs y ≡ line
line_before line p [] y h l = refl
line_before line p (b ∷ bs) y h l = rw (lt-leb b.from y (omega arith)) (line_before line (suc b.from) bs y h.1 (omega arith))

pub line-late : (line : List ℕ) (p q : ℕ) (bs : List Band) (y : ℕ) → Canon line p q bs → q ≤ y → line_at line bs y ≡ lastLine line bs
line-late line p q [] y h l = refl
line-late line p q (b ∷ bs) y h l =
    let k = canon_low (edges b) (suc b.from) q bs h.2 in
    rw (le-leb b.from y (omega arith)) (line-late (edges b) (suc b.from) q bs y h.2 l)

pub line-push : (line : List ℕ) (bs : List Band) (b : Band) (y : ℕ) → line_at line (bs ++ b ∷ []) y ≡ cond (leb b.from y) (edges b) (line_at line bs y)
line-push line [] b y = refl
line-push line (c ∷ cs) b y = line-push (cond (leb c.from y) (edges c) line) cs b y

pub last-push : (line : List ℕ) (bs : List Band) (b : Band) → lastLine line (bs ++ b ∷ []) ≡ edges b
last-push line [] b = refl
last-push line (c ∷ cs) b = last-push (edges c) cs b

-- the last band
pub last-is : (line : List ℕ) (bs : List Band) (b : Band) → 0 < length bs → b ≡ get_or bs (length bs - 1) b → edges b ≡ lastLine line bs
last-is line [] b l is = absurd (omega arith)
last-is line (c ∷ []) b l is = ap edges is
last-is line (c ∷ d ∷ ds) b l is =
    let e : length (c ∷ d ∷ ds) - 1 ≡ suc (length (d ∷ ds) - 1) = omega arith in
    last-is (edges c) (d ∷ ds) b (omega arith) (is ∙ ap (λ i. get_or (c ∷ d ∷ ds) i b) e)

-- a band added at a row past all others
pub record Topped (row : ℕ) (line : List ℕ) (out out' : List Band) : Type 0 where
  pub ordered : Canon [] 0 (suc row) out'
  pub early : (y : ℕ) → y < row → line_at [] out' y ≡ line_at [] out y
  pub late : (y : ℕ) → row ≤ y → line_at [] out' y ≡ line
  pub last : lastLine [] out' ≡ line

pub topped : (low row : ℕ) (line : List ℕ) (out out' : List Band) → Canon [] 0 low out → low ≤ row → Added row line out out' → Topped row line out out'
topped low row line out out' o l (inl s) = rw s.1 (record {
  ordered = canon_more [] 0 low (suc row) out o (omega arith);
  early = λ y m. refl;
  late = λ y m. line-late [] 0 low out y o (omega arith) ∙ s.0;
  last = s.0;
})
topped low row line out out' o l (inr n) =
    let new = n.1.0 in
    let at : new.from ≡ row = n.1.1 in
    let is : edges new ≡ line = n.1.2 in
    rw n.1.3 (record {
      ordered = rw (← at) (canon_push [] 0 low out new o (omega arith) (λ e. n.0 (e ∙ is)));
      early = λ y m. line-push [] out new y ∙ rw (lt-leb new.from y (omega arith));
      late = λ y m. line-push [] out new y ∙ rw (le-leb new.from y (omega arith)) is;
      last = last-push [] out new ∙ is;
    })
