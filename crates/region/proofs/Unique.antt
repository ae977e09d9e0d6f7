-- A set of squares has one canonical list of bands. Assumes nothing.
use Rattle.std.proofs.Common.{◌≡◌, ℕ, zero, suc, ◌<◌, ◌≤◌, Bool, true, false, cond, not, ◌&&◌, leb, List, [], ◌∷◌, length, get_or, Decides, sym, refl, ap, ◌∙◌, inl, inr, ⊎_elim, arith}
use Rattle.std.specs.Str.{bytes_eq}
use Rattle.std.specs.List.{AllZip}
use lib.Pointwise.{pointwise}
use Rattle.std.proofs.lemmas.Slice.Eq.{bytes_eq-Decides}
use Rattle.std.proofs.lemmas.Bool.{cases_lt, cases_order, le-leb, and_parts, and_from, false≢true, not-true, both_ways, leb-true}
use Rattle.scanline.specs.Lines.{inside, Sorted}
use Rattle.scanline.proofs.Unique.{one_line}
use Rattle.scanline.specs.declared.band.Band.{Band}
use Rattle.scanline.specs.Bands.{edges, line_at, covers, canonical, Canonical}
use Rattle.region.specs.Regions.{Alike}
use Rattle.scanline.proofs.Rows.{canonical-from, line_before}

-- what canonical says, taken apart
pub canon_parts : (line : List ℕ) (p : ℕ) (b : Band) (bs : List Band) → canonical line p (b ∷ bs) ≡ true → (p ≤ b.from) × (line ≡ edges b → ⊥) × (canonical (edges b) (suc b.from) bs ≡ true)
canon_parts line p b bs h =
    let u = and_parts (leb p b.from) _ h in
    let v = and_parts (not (bytes_eq line (edges b))) _ u.1 in
    (leb-true p b.from u.0, (λ e. both_ways _ (not-true _ v.0) ((bytes_eq-Decides line (edges b)).1 e)), v.1)

-- at its first row a band shows its line
pub at_first : (line : List ℕ) (b : Band) (bs : List Band) → canonical (edges b) (suc b.from) bs ≡ true → line_at line (b ∷ bs) b.from ≡ edges b
at_first line b bs h = rw (le-leb b.from b.from (omega arith)) (line_before (edges b) (suc b.from) bs b.from (canonical-from (edges b) (suc b.from) bs h) (omega arith))

pub before : (line : List ℕ) (b : Band) (bs : List Band) (y : ℕ) → canonical (edges b) (suc b.from) bs ≡ true → y < b.from → line_at line (b ∷ bs) y ≡ line
before line b bs y h l = line_before line b.from (b ∷ bs) y (omega arith, canonical-from (edges b) (suc b.from) bs h) l

pub after : (line : List ℕ) (b : Band) (bs : List Band) (y : ℕ) → b.from ≤ y → line_at line (b ∷ bs) y ≡ line_at (edges b) bs y
after line b bs y l = rw (le-leb b.from y l)

one_from : (line : List ℕ) (p : ℕ) (a b : List Band) → canonical line p a ≡ true → canonical line p b ≡ true → ((y : ℕ) → line_at line a y ≡ line_at line b y) → Alike a b
one_from line p [] [] h g s = tt
one_from line p [] (b ∷ bs) h g s = let q = canon_parts line p b bs g in absurd (q.1 (s b.from ∙ at_first line b bs q.2))
one_from line p (a ∷ xs) [] h g s = let q = canon_parts line p a xs h in absurd (q.1 (sym (s a.from) ∙ at_first line a xs q.2))
one_from line p (a ∷ xs) (b ∷ bs) h g s =
    let m = canon_parts line p a xs h in
    let n = canon_parts line p b bs g in
    ⊎_elim
    (λ q.
    let same : edges a ≡ edges b = sym (at_first line a xs m.2) ∙ s a.from ∙ ap (line_at line (b ∷ bs)) q ∙ at_first line b bs n.2 in
    let k : canonical (edges a) (suc a.from) bs ≡ true = rw (q, same) n.2 in (
      q,
      same,
      one_from (edges a) (suc a.from) xs bs m.2 k (λ y.
          ⊎_elim
          (λ l. line_before (edges a) (suc a.from) xs y (canonical-from (edges a) (suc a.from) xs m.2) (omega arith) ∙ sym (line_before (edges a) (suc a.from) bs y (canonical-from (edges a) (suc a.from) bs k) (omega arith)))
          (λ l. sym (after line a xs y l) ∙ s y ∙ after line b bs y (omega arith) ∙ ap (λ v. line_at v bs y) (sym same))
          (cases_lt y a.from)),
    ))
    (λ o.
    ⊎_elim
    (λ l. absurd (m.1 (sym (before line b bs a.from n.2 l) ∙ sym (s a.from) ∙ at_first line a xs m.2)))
    (λ l. absurd (n.1 (sym (before line a xs b.from m.2 l) ∙ s b.from ∙ at_first line b bs n.2)))
    o)
    (cases_order a.from b.from)

pub row-sorted : (line : List ℕ) (bs : List Band) (y : ℕ) → Sorted line → Sorted (line_at line bs y)
row-sorted line [] y h = h
row-sorted line (b ∷ bs) y h = row-sorted (cond (leb b.from y) (edges b) line) bs y (either (leb b.from y))
  where
    either : (t : Bool) → Sorted (cond t (edges b) line)
    either true = b.line.sorted
    either false = h

pub one-region : (a b : List Band) → Canonical a → Canonical b → ((x y : ℕ) → covers a x y ≡ covers b x y) → Alike a b
one-region a b h g s = one_from [] 0 a b h g (λ y. one_line (line_at [] a y) (line_at [] b y) (row-sorted [] a y refl) (row-sorted [] b y refl) (λ x. s x y))

alike-line : (line : List ℕ) (a b : List Band) (y : ℕ) → Alike a b → line_at line a y ≡ line_at line b y
alike-line line [] [] y h = refl
alike-line line [] (b ∷ bs) y h = absurd h
alike-line line (a ∷ xs) [] y h = absurd h
alike-line line (a ∷ xs) (b ∷ bs) y h = rw (h.0, h.1) (alike-line (cond (leb b.from y) (edges b) line) xs bs y h.2)

pub alike-covers : (a b : List Band) → Alike a b → (x y : ℕ) → covers a x y ≡ covers b x y
alike-covers a b h x y = ap (λ es. inside es x) (alike-line [] a b y h)

-- compared band by band
pub pointwise-alike : (E : Band → Band → Bool) → ((a b : Band) → Decides (E a b) ((a.from ≡ b.from) × (edges a ≡ edges b))) → (xs ys : List Band) → Decides (pointwise E xs ys) (Alike xs ys)
pointwise-alike E d [] [] = (λ t. tt, λ k. refl)
pointwise-alike E d [] (b ∷ bs) = (λ t. absurd (false≢true t), λ k. absurd k)
pointwise-alike E d (a ∷ xs) [] = (λ t. absurd (false≢true t), λ k. absurd k)
pointwise-alike E d (a ∷ xs) (b ∷ bs) =
    let e = d a b in
    let f = pointwise-alike E d xs bs in
    (λ t. let k = and_parts (E a b) (pointwise E xs bs) t in let h = e.0 k.0 in (h.0, h.1, f.0 k.1), λ k. and_from (E a b) (pointwise E xs bs) (e.1 (k.0, k.1)) (f.1 k.2))

-- copied band by band
pub copied-alike : (R : Band → Band → Type 0) (xs ys : List Band) → AllZip R xs ys → ((a b : Band) → R a b → (a.from ≡ b.from) × (edges a ≡ edges b)) → Alike xs ys
copied-alike R [] [] h d = tt
copied-alike R [] (b ∷ bs) h d = absurd h
copied-alike R (a ∷ xs) [] h d = absurd h
copied-alike R (a ∷ xs) (b ∷ bs) h d = let k = d a b h.0 in (k.0, k.1, copied-alike R xs bs h.1 d)

pub alike-canonical : (line : List ℕ) (p : ℕ) (a b : List Band) → Alike a b → canonical line p a ≡ canonical line p b
alike-canonical line p [] [] h = refl
alike-canonical line p [] (b ∷ bs) h = absurd h
alike-canonical line p (a ∷ xs) [] h = absurd h
alike-canonical line p (a ∷ xs) (b ∷ bs) h = rw (h.0, h.1) (ap (λ t. leb p b.from && (not (bytes_eq line (edges b)) && t)) (alike-canonical (edges b) (suc b.from) xs bs h.2))

-- no band begins past row m
abbrev pub Upper : ℕ → List Band → Type 0
Upper m [] = Unit {0}
Upper m (b ∷ bs) = (b.from ≤ m) × Upper m bs

-- where nothing changes from row m on no band begins past it
upper_from : (m p : ℕ) (line : List ℕ) (bs : List Band) → Sorted line → canonical line p bs ≡ true → ((x y : ℕ) → m ≤ y → inside (line_at line bs y) x ≡ inside (line_at line bs m) x) → Upper m bs
upper_from m p line [] o h s = tt
upper_from m p line (b ∷ bs) o h s =
    let k = canon_parts line p b bs h in
    elim (cases_lt m b.from) [
      | inl l ↦ absurd (k.1 (one_line line (edges b) o b.line.sorted (λ x. ap (λ es. inside es x) (sym (before line b bs m k.2 l)) ∙ sym (s x b.from (omega arith)) ∙ ap (λ es. inside es x) (at_first line b bs k.2))))
      | inr l ↦ (l, upper_from m (suc b.from) (edges b) bs b.line.sorted k.2 (λ x y g. ap (λ es. inside es x) (sym (after line b bs y (omega arith))) ∙ s x y g ∙ ap (λ es. inside es x) (after line b bs m l)))
    ]

pub still-upper : (m : ℕ) (bs : List Band) → Canonical bs → ((x y : ℕ) → m ≤ y → covers bs x y ≡ covers bs x m) → Upper m bs
still-upper m bs h s = upper_from m 0 [] bs refl h s

pub upper_at : (m : ℕ) (bs : List Band) (i : ℕ) (b : Band) → Upper m bs → i < length bs → b ≡ get_or bs i b → b.from ≤ m
upper_at m [] i b h l e = absurd (omega arith)
upper_at m (c ∷ cs) zero b h l e = omega (arith, h.0, ap (λ v. v.from) e)
upper_at m (c ∷ cs) (suc i) b h l e = upper_at m cs i b h.1 (omega arith) e
