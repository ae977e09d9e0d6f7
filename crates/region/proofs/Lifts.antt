-- A change of each band's line. Assumes nothing.
use Rattle.std.proofs.Common.{◌≡◌, ℕ, suc, ◌+◌, ◌<◌, ◌≤◌, Bool, true, false, ◌&&◌, leb, List, [], ◌∷◌, ◌++◌, length, get_or, take, drop, sym, refl, ◌∙◌, subst, inl, inr, ⊎_elim, arith}
use Rattle.std.proofs.lemmas.List.{take_more, take_all, drop_more}
use Rattle.std.proofs.lemmas.Bool.{cases_lt, le-leb, lt-leb, false≢true}
use Rattle.scanline.specs.Lines.{Widened, MovedRight, MovedLeft}
use Rattle.scanline.specs.declared.lines.Line.{Line}
use Rattle.scanline.specs.Edges.{edges_of}
use Rattle.region.specs.Shifts.{Lined}
use Rattle.scanline.specs.declared.band.Band.{Band}
use Rattle.scanline.specs.Bands.{edges, line_at, Canonical, Added}
use Rattle.scanline.proofs.Rows.{From, Canon, canonical-from, canon_canonical, canon_more, canon_push, line-late, line-push}

-- the lines of the first i bands are changed: P says how a new line follows from the old one
pub record Lifting (P : List ℕ → List ℕ → Type 0) (a out : List Band) (i : ℕ) : Type 0 where
  pub low : ℕ
  pub from : From low (drop i a)
  pub ordered : Canon [] 0 low out
  pub rows : (y : ℕ) → P (line_at [] (take i a) y) (line_at [] out y)

pub lift_none : (P : List ℕ → List ℕ → Type 0) (a : List Band) → Canonical a → P [] [] → Lifting P a [] 0
lift_none P a h p = record { low = 0; from = canonical-from [] 0 a h; ordered = omega arith; rows = λ y. p }

pub lift_all : (P : List ℕ → List ℕ → Type 0) (a out : List Band) (i : ℕ) → length a ≤ i → Lifting P a out i → Canonical out × ((y : ℕ) → P (line_at [] a y) (line_at [] out y))
lift_all P a out i l h = (canon_canonical [] 0 h.low out h.ordered, λ y. subst (λ v. P (line_at [] v y) (line_at [] out y)) (take_all i a l) (h.rows y))

pub lift_more : (P : List ℕ → List ℕ → Type 0) (a out out' : List Band) (i : ℕ) (b : Band) (line : List ℕ) → i < length a → b ≡ get_or a i b → P (edges b) line → Added b.from line out out' → Lifting P a out i → Lifting P a out' (i + 1)
lift_more P a out out' i b line l is p d h =
    let f : From h.low (b ∷ drop (i + 1) a) = rw (drop_more a i b l, ← is) at h.from in
    let k : h.low ≤ b.from = f.0 in
    let next : (r : List Band) → ((y : ℕ) → y < b.from → line_at [] r y ≡ line_at [] out y) → ((y : ℕ) → b.from ≤ y → line_at [] r y ≡ line) → (y : ℕ) → P (line_at [] (take (i + 1) a) y) (line_at [] r y) =
    λ r early late y.
    rw (take_more a i b l, ← is, line-push [] (take i a) b y)
    (⊎_elim (λ m. rw (lt-leb b.from y m, early y m) (h.rows y)) (λ m. rw (le-leb b.from y m, late y m) p) (cases_lt y b.from))
    in
    ⊎_elim
    (λ s. rw s.1 (record {
      low = suc b.from;
      from = f.1;
      ordered = canon_more [] 0 h.low (suc b.from) out h.ordered (omega arith);
      rows = next out (λ y m. refl) (λ y m. line-late [] 0 h.low out y h.ordered (omega arith) ∙ s.0);
    }))
    (λ n.
    let new = n.1.0 in
    let at : new.from ≡ b.from = n.1.1 in
    let same : edges new ≡ line = n.1.2 in
    rw n.1.3 (record {
      low = suc b.from;
      from = f.1;
      ordered = rw (← at) (canon_push [] 0 h.low out new h.ordered (omega arith) (λ e. n.0 (e ∙ same)));
      rows = next (out ++ new ∷ []) (λ y m. line-push [] out new y ∙ rw (lt-leb new.from y (omega arith))) (λ y m. line-push [] out new y ∙ rw (le-leb new.from y (omega arith)) same);
    }))
    d

pub widened_none : (n : ℕ) → Widened n [] []
widened_none n = record { holds = λ x l. (λ t. absurd (false≢true t), λ w. w.3) }

pub right-none : (n : ℕ) → MovedRight n [] []
right-none n = record { holds = λ x l. sym (nothing (leb n x)) }
  where
    nothing : (a : Bool) → (a && false) ≡ false
    nothing true = refl
    nothing false = refl

pub left-none : (n : ℕ) → MovedLeft n [] []
left-none n = record { holds = λ x. refl }

-- what holds of nothing and of each line that is made holds in each row
pub lined : (P : List ℕ → List ℕ → Type 0) (R : Line → Line → Type 0) → P [] [] → ((a b : Line) → R a b → P (edges_of a) (edges_of b)) → (es fs : List ℕ) → Lined R es fs → P es fs
lined P R none some es fs h = elim h [
  | inl k ↦ rw (k.0, k.1) none
  | inr k ↦ rw (← k.2, ← k.3) (some k.0 k.1 k.4)
]
