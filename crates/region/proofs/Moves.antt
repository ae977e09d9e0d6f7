-- Bands moved down. Assumes nothing.
use Rattle.std.proofs.Common.{◌≡◌, ℕ, zero, suc, ◌+◌, ◌-◌, ◌^◌, ◌<◌, ◌≤◌, max, true, cond, not, ◌&&◌, leb, List, [], ◌∷◌, ◌++◌, length, get_or, take, drop, sym, refl, ap, ◌∙◌, subst, inl, inr, ⊎_elim, arith, take-append-drop}
use Rattle.std.proofs.lemmas.List.{take_more, take_all, drop_more}
use Rattle.std.proofs.lemmas.Bool.{cases_lt, le-leb, lt-leb, leb-true, and_parts, and_from}
use Rattle.std.specs.Str.{bytes_eq}
use Rattle.scanline.specs.Lines.{inside}
use Rattle.scanline.specs.declared.band.Band.{Band}
use Rattle.scanline.specs.Bands.{edges, line_at, covers, canonical, Canonical, Added}
use Rattle.region.specs.Shifts.{ShiftedDown, ShiftedUp}
use Rattle.region.proofs.Unique.{still-upper, upper_at}
use Rattle.scanline.proofs.Rows.{From, Canon, canonical-from, canon_canonical, canon_more, line_before, line-push, topped}

-- each band of r is that of a, n rows later
abbrev pub Moved : ℕ → List Band → List Band → Type 0
Moved n [] [] = Unit {0}
Moved n [] (r ∷ rs) = ⊥
Moved n (a ∷ xs) [] = ⊥
Moved n (a ∷ xs) (r ∷ rs) = (r.from ≡ a.from + n) × (edges r ≡ edges a) × Moved n xs rs

moved-push : (n : ℕ) (a r : List Band) (b c : Band) → Moved n a r → c.from ≡ b.from + n → edges c ≡ edges b → Moved n (a ++ b ∷ []) (r ++ c ∷ [])
moved-push n [] [] b c h f e = (f, e, tt)
moved-push n [] (r ∷ rs) b c h f e = absurd h
moved-push n (a ∷ xs) [] b c h f e = absurd h
moved-push n (a ∷ xs) (r ∷ rs) b c h f e = (h.0, h.1, moved-push n xs rs b c h.2 f e)

leb_shift : (m n y : ℕ) → n ≤ y → leb (m + n) y ≡ leb m (y - n)
leb_shift m n y l = ⊎_elim (λ k. lt-leb (m + n) y (omega arith) ∙ sym (lt-leb m (y - n) k)) (λ k. le-leb (m + n) y (omega arith) ∙ sym (le-leb m (y - n) k)) (cases_lt (y - n) m)

moved-late : (n : ℕ) (line : List ℕ) (a r : List Band) (y : ℕ) → Moved n a r → n ≤ y → line_at line r y ≡ line_at line a (y - n)
moved-late n line [] [] y h l = refl
moved-late n line [] (r ∷ rs) y h l = absurd h
moved-late n line (a ∷ xs) [] y h l = absurd h
moved-late n line (a ∷ xs) (r ∷ rs) y h l = rw (h.0, h.1, leb_shift a.from n y l) (moved-late n (cond (leb a.from (y - n)) (edges a) line) xs rs y h.2 l)

moved-early : (n : ℕ) (line : List ℕ) (a r : List Band) (y : ℕ) → Moved n a r → y < n → line_at line r y ≡ line
moved-early n line [] [] y h l = refl
moved-early n line [] (r ∷ rs) y h l = absurd h
moved-early n line (a ∷ xs) [] y h l = absurd h
moved-early n line (a ∷ xs) (r ∷ rs) y h l = rw (lt-leb r.from y (omega (arith, h.0))) (moved-early n line xs rs y h.2 l)

moved-canonical : (n p q : ℕ) (line : List ℕ) (a r : List Band) → Moved n a r → q ≤ p + n → canonical line p a ≡ true → canonical line q r ≡ true
moved-canonical n p q line [] [] h l k = refl
moved-canonical n p q line [] (r ∷ rs) h l k = absurd h
moved-canonical n p q line (a ∷ xs) [] h l k = absurd h
moved-canonical n p q line (a ∷ xs) (r ∷ rs) h l k =
    let u = and_parts (leb p a.from) _ k in
    let v = and_parts (not (bytes_eq line (edges a))) _ u.1 in
    let lower = leb-true p a.from u.0 in
    let is = h.0 in
    and_from (leb q r.from) _ (le-leb q r.from (omega arith)) (and_from (not (bytes_eq line (edges r))) _ (rw h.1 v.0) (rw h.1 (moved-canonical n (suc a.from) (suc r.from) (edges a) xs rs h.2 (omega arith) v.1)))

-- the first i bands of a canonical list, and the others
canonical-take : (i p : ℕ) (line : List ℕ) (a : List Band) → canonical line p a ≡ true → canonical line p (take i a) ≡ true
canonical-take zero p line a k = refl
canonical-take (suc i) p line [] k = refl
canonical-take (suc i) p line (b ∷ bs) k =
    let u = and_parts (leb p b.from) _ k in
    let v = and_parts (not (bytes_eq line (edges b))) _ u.1 in
    and_from (leb p b.from) _ u.0 (and_from (not (bytes_eq line (edges b))) _ v.0 (canonical-take i (suc b.from) (edges b) bs v.1))

from-drop : (i p : ℕ) (a : List Band) → From p a → (q : ℕ) × From q (drop i a)
from-drop zero p a h = (p, h)
from-drop (suc i) p [] h = (p, tt)
from-drop (suc i) p (b ∷ bs) h = from-drop i (suc b.from) bs h.1

line-append : (line : List ℕ) (a b : List Band) (y : ℕ) → line_at line (a ++ b) y ≡ line_at (line_at line a y) b y
line-append line [] b y = refl
line-append line (c ∷ cs) b y = line-append (cond (leb c.from y) (edges c) line) cs b y

-- the first i bands are moved
pub record Moving (n : ℕ) (a r : List Band) (i : ℕ) : Type 0 where
  pub moved : Moved n (take i a) r

pub move_more : (n : ℕ) (a r : List Band) (i : ℕ) (b c : Band) → Moving n a r i → i < length a → b ≡ get_or a i b → c.from ≡ b.from + n → edges c ≡ edges b → Moving n a (r ++ c ∷ []) (i + 1)
move_more n a r i b c h l is f e =
    record { moved = rw (take_more a i b l, ← is) (moved-push n (take i a) r b c h.moved f e) }

shifted_rows : (n : ℕ) (a r : List Band) (x y : ℕ) → ((n ≤ y) → line_at [] r y ≡ line_at [] a (y - n)) → ((y < n) → line_at [] r y ≡ []) → covers r x y ≡ (leb n y && covers a x (y - n))
shifted_rows n a r x y late early =
    ⊎_elim
    (λ l. ap (λ es. inside es x) (early l) ∙ rw (lt-leb n y l))
    (λ l. ap (λ es. inside es x) (late l) ∙ rw (le-leb n y l))
    (cases_lt y n)

pub move_all : (n : ℕ) (a r : List Band) (i : ℕ) → Canonical a → Moving n a r i → length a ≤ i → Canonical r × ShiftedDown n a r
move_all n a r i k h l =
    let m = rw (take_all i a l) at h.moved in
    (moved-canonical n 0 0 [] a r m (omega arith) k, record { holds = λ x y b. shifted_rows n a r x y (λ s. moved-late n [] a r y m s) (λ s. moved-early n [] a r y m s) })

pub move_stop : (n : ℕ) (a r : List Band) (i : ℕ) (b : Band) → Canonical a → Moving n a r i → i < length a → b ≡ get_or a i b → (b.from + n < 2 ^ 64 → ⊥) → Canonical r × ShiftedDown n a r
move_stop n a r i b k h l is over = (
  moved-canonical n 0 0 [] (take i a) r h.moved (omega arith) (canonical-take i 0 [] a k),
  record {
    holds = λ x y room. elim room [
      | inl s ↦ shifted_rows n a r x y (λ t. moved-late n [] (take i a) r y h.moved t ∙ sym (cut y s t)) (λ t. moved-early n [] (take i a) r y h.moved t)
      | inr s ↦ absurd (over (omega (arith, s.fits, upper_at s.end a i b (still-upper s.end a k s.still) l is)))
    ];
  },
)
  where
    rest : From b.from (drop i a)
    rest = let f = from-drop i 0 a (canonical-from [] 0 a k) in rw (drop_more a i b l, ← is) (omega arith, (rw (drop_more a i b l, ← is) at f.1).1)

    cut : (y : ℕ) → y < 2 ^ 64 → n ≤ y → line_at [] a (y - n) ≡ line_at [] (take i a) (y - n)
    cut y s t =
        ap (λ v. line_at [] v (y - n)) (sym (take-append-drop i a))
        ∙ line-append [] (take i a) (drop i a) (y - n)
        ∙ line_before _ b.from (drop i a) (y - n) rest (⊎_elim (λ v. v) (λ v. absurd (over (omega arith))) (cases_lt (y - n) b.from))

-- up: the first i bands are moved, and those that come to the first row are replaced
pub record Rising (n : ℕ) (a out : List Band) (i : ℕ) : Type 0 where
  pub low : ℕ
  pub from : From low (drop i a)
  pub ordered : Canon [] 0 (max 1 (low - n)) out
  pub is : (y : ℕ) → line_at [] out y ≡ line_at [] (take i a) (y + n)

pub rise_none : (n : ℕ) (a : List Band) → Canonical a → Rising n a [] 0
rise_none n a h = record { low = 0; from = canonical-from [] 0 a h; ordered = omega arith; is = λ y. refl }

module _ (n : ℕ) (a out : List Band) (i : ℕ) (b : Band) (l : i < length a) (is : b ≡ get_or a i b) (h : Rising n a out i) (line : List ℕ) (same : line ≡ edges b) (out' : List Band) where
  here : From h.low (b ∷ drop (i + 1) a)
  here = rw (drop_more a i b l, ← is) at h.from

  shown : (y : ℕ) → line_at [] (take (i + 1) a) y ≡ cond (leb b.from y) (edges b) (line_at [] (take i a) y)
  shown y = rw (take_more a i b l, ← is) (line-push [] (take i a) b y)

  pub rise-top : b.from ≤ n → Added (b.from - n) line [] out' → Rising n a out' (i + 1)
  rise-top m d =
      let z : b.from - n ≡ 0 = omega arith in
      let t = topped 0 0 line [] out' (omega arith) (omega arith) (subst (λ v. Added v line [] out') z d) in
      record {
        low = suc b.from;
        from = here.1;
        ordered = canon_more [] 0 1 (max 1 (suc b.from - n)) out' t.ordered (omega arith);
        is = λ y. t.late y (omega arith) ∙ same ∙ sym (shown (y + n) ∙ rw (le-leb b.from (y + n) (omega arith)));
      }

  pub rise-more : n < b.from → Added (b.from - n) line out out' → Rising n a out' (i + 1)
  rise-more m d =
      let t = topped (max 1 (h.low - n)) (b.from - n) line out out' h.ordered (omega (arith, here.0)) d in
      record {
        low = suc b.from;
        from = here.1;
        ordered = canon_more [] 0 (suc (b.from - n)) (max 1 (suc b.from - n)) out' t.ordered (omega arith);
        is = λ y. ⊎_elim
            (λ k. t.early y k ∙ h.is y ∙ sym (shown (y + n) ∙ rw (lt-leb b.from (y + n) (omega arith))))
            (λ k. t.late y k ∙ same ∙ sym (shown (y + n) ∙ rw (le-leb b.from (y + n) (omega arith))))
            (cases_lt y (b.from - n));
      }

pub rise_all : (n : ℕ) (a out : List Band) (i : ℕ) → length a ≤ i → Rising n a out i → Canonical out × ShiftedUp n a out
rise_all n a out i l h = (
  canon_canonical [] 0 _ out h.ordered,
  record { holds = λ x y. ap (λ es. inside es x) (h.is y ∙ ap (λ v. line_at [] v (y + n)) (take_all i a l)) },
)
