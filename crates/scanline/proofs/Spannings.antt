-- The spans of a layer's boxes, in the order of their rows. Assumes nothing.
use Rattle.std.proofs.Common.{◌≡◌, ℕ, zero, suc, ◌+◌, ◌<◌, ◌≤◌, Bool, true, false, ◌&&◌, ◌||◌, eqb, ltb, leb, ◌⊎◌, List, [], ◌∷◌, ◌++◌, length, get_or, take, drop, sym, refl, ap, ◌∙◌, subst, inl, inr, add-one, arith, take-append-drop}
use Rattle.std.specs.List.{AllByRecursion}
use Rattle.std.proofs.lemmas.List.{take_more}
use Rattle.std.specs.List.Sorted.{IsPermutation}
use Rattle.std.proofs.lemmas.List.Sorted.{IsPermutation-sym}
use Rattle.std.proofs.ByRecursion.{all_shuffled}
use Rattle.std.proofs.lemmas.Bool.{cases_eq, cases_Bool, le-leb, eq-eqb, eqb-true, ltb-true, and_parts, or_parts, or_from, false≢true}
use Rattle.std.proofs.lemmas.Bool.Decides.{nat_tests}
use Rattle.layout.specs.declared.rect.Rect.{Rect}
use Rattle.layout.specs.Rects.{in_rect, covered}
use Rattle.scanline.specs.declared.span.Span.{Span}
use Rattle.scanline.specs.Spans.{across, any_still, any_covers, no_span, Solid, Leads, ByColumns, ByRows}
use Rattle.scanline.proofs.Advances.{or-none, or_assoc, covers-append}

regroup : (a b c d : Bool) → (a && (b && (c && d))) ≡ ((a && b) && (c && d))
regroup true b c d = refl
regroup false b c d = refl

pub span_some : (q : Rect) (l : ℕ) → ((eqb q.layer l && ltb 0 q.across) && ltb 0 q.down) ≡ true → (q.x < q.x + q.across) × (q.y < q.y + q.down) × ((x y : ℕ) → in_rect q l x y ≡ ((leb q.x x && ltb x (q.x + q.across)) && (leb q.y y && ltb y (q.y + q.down))))
unfolding in_rect
span_some q l h =
    let u = and_parts (eqb q.layer l && ltb 0 q.across) (ltb 0 q.down) h in
    let v = and_parts (eqb q.layer l) (ltb 0 q.across) u.0 in
    let a = ltb-true 0 q.across v.1 in
    let d = ltb-true 0 q.down u.1 in
    let e = eqb-true q.layer l v.0 in
    (omega arith, omega arith, λ x y. rw (eq-eqb l q.layer (sym e)) (regroup (leb q.x x) (ltb x (q.x + q.across)) (leb q.y y) (ltb y (q.y + q.down))))

pub span_none : (q : Rect) (l : ℕ) → ((eqb q.layer l && ltb 0 q.across) && ltb 0 q.down) ≡ false → (x y : ℕ) → in_rect q l x y ≡ false
unfolding in_rect
span_none q l h x y = grind (arith, nat_tests)

-- one box more
pub covered-push : (qs : List Rect) (q : Rect) (l x y : ℕ) → covered (qs ++ q ∷ []) l x y ≡ (covered qs l x y || in_rect q l x y)
unfolding covered
covered-push [] q l x y = or-none (in_rect q l x y)
covered-push (r ∷ rs) q l x y = rw (covered-push rs q l x y) (sym (or_assoc (in_rect r l x y) (covered rs l x y) (in_rect q l x y)))

pub covers-push : (ss : List Span) (s : Span) (x y : ℕ) → any_covers (ss ++ s ∷ []) x y ≡ (any_covers ss x y || (across s x && (leb s.top y && ltb y s.bottom)))
unfolding any_covers
covers-push ss s x y = covers-append ss (s ∷ []) x y ∙ ap (λ b. any_covers ss x y || b) (or-none (across s x && (leb s.top y && ltb y s.bottom)))

-- spans shuffled cover the same
abbrev covers_at : Span → ℕ → ℕ → Bool
covers_at s x y = across s x && (leb s.top y && ltb y s.bottom)

none-all : (ss : List Span) (x y : ℕ) → any_covers ss x y ≡ false → AllByRecursion (λ s. covers_at s x y ≡ false) ss
unfolding any_covers
none-all [] x y h = tt
none-all (s ∷ ss) x y h = let k = or_parts (covers_at s x y) (any_covers ss x y) h in (k.0, none-all ss x y k.1)

all_none : (ss : List Span) (x y : ℕ) → AllByRecursion (λ s. covers_at s x y ≡ false) ss → any_covers ss x y ≡ false
unfolding any_covers
all_none [] x y h = refl
all_none (s ∷ ss) x y h = or_from (covers_at s x y) (any_covers ss x y) h.0 (all_none ss x y h.1)

pub shuffled_covers : (xs ys : List Span) (x y : ℕ) → IsPermutation xs ys → any_covers ys x y ≡ any_covers xs x y
shuffled_covers xs ys x y h =
    elim (cases_Bool (any_covers xs x y)) [
      | inr f ↦ all_none ys x y (all_shuffled (λ s. covers_at s x y ≡ false) xs ys h (none-all xs x y f)) ∙ sym f
      | inl t ↦ elim (cases_Bool (any_covers ys x y)) [
        | inl u ↦ u ∙ sym t
        | inr f ↦ absurd (false≢true (sym (all_none xs x y (all_shuffled (λ s. covers_at s x y ≡ false) ys xs (IsPermutation-sym xs ys h) (none-all ys x y f))) ∙ t))
      ]
    ]

-- neighbours in order
abbrev pub Upto : Span → Span → Type 0
Upto a b = (a.top < b.top) ⊎ ((a.top ≡ b.top) × (a.left ≤ b.left))

pub rows-from : (p : ℕ) (ss : List Span) → AllByRecursion Solid ss → (0 < length ss → p ≤ (get_or ss 0 no_span).top) → ((i : ℕ) → i + 1 < length ss → Upto (get_or ss i no_span) (get_or ss (i + 1) no_span)) → ByRows p ss
rows-from p [] a l h = tt
rows-from p (s ∷ []) a l h = (l (omega arith), a.0, tt, tt)
rows-from p (s ∷ t ∷ ts) a l h =
    let u : Upto s t = h 0 (omega arith) in (
      l (omega arith),
      a.0,
      u,
      rows-from s.top (t ∷ ts) a.1 (λ m. elim u [ inl e ↦ omega arith | inr e ↦ omega (arith, e.0) ])
          (λ i m. subst (λ j. Upto (get_or (s ∷ t ∷ ts) j no_span) (get_or (t ∷ ts) (i + 1) no_span)) (add-one i) (subst (λ j. Upto (get_or (s ∷ t ∷ ts) (i + 1) no_span) (get_or (s ∷ t ∷ ts) j no_span)) (add-one (i + 1)) (h (i + 1) (omega arith)))),
    )

-- the first n spans begin at the row, and the next one after it
pub record Split (row : ℕ) (ss : List Span) (n : ℕ) : Type 0 where
  pub columns : ByColumns 0 (take n ss)
  pub rows : ByRows (suc row) (drop n ss)
  pub new : (x y : ℕ) → row ≤ y → any_covers (take n ss) x y ≡ any_still (take n ss) x y
  pub holds : (x y : ℕ) → any_covers ss x y ≡ (any_covers (take n ss) x y || any_covers (drop n ss) x y)

leads_first : (s : Span) (ss : List Span) → Leads s ss → 0 < length ss → (get_or ss 0 no_span).top ≡ s.top → s.left ≤ (get_or ss 0 no_span).left
leads_first s [] g l e = absurd (omega arith)
leads_first s (t ∷ ts) (inl g) l e = absurd (omega arith)
leads_first s (t ∷ ts) (inr g) l e = g.1

split-columns : (row p : ℕ) (ss : List Span) (n : ℕ) → ByRows row ss → (0 < n → 0 < length ss → p ≤ (get_or ss 0 no_span).left) → ((k : ℕ) → k < n → (get_or ss k no_span).top ≡ row) → ByColumns p (take n ss)
split-columns row p ss zero h l b = tt
split-columns row p [] (suc n) h l b = tt
split-columns row p (s ∷ ss) (suc n) h l b =
    let at : s.top ≡ row = b 0 (omega arith) in (
      l (omega arith) (omega arith),
      h.1.0,
      split-columns row s.left ss n (subst (λ v. ByRows v ss) at h.3) (λ q r. leads_first s ss h.2 r (b 1 (omega arith) ∙ sym at)) (λ k q. b (suc k) (omega arith)),
    )

split_rows : (row : ℕ) (ss : List Span) (n : ℕ) → ByRows row ss → ((k : ℕ) → k < n → (get_or ss k no_span).top ≡ row) → (n < length ss → (get_or ss n no_span).top ≡ row → ⊥) → ByRows (suc row) (drop n ss)
split_rows row [] zero h b e = tt
split_rows row (s ∷ ss) zero h b e = (elim (cases_eq s.top row) [ inl q ↦ absurd (e (omega arith) q) | inr q ↦ omega (arith, h.0) ], h.1, h.2, h.3)
split_rows row [] (suc n) h b e = tt
split_rows row (s ∷ ss) (suc n) h b e =
    let at : s.top ≡ row = b 0 (omega arith) in
    split_rows row ss n (subst (λ v. ByRows v ss) at h.3) (λ k q. b (suc k) (omega arith)) (λ q. e (omega arith))

split-new : (row : ℕ) (ss : List Span) (n : ℕ) → ((k : ℕ) → k < n → (get_or ss k no_span).top ≡ row) → n ≤ length ss → (x y : ℕ) → row ≤ y → any_covers (take n ss) x y ≡ any_still (take n ss) x y
unfolding any_covers any_still
split-new row ss zero b m x y l = refl
split-new row [] (suc n) b m x y l = refl
split-new row (s ∷ ss) (suc n) b m x y l =
    let at : s.top ≡ row = b 0 (omega arith) in
    rw (le-leb s.top y (omega arith), split-new row ss n (λ k q. b (suc k) (omega arith)) (omega arith) x y l)

pub split_at : (row : ℕ) (ss : List Span) (n : ℕ) → ByRows row ss → n ≤ length ss → ((k : ℕ) → k < n → (get_or ss k no_span).top ≡ row) → (n < length ss → (get_or ss n no_span).top ≡ row → ⊥) → Split row ss n
split_at row ss n h m b e = record {
  columns = split-columns row 0 ss n h (λ q r. omega arith) b;
  rows = split_rows row ss n h b e;
  new = split-new row ss n b m;
  holds = λ x y. ap (λ v. any_covers v x y) (sym (take-append-drop n ss)) ∙ covers-append (take n ss) (drop n ss) x y;
}

-- the spans of the first i boxes
module _ (boxes : List Rect) (l i : ℕ) (d : Rect) (m : i < length boxes) (ss : List Span) (h : (x y : ℕ) → any_covers ss x y ≡ covered (take i boxes) l x y) where
  one_more : (x y : ℕ) → covered (take (i + 1) boxes) l x y ≡ (covered (take i boxes) l x y || in_rect (get_or boxes i d) l x y)
  one_more x y = ap (λ v. covered v l x y) (take_more boxes i d m) ∙ covered-push (take i boxes) (get_or boxes i d) l x y

  pub collect-none : ((x y : ℕ) → in_rect (get_or boxes i d) l x y ≡ false) → (x y : ℕ) → any_covers ss x y ≡ covered (take (i + 1) boxes) l x y
  collect-none n x y = h x y ∙ sym (one_more x y ∙ rw (n x y) (or-none (covered (take i boxes) l x y)))

  pub collect-some : (s : Span) → ((x y : ℕ) → in_rect (get_or boxes i d) l x y ≡ (across s x && (leb s.top y && ltb y s.bottom))) → (x y : ℕ) → any_covers (ss ++ s ∷ []) x y ≡ covered (take (i + 1) boxes) l x y
  collect-some s n x y = covers-push ss s x y ∙ ap (λ b. b || (across s x && (leb s.top y && ltb y s.bottom))) (h x y) ∙ sym (one_more x y ∙ ap (λ b. covered (take i boxes) l x y || b) (n x y))

pub collect_start : (l x y : ℕ) → any_covers [] x y ≡ covered [] l x y
unfolding any_covers covered
collect_start l x y = refl
