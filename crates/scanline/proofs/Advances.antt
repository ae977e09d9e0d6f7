-- The spans that a row crosses, carried from row to row. Assumes nothing.
use Rattle.std.proofs.Common.{◌≡◌, ℕ, suc, ◌+◌, ◌-◌, ◌<◌, ◌≤◌, min, Bool, true, false, cond, ◌&&◌, ◌||◌, ltb, leb, ◌⊎◌, List, [], ◌∷◌, ◌++◌, length, get_or, drop, Some, None, sym, refl, ap, ◌∙◌, subst, inl, inr, arith, length-append}
use Rattle.std.proofs.lemmas.Bool.{cases_lt, lt-ltb, le-ltb}
use Rattle.std.proofs.lemmas.Bool.Decides.{nat_tests}
use Rattle.scanline.specs.declared.span.Span.{Span}
use Rattle.scanline.specs.Spans.{across, any_still, any_covers, no_span, ByFirst, ByColumns, ByRows, alive, Last, Hidden, Kept, Advanced, least_end, next_edge}

-- || as a union

pub or_assoc : (a b c : Bool) → ((a || b) || c) ≡ (a || (b || c))
or_assoc true b c = refl
or_assoc false b c = refl

pub or_swap : (a b c : Bool) → (a || (b || c)) ≡ (b || (a || c))
or_swap true true c = refl
or_swap true false c = refl
or_swap false b c = refl

pub or-none : (a : Bool) → (a || false) ≡ a
or-none true = refl
or-none false = refl

or-had : (a b c : Bool) → (b ≡ true → a ≡ true) → (a || c) ≡ (a || (b || c))
or-had true b c h = refl
or-had false true c h = absurd (grind (arith, h refl))
or-had false false c h = refl

-- lists joined

pub still-append : (a b : List Span) (x y : ℕ) → any_still (a ++ b) x y ≡ (any_still a x y || any_still b x y)
unfolding any_still
still-append [] b x y = refl
still-append (s ∷ ss) b x y = rw (still-append ss b x y) (sym (or_assoc (across s x && ltb y s.bottom) (any_still ss x y) (any_still b x y)))

pub covers-append : (a b : List Span) (x y : ℕ) → any_covers (a ++ b) x y ≡ (any_covers a x y || any_covers b x y)
unfolding any_covers
covers-append [] b x y = refl
covers-append (s ∷ ss) b x y = rw (covers-append ss b x y) (sym (or_assoc (across s x && (leb s.top y && ltb y s.bottom)) (any_covers ss x y) (any_covers b x y)))

pub still-push : (a : List Span) (s : Span) (x y : ℕ) → any_still (a ++ s ∷ []) x y ≡ (any_still a x y || (across s x && ltb y s.bottom))
unfolding any_still
still-push a s x y = still-append a (s ∷ []) x y ∙ ap (λ b. any_still a x y || b) (or-none (across s x && ltb y s.bottom))

-- in the order of columns, up to q
abbrev pub Columns : ℕ → ℕ → List Span → Type 0
Columns p q [] = p ≤ q
Columns p q (s ∷ ss) = (p ≤ s.left) × (s.left < s.right) × Columns s.left q ss

columns-more : (p q r : ℕ) (ss : List Span) → Columns p q ss → q ≤ r → Columns p r ss
columns-more p q r [] h l = omega arith
columns-more p q r (s ∷ ss) h l = (h.0, h.1, columns-more s.left q r ss h.2 l)

columns-push : (p q : ℕ) (ss : List Span) (s : Span) → Columns p q ss → q ≤ s.left → s.left < s.right → Columns p s.left (ss ++ s ∷ [])
columns-push p q [] s h l k = (omega arith, k, omega arith)
columns-push p q (t ∷ ts) s h l k = (h.0, h.1, columns-push t.left q ts s h.2 l k)

columns-by : (p q : ℕ) (ss : List Span) → Columns p q ss → ByColumns p ss
columns-by p q [] h = tt
columns-by p q (s ∷ ss) h = (h.0, h.1, columns-by s.left q ss h.2)

first-lower : (s : Span) (ss : List Span) (p : ℕ) → ByColumns p ss → ByFirst s ss → ByColumns s.left ss
first-lower s [] p h f = tt
first-lower s (t ∷ ts) p h f = (f, h.1, h.2)

last-push : (p : ℕ) (ss : List Span) (s : Span) → Last p ss → p ≤ s.bottom → Last p (ss ++ s ∷ [])
last-push p [] s h l = (l, tt)
last-push p (t ∷ ts) s h l = (h.0, last-push p ts s h.1 l)

-- both lists taken apart from the left, into `out`
pub record Advancing (row : ℕ) (live₀ new₀ out live new : List Span) : Type 0 where
  pub low : ℕ
  pub columns : Columns 0 low out
  pub of_live : ByColumns low live
  pub of_new : ByColumns low new
  pub last : Last (suc row) out
  pub holds : (x y : ℕ) → row ≤ y → (any_still out x y || (any_still live x y || any_still new x y)) ≡ (any_still live₀ x y || any_still new₀ x y)
  pub few : length out + (alive row live + alive row new) ≤ alive row live₀ + alive row new₀

pub advance_none : (row : ℕ) (live new : List Span) → ByColumns 0 live → ByColumns 0 new → Advancing row live new [] live new
unfolding any_still
advance_none row live new h g = record { low = 0; columns = omega arith; of_live = h; of_new = g; last = tt; holds = λ x y l. refl; few = omega arith }

pub advance_all : (row : ℕ) (live new out : List Span) → Advancing row live new out [] [] → Advanced row live new out
unfolding any_still
advance_all row live new out h = record { columns = columns-by 0 h.low out h.columns; last = h.last; holds = λ x y l. sym (or-none (any_still out x y)) ∙ h.holds x y l; few = omega (arith, h.few) }

-- one span s goes over: `rest` is what is to come without it, `all` with it
module _ (row : ℕ) (s : Span) (out out' : List Span) (k : Kept row s out out') where
  kept-holds : (x y : ℕ) (rest : Bool) → row ≤ y → (any_still out' x y || rest) ≡ (any_still out x y || ((across s x && ltb y s.bottom) || rest))
  kept-holds x y rest l =
      elim k [
        | inl e ↦ rw e.0 (or-had (any_still out x y) (across s x && ltb y s.bottom) rest (e.1 x y l))
        | inr e ↦ rw (e.0, still-push out s x y) (or_assoc (any_still out x y) (across s x && ltb y s.bottom) rest)
      ]

  kept-columns : (q : ℕ) → Columns 0 q out → q ≤ s.left → s.left < s.right → Columns 0 s.left out'
  kept-columns q h l m =
      elim k [
        | inl e ↦ rw e.0 (columns-more 0 q s.left out h l)
        | inr e ↦ rw e.0 (columns-push 0 q out s h l m)
      ]

  kept-last : Last (suc row) out → Last (suc row) out'
  kept-last h = elim k [ inl e ↦ rw e.0 h | inr e ↦ rw e.0 (last-push (suc row) out s h e.1) ]

  -- a span that ends after the row counts for one
  kept-few : (n : ℕ) → length out' + n ≤ length out + cond (ltb row s.bottom) (suc n) n
  kept-few n =
      elim k [
        | inl e ↦ rw e.0 (elim (cases_lt row s.bottom) [ inl l ↦ rw (lt-ltb row s.bottom l) (omega arith) | inr l ↦ rw (le-ltb row s.bottom l) (omega arith) ])
        | inr e ↦ rw (e.0, length-append out (s ∷ []), lt-ltb row s.bottom e.1) (omega arith)
      ]

alive-of : (row : ℕ) (s : Span) (n m : ℕ) → cond (ltb row s.bottom) (suc n) n + m ≡ cond (ltb row s.bottom) (suc (n + m)) (n + m)
alive-of row s n m = elim (cases_lt row s.bottom) [ inl l ↦ rw (lt-ltb row s.bottom l) (omega arith) | inr l ↦ rw (le-ltb row s.bottom l) ]

module _ (row : ℕ) (live₀ new₀ out out' : List Span) (s : Span) (k : Kept row s out out') where
  from-live : (live new : List Span) → ByFirst s new → Advancing row live₀ new₀ out (s ∷ live) new → Advancing row live₀ new₀ out' live new
  unfolding any_still
  from-live live new f h = record {
    low = s.left;
    columns = kept-columns row s out out' k h.low h.columns h.of_live.0 h.of_live.1;
    of_live = h.of_live.2;
    of_new = first-lower s new h.low h.of_new f;
    last = kept-last row s out out' k h.last;
    holds = λ x y l. kept-holds row s out out' k x y (any_still live x y || any_still new x y) l ∙ ap (λ b. any_still out x y || b) (sym (or_assoc (across s x && ltb y s.bottom) (any_still live x y) (any_still new x y))) ∙ h.holds x y l;
    few = omega (arith, kept-few row s out out' k (alive row live + alive row new), h.few, alive-of row s (alive row live) (alive row new));
  }

  from-new : (live new : List Span) → ByFirst s live → Advancing row live₀ new₀ out live (s ∷ new) → Advancing row live₀ new₀ out' live new
  unfolding any_still
  from-new live new f h = record {
    low = s.left;
    columns = kept-columns row s out out' k h.low h.columns h.of_new.0 h.of_new.1;
    of_live = first-lower s live h.low h.of_live f;
    of_new = h.of_new.2;
    last = kept-last row s out out' k h.last;
    holds = λ x y l. kept-holds row s out out' k x y (any_still live x y || any_still new x y) l ∙ ap (λ b. any_still out x y || b) (or_swap (across s x && ltb y s.bottom) (any_still live x y) (any_still new x y)) ∙ h.holds x y l;
    few = omega (arith, kept-few row s out out' k (alive row new + alive row live), h.few, alive-of row s (alive row new) (alive row live));
  }

  pub advance-more : (live new live' new' : List Span) → ((live ≡ s ∷ live') × (new' ≡ new) × ByFirst s new) ⊎ ((new ≡ s ∷ new') × (live' ≡ live) × ByFirst s live) → Advancing row live₀ new₀ out live new → Advancing row live₀ new₀ out' live' new'
  advance-more live new live' new' (inl e) h = rw e.1 (from-live live' new e.2 (subst (λ v. Advancing row live₀ new₀ out v new) e.0 h))
  advance-more live new live' new' (inr e) h = rw e.1 (from-new live new' e.2 (subst (λ v. Advancing row live₀ new₀ out live v) e.0 h))

pub picked_less : (s : Span) (live new live' new' : List Span) → ((live ≡ s ∷ live') × (new' ≡ new) × ByFirst s new) ⊎ ((new ≡ s ∷ new') × (live' ≡ live) × ByFirst s live) → length live' + length new' < length live + length new
picked_less s live new live' new' (inl e) = rw (e.0, e.1) (omega arith)
picked_less s live new live' new' (inr e) = rw (e.0, e.1) (omega arith)

-- which of two lists gives the next span

pub pick-live : (live new : List Span) → 0 < length live → ByFirst (get_or live 0 no_span) new → (live ≡ get_or live 0 no_span ∷ drop 1 live) × (new ≡ new) × ByFirst (get_or live 0 no_span) new
pick-live [] new l f = absurd (omega arith)
pick-live (s ∷ ss) new l f = (refl, refl, f)

pub by_first : (s : Span) (ss : List Span) → s.left ≤ (get_or ss 0 no_span).left → ByFirst s ss
by_first s [] l = tt
by_first s (t ∷ ts) l = l

-- the last span hides another
pub hides : (ss : List Span) (s : Span) → 0 < length ss → (get_or ss (length ss - 1) no_span).left ≤ s.left → s.right ≤ (get_or ss (length ss - 1) no_span).right → s.bottom ≤ (get_or ss (length ss - 1) no_span).bottom → Hidden ss s
unfolding any_still
hides [] s l a b e = absurd (omega arith)
hides (t ∷ []) s l a b e = record { by = λ x y h. rw (or-none (across t x && ltb y t.bottom)) (grind (arith, nat_tests)) }
hides (t ∷ u ∷ us) s l a b e =
    let i : length (t ∷ u ∷ us) - 1 ≡ suc (length (u ∷ us) - 1) = omega arith in
    let v : get_or (t ∷ u ∷ us) (length (t ∷ u ∷ us) - 1) no_span ≡ get_or (u ∷ us) (length (u ∷ us) - 1) no_span = ap (λ j. get_or (t ∷ u ∷ us) j no_span) i in
    let h = hides (u ∷ us) s (omega arith) (rw v at a) (rw v at b) (rw v at e) in
    record { by = λ x y g. rw (h.by x y g) (grind (arith, nat_tests)) }

-- the next row

pub least_low : (m : ℕ) (ss : List Span) → (least_end m ss ≤ m) × Last (least_end m ss) ss
least_low m [] = (omega arith, tt)
least_low m (s ∷ ss) = let h = least_low (min m s.bottom) ss in (omega (arith, h.0), (omega (arith, h.0), h.1))

pub alive-most : (y : ℕ) (ss : List Span) → alive y ss ≤ length ss
alive-most y [] = omega arith
alive-most y (s ∷ ss) = elim (cases_lt y s.bottom) [ inl l ↦ rw (lt-ltb y s.bottom l) (omega (arith, alive-most y ss)) | inr l ↦ rw (le-ltb y s.bottom l) (omega (arith, alive-most y ss)) ]

least_is : (m : ℕ) (ss : List Span) → (least_end m ss ≡ m) ⊎ (alive (least_end m ss) ss < length ss)
least_is m [] = inl refl
least_is m (s ∷ ss) =
    let low = (least_low (min m s.bottom) ss).0 in
    let row = least_end (min m s.bottom) ss in
    elim (cases_lt row s.bottom) [
      | inl l ↦ elim (least_is (min m s.bottom) ss) [
        | inl e ↦ inl (omega arith)
        | inr f ↦ inr (rw (lt-ltb row s.bottom l) (omega arith))
      ]
      | inr l ↦ inr (rw (le-ltb row s.bottom l) (omega (arith, alive-most row ss)))
    ]

first_ended : (s : Span) (ss : List Span) (row : ℕ) → row ≡ s.bottom → alive row (s ∷ ss) < length (s ∷ ss)
first_ended s ss row e = rw (le-ltb row s.bottom (omega arith)) (omega (arith, alive-most row ss))

-- where a span has ended by the row, none lasts past it
pub alive-short : (p row : ℕ) (ss : List Span) → Last p ss → alive row ss < length ss → p ≤ row
alive-short p row [] h l = absurd (omega arith)
alive-short p row (s ∷ ss) h l =
    elim (cases_lt row s.bottom) [
      | inl m ↦ alive-short p row ss h.1 (let k = rw (lt-ltb row s.bottom m) at l in omega arith)
      | inr m ↦ omega (arith, h.0)
    ]

-- the next row comes no later than any end or beginning, and is one of them
pub record Next (live rest : List Span) (row : ℕ) : Type 0 where
  pub ends : Last row live
  pub begins : (p : ℕ) → ByRows p rest → ByRows row rest
  pub some : (alive row live < length live) ⊎ ((0 < length rest) × ((get_or rest 0 no_span).top ≡ row))

pub next-is : (live rest : List Span) (row : ℕ) → next_edge live rest ≡ Some row → Next live rest row
next-is [] [] row e = absurd (grind arith)
next-is [] (t ∷ ts) row e =
    let r : t.top ≡ row = cc in
    record { ends = tt; begins = λ p h. (omega arith, h.1, h.2, h.3); some = inr (omega arith, r) }
next-is (s ∷ ss) [] row e =
    let r : least_end s.bottom (s ∷ ss) ≡ row = cc in
    let h = least_low s.bottom (s ∷ ss) in
    record {
      ends = subst (λ v. Last v (s ∷ ss)) r h.1;
      begins = λ p g. tt;
      some = inl (subst (λ v. alive v (s ∷ ss) < length (s ∷ ss)) r (elim (least_is s.bottom (s ∷ ss)) [ inl f ↦ first_ended s ss _ f | inr f ↦ f ]));
    }
next-is (s ∷ ss) (t ∷ ts) row e =
    let r : least_end t.top (s ∷ ss) ≡ row = cc in
    let h = least_low t.top (s ∷ ss) in
    record {
      ends = subst (λ v. Last v (s ∷ ss)) r h.1;
      begins = λ p g. (omega (arith, h.0), g.1, g.2, g.3);
      some = elim (least_is t.top (s ∷ ss)) [
        | inl f ↦ inr (omega arith, sym f ∙ r)
        | inr f ↦ inl (subst (λ v. alive v (s ∷ ss) < length (s ∷ ss)) r f)
      ];
    }

pub no_next : (live rest : List Span) → next_edge live rest ≡ None → (live ≡ []) × (rest ≡ [])
no_next [] [] e = (refl, refl)
no_next [] (t ∷ ts) e = absurd (grind arith)
no_next (s ∷ ss) [] e = absurd (grind arith)
no_next (s ∷ ss) (t ∷ ts) e = absurd (grind arith)

-- the walk that finds the first end
