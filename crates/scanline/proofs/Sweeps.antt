-- The sweep from row to row. Assumes nothing.
use Rattle.std.proofs.Common.{◌≡◌, ℕ, suc, ◌+◌, ◌*◌, ◌<◌, ◌≤◌, Bool, true, false, ◌&&◌, ◌||◌, List, [], ◌∷◌, length, get_or, take, drop, Some, None, sym, refl, ap, ◌∙◌, inl, inr, ⊎_elim, arith, length-drop, length-take}
use Rattle.std.proofs.lemmas.Bool.{cases_lt, lt-leb, lt-ltb}
use Rattle.scanline.specs.Lines.{inside}
use Rattle.scanline.specs.declared.band.Band.{Band}
use Rattle.scanline.specs.Bands.{covers, Canonical, lastLine, Added}
use Rattle.scanline.specs.declared.span.Span.{Span}
use Rattle.scanline.specs.Spans.{across, any_across, any_still, any_covers, no_span, ByColumns, ByRows, Last, Advanced, next_edge}
use Rattle.scanline.proofs.Rows.{Canon, canon_canonical, line-late, topped}
use Rattle.scanline.proofs.Advances.{Next, next-is, no_next, or-none, or_assoc, alive-most, alive-short}
use Rattle.scanline.proofs.Spannings.{Split}

-- spans that last to row p: in an earlier row they all show
still-shows : (p : ℕ) (ss : List Span) (x y : ℕ) → Last p ss → y < p → any_still ss x y ≡ any_across ss x
unfolding any_still any_across
still-shows p [] x y h l = refl
still-shows p (s ∷ ss) x y h l = rw (lt-ltb y s.bottom (omega (arith, h.0)), still-shows p ss x y h.1 l) (ap (λ b. b || any_across ss x) (whole (across s x)))
  where
    whole : (a : Bool) → (a && true) ≡ a
    whole true = refl
    whole false = refl

-- spans that begin at row p or after cover nothing before
none_before : (p q : ℕ) (ss : List Span) (x y : ℕ) → ByRows p ss → q ≤ p → y < q → any_covers ss x y ≡ false
unfolding any_covers
none_before p q [] x y h m l = refl
none_before p q (s ∷ ss) x y h m l = rw (lt-leb s.top y (omega (arith, h.0)), none_before s.top q ss x y h.3 (omega (arith, h.0)) l) (ap (λ b. b || false) (empty (across s x)))
  where
    empty : (a : Bool) → (a && false) ≡ false
    empty true = refl
    empty false = refl

-- rows below `low` are done; `live` has begun and goes on, `rest` is to come
pub record Sweeping (spans : List Span) (out : List Band) (live rest : List Span) : Type 0 where
  pub low : ℕ
  pub rows : ByRows low rest
  pub columns : ByColumns 0 live
  pub lasts : Last low live
  pub ordered : Canon [] 0 low out
  pub last : (x : ℕ) → inside (lastLine [] out) x ≡ any_across live x
  pub done : (x y : ℕ) → y < low → covers out x y ≡ any_covers spans x y
  pub to_come : (x y : ℕ) → low ≤ y → any_covers spans x y ≡ (any_still live x y || any_covers rest x y)

pub sweep_none : (spans : List Span) → ByRows 0 spans → Sweeping spans [] [] spans
unfolding any_still any_across
sweep_none spans h = record { low = 0; rows = h; columns = tt; lasts = tt; ordered = omega arith; last = λ x. refl; done = λ x y l. absurd (omega arith); to_come = λ x y l. refl }

pub sweep_all : (spans : List Span) (out : List Band) (live rest : List Span) → next_edge live rest ≡ None → Sweeping spans out live rest → Canonical out × ((x y : ℕ) → covers out x y ≡ any_covers spans x y)
unfolding any_still any_across any_covers
sweep_all spans out live rest e h =
    let n = no_next live rest e in (
      canon_canonical [] 0 h.low out h.ordered,
      λ x y. ⊎_elim
          (λ l. h.done x y l)
          (λ l. ap (λ es. inside es x) (line-late [] 0 h.low out y h.ordered l) ∙ h.last x ∙ ap (λ v. any_across v x) n.0 ∙ sym (h.to_come x y l ∙ rw (n.0, n.1)))
          (cases_lt y h.low),
    )

module _ (spans : List Span) (out : List Band) (live rest : List Span) (h : Sweeping spans out live rest) (row : ℕ) (e : next_edge live rest ≡ Some row) where
  next : Next live rest row
  next = next-is live rest row e

  pub begun : ByRows row rest
  begun = next.begins h.low h.rows

  -- the next row is not above those that are done
  not-above : h.low ≤ row
  not-above = elim next.some [ inl l ↦ alive-short h.low row live h.lasts l | inr t ↦ first_below rest h.rows t.0 t.1 ]
    where
      first_below : (ss : List Span) → ByRows h.low ss → 0 < length ss → (get_or ss 0 no_span).top ≡ row → h.low ≤ row
      first_below [] g l q = absurd (omega arith)
      first_below (s ∷ ss) g l q = omega (arith, g.0)

  gap : (x y : ℕ) → h.low ≤ y → y < row → any_covers spans x y ≡ any_across live x
  gap x y l m = h.to_come x y l ∙ rw (still-shows row live x y next.ends m, none_before row row rest x y begun (omega arith) m) (or-none (any_across live x))

  module _ (n : ℕ) (sp : Split row rest n) (live' : List Span) (a : Advanced row live (take n rest) live') where
    at_row : (x y : ℕ) → row ≤ y → any_covers spans x y ≡ (any_still live' x y || any_covers (drop n rest) x y)
    at_row x y l =
        let k = not-above in
        h.to_come x y (omega arith)
        ∙ ap (λ b. any_still live x y || b) (sp.holds x y ∙ ap (λ b. b || any_covers (drop n rest) x y) (sp.new x y l))
        ∙ sym (or_assoc (any_still live x y) (any_still (take n rest) x y) (any_covers (drop n rest) x y))
        ∙ ap (λ b. b || any_covers (drop n rest) x y) (sym (a.holds x y l))

    pub swept : (line : List ℕ) → ((x : ℕ) → inside line x ≡ any_across live' x) → (out' : List Band) → Added row line out out' → Sweeping spans out' live' (drop n rest)
    swept line u out' d =
        let t = topped h.low row line out out' h.ordered not-above d in
        record {
          low = suc row;
          rows = sp.rows;
          columns = a.columns;
          lasts = a.last;
          ordered = t.ordered;
          last = λ x. rw t.last (u x);
          done = λ x y l. ⊎_elim
              (λ m. ap (λ es. inside es x) (t.early y m) ∙ ⊎_elim
              (λ k. h.done x y k)
              (λ k. ap (λ es. inside es x) (line-late [] 0 h.low out y h.ordered k) ∙ h.last x ∙ sym (gap x y k m))
              (cases_lt y h.low))
              (λ m. ap (λ es. inside es x) (t.late y m) ∙ u x ∙ sym (at_row x y m ∙ rw (still-shows (suc row) live' x y a.last l, none_before (suc row) (suc row) (drop n rest) x y sp.rows (omega arith) l) (or-none (any_across live' x))))
              (cases_lt y row);
          to_come = λ x y l. at_row x y (omega arith);
        }

    pub swept-less : n ≤ length rest → (n < length rest → (get_or rest n no_span).top ≡ row → ⊥) → 2 * length (drop n rest) + length live' < 2 * length rest + length live
    swept-less m f =
        let k = a.few in
        let p = alive-most row live in
        let q = alive-most row (take n rest) in
        let r : length (take n rest) ≤ n = simp length-take (omega arith) in
        rw (length-drop n rest)
        (elim next.some [
          | inl l ↦ omega arith
          | inr t ↦ elim (cases_lt 0 n) [ inl l ↦ omega arith | inr l ↦ let z : n ≡ 0 = omega arith in absurd (f (omega (arith, t.0)) (rw z t.1)) ]
        ])
