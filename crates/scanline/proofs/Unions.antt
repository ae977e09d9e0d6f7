-- The line of all columns of spans, by a walk over spans in the order of their columns. Assumes nothing.
use Rattle.std.proofs.Common.{◌≡◌, ℕ, suc, ◌+◌, ◌<◌, ◌≤◌, max, Bool, true, false, ◌&&◌, ◌||◌, ltb, leb, List, [], ◌∷◌, ◌++◌, length, get_or, drop, sym, refl, ◌∙◌, subst, ⊎_elim, arith}
use Rattle.std.proofs.lemmas.List.{drop_more, drop_all, append_assoc}
use Rattle.std.proofs.lemmas.Bool.{cases_lt, le-leb, lt-leb, lt-ltb, le-ltb}
use Rattle.std.proofs.lemmas.Bool.Decides.{nat_tests}
use Rattle.scanline.specs.Lines.{differ, inside}
use Rattle.scanline.specs.declared.span.Span.{Span}
use Rattle.scanline.specs.Spans.{across, any_across, ByColumns, Union}
use Rattle.scanline.proofs.Merge.{from-rises, Between, between-from, between-push, between_more, inside-push}

-- the interval from `from` up to `to` is open, what is before it is written, and `left` is to come
pub record Uniting (spans : List Span) (out : List ℕ) (from to : ℕ) (left : List Span) : Type 0 where
  pub between : Between 0 from out
  pub solid : from < to
  pub rest : ByColumns from left
  pub shut : (x : ℕ) → from ≤ x → inside out x ≡ false
  pub is : (x : ℕ) → any_across spans x ≡ ((inside out x || (leb from x && ltb x to)) || any_across left x)

pub unite_first : (s : Span) (ss : List Span) → ByColumns 0 (s ∷ ss) → Uniting (s ∷ ss) [] s.left s.right ss
unfolding any_across
unite_first s ss h = record { between = omega arith; solid = h.1; rest = h.2; shut = λ x l. refl; is = λ x. refl }

-- an interval written at the end
written : (out : List ℕ) (from to x : ℕ) → from < to → (from ≤ x → inside out x ≡ false) → inside ((out ++ from ∷ []) ++ to ∷ []) x ≡ (inside out x || (leb from x && ltb x to))
written out from to x l shut =
    rw (inside-push (out ++ from ∷ []) to x, inside-push out from x)
    (⊎_elim
    (λ k. rw (lt-leb from x k, lt-leb to x (omega arith)) (early (inside out x)))
    (λ k. rw (shut k, le-leb from x k) (⊎_elim (λ j. rw (lt-leb to x j, lt-ltb x to j)) (λ j. rw (le-leb to x j, le-ltb x to j)) (cases_lt x to)))
    (cases_lt x from))
  where
    early : (b : Bool) → differ (differ b false) false ≡ (b || false)
    early true = refl
    early false = refl

module _ (spans : List Span) (out : List ℕ) (from to : ℕ) (s : Span) (left : List Span) (h : Uniting spans out from to (s ∷ left)) where
  pub unite-gap : to < s.left → Uniting spans ((out ++ from ∷ []) ++ to ∷ []) s.left s.right left
  unfolding any_across
  unite-gap l =
      let k = h.solid in
      record {
        between = between_more 0 (suc to) s.left _ (between-push 0 (suc from) _ to (between-push 0 from out from h.between (omega arith)) (omega arith)) (omega arith);
        solid = h.rest.1;
        rest = h.rest.2;
        shut = λ x m. written out from to x k (h.shut x) ∙ rw (h.shut x (omega arith), le-leb from x (omega arith), le-ltb x to (omega arith));
        is = λ x. h.is x ∙ rw (written out from to x k (h.shut x)) (regroup (inside out x) (leb from x && ltb x to) (across s x) (any_across left x));
      }
    where
      regroup : (a b c d : Bool) → ((a || b) || (c || d)) ≡ (((a || b) || c) || d)
      regroup true b c d = refl
      regroup false true c d = refl
      regroup false false c d = refl

  pub unite-join : s.left ≤ to → Uniting spans out from (max to s.right) left
  unfolding any_across
  unite-join l =
      let k = h.solid in
      let p = h.rest.0 in
      record {
        between = h.between;
        solid = omega arith;
        rest = lower left h.rest.2;
        shut = h.shut;
        is = λ x. h.is x ∙ wider (inside out x) (any_across left x) x;
      }
    where
      lower : (ss : List Span) → ByColumns s.left ss → ByColumns from ss
      lower [] g = tt
      lower (t ∷ ts) g = (omega (arith, h.rest.0), g.1, g.2)

      wider : (a d : Bool) (x : ℕ) → ((a || (leb from x && ltb x to)) || (across s x || d)) ≡ ((a || (leb from x && ltb x (max to s.right))) || d)
      wider a d x = let p = h.rest.0 in let k = h.solid in grind (arith, nat_tests)

-- both ends of an interval, added at once
pub both_ends : (out : List ℕ) (from to : ℕ) → out ++ from ∷ to ∷ [] ≡ (out ++ from ∷ []) ++ to ∷ []
both_ends out from to = sym (append_assoc out (from ∷ []) (to ∷ []))

pub unite_none : Union [] []
unfolding any_across
unite_none = record { ordered = refl; holds = λ x. refl }

pub unite_all : (spans : List Span) (out : List ℕ) (from to : ℕ) → Uniting spans out from to [] → Union spans ((out ++ from ∷ []) ++ to ∷ [])
unfolding any_across
unite_all spans out from to h =
    let k = h.solid in
    record {
      ordered = from-rises 0 _ (between-from 0 (suc to) _ (between-push 0 (suc from) _ to (between-push 0 from out from h.between (omega arith)) (omega arith)));
      holds = λ x. written out from to x k (h.shut x) ∙ sym (h.is x ∙ plain _);
    }
  where
    plain : (a : Bool) → (a || false) ≡ a
    plain true = refl
    plain false = refl

-- by places
pub unite_start : (spans : List Span) (d : Span) → 0 < length spans → ByColumns 0 spans → Uniting spans [] (get_or spans 0 d).left (get_or spans 0 d).right (drop 1 spans)
unite_start [] d l h = absurd (omega arith)
unite_start (s ∷ ss) d l h = unite_first s ss h

pub unite_at : (spans : List Span) (out : List ℕ) (from to : ℕ) (rest : List Span) (i : ℕ) (d : Span) → i < length rest → Uniting spans out from to (drop i rest) → Uniting spans out from to (get_or rest i d ∷ drop (i + 1) rest)
unite_at spans out from to rest i d l h = subst (λ v. Uniting spans out from to v) (drop_more rest i d l) h

pub unite_end : (spans : List Span) (out : List ℕ) (from to : ℕ) (rest : List Span) (i : ℕ) → length rest ≤ i → Uniting spans out from to (drop i rest) → Union spans ((out ++ from ∷ []) ++ to ∷ [])
unite_end spans out from to rest i l h = unite_all spans out from to (subst (λ v. Uniting spans out from to v) (drop_all i rest l) h)
