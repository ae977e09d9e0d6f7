-- When a technology in numbers is taken, and that it is what is decoded.
use Rattle.std.proofs.Common.{◌≡◌, ℕ, zero, suc, ◌+◌, ◌*◌, ◌<◌, ◌≤◌, Bool, true, false, not, ◌&&◌, eqb, ltb, leb, List, [], ◌∷◌, ◌++◌, Option, Some, None, length, get_or, take, drop, sym, refl, ap, ◌∙◌, inl, inr, add-one, arith}
use Rattle.std.proofs.lemmas.List.{length_push, get_or_push, get_or_past, get_or_append_left}
use Rattle.std.proofs.lemmas.Bool.{and_parts, cases_Bool, cases_order, le-leb, leb-true, lt-ltb, le-ltb, ltb-true, eq-eqb, eqb-true}
use mathlib.Core.Bool.{true≢false}
use Rattle.std.specs.Option.{is_some, MatchOption}
use Rattle.layout.specs.Numbers.{all_at_most}
use Rattle.layout.specs.Checks.{FirstAbove}
use Rattle.layout.proofs.Checks.{all_not}
use Rattle.nets.specs.declared.process.Join.{Join}
use Rattle.nets.specs.Limits.{max_layers, max_joins}
use Rattle.nets.specs.Technologies.{joins_in, technology_in, technology_ok}
use Rattle.nets.specs.Processes.{marks_of, joins_of, joins_among}

-- all that is asked of a technology but its marks
pub record Facts (xs : List ℕ) : Type 0 where
  pub long : 4 ≤ length xs
  pub layers : get_or xs 0 0 ≤ max_layers
  pub joins : get_or xs 1 0 ≤ max_joins
  pub whole : length xs ≡ 4 + get_or xs 0 0 + 3 * get_or xs 1 0
  pub gate : get_or xs 2 0 < get_or xs 0 0
  pub mark : get_or xs (4 + get_or xs 2 0) 0 ≡ 1

and-true : (a : Bool) → (a && true) ≡ a
and-true true = refl
and-true false = refl

pub ok_facts : (xs : List ℕ) → technology_ok xs ≡ true → Facts xs
unfolding technology_ok technology_in
ok_facts xs h =
    let a = (and_parts (all_at_most 1 (take (get_or xs 0 0) (drop 4 xs))) _ h).1 in
    let b = and_parts (leb 4 (length xs)) _ a in
    let e = and_parts (leb (get_or xs 0 0) max_layers) _ b.1 in
    let f = and_parts (leb (get_or xs 1 0) max_joins) _ e.1 in
    let g = and_parts (eqb (length xs) (4 + get_or xs 0 0 + 3 * get_or xs 1 0)) _ f.1 in
    let i = and_parts (ltb (get_or xs 2 0) (get_or xs 0 0)) (eqb (get_or xs (4 + get_or xs 2 0) 0) 1) g.1 in
    record {
      long = leb-true 4 (length xs) b.0;
      layers = leb-true _ _ e.0;
      joins = leb-true _ _ f.0;
      whole = eqb-true _ _ g.0;
      gate = ltb-true _ _ i.0;
      mark = eqb-true _ _ i.1;
    }

pub facts_ok : (xs : List ℕ) → Facts xs → technology_ok xs ≡ all_at_most 1 (take (get_or xs 0 0) (drop 4 xs))
unfolding technology_ok technology_in
facts_ok xs f =
    let a = le-leb 4 (length xs) f.long in
    let b = le-leb (get_or xs 0 0) max_layers f.layers in
    let e = le-leb (get_or xs 1 0) max_joins f.joins in
    let g = eq-eqb (length xs) (4 + get_or xs 0 0 + 3 * get_or xs 1 0) f.whole in
    let h = lt-ltb (get_or xs 2 0) (get_or xs 0 0) f.gate in
    let i = eq-eqb (get_or xs (4 + get_or xs 2 0) 0) 1 f.mark in
    rw (a, b, e, g, h, i) (and-true (all_at_most 1 (take (get_or xs 0 0) (drop 4 xs))))

pub not-ok : (xs : List ℕ) → (Facts xs → ⊥) → technology_ok xs ≡ false
not-ok xs n = elim (cases_Bool (technology_ok xs)) [ inl e ↦ absurd (n (ok_facts xs e)) | inr e ↦ e ]

-- no number above a limit: what the search for the first one tells
pub none_above : (m : ℕ) (xs : List ℕ) (o : Option ℕ) (b : Bool) → MatchOption o (all_at_most m xs ≡ true) (FirstAbove m xs) → is_some o ≡ not b → b ≡ all_at_most m xs
none_above m xs None true h e = sym h
none_above m xs None false h e = absurd (true≢false (sym e))
none_above m xs (Some p) true h e = absurd (true≢false e)
none_above m xs (Some p) false h e = sym (all_not m xs p h.1)

-- what is decoded

length-marks : (xs : List ℕ) (n : ℕ) → length (marks_of xs n) ≡ n
length-marks xs zero = refl
length-marks xs (suc n) = length_push (marks_of xs n) _ ∙ omega (arith, length-marks xs n)

mark-at : (xs : List ℕ) (n l : ℕ) → get_or (marks_of xs n) l false ≡ (ltb l n && eqb (get_or xs (4 + l) 0) 1)
mark-at xs zero l = get_or_past [] l false (omega arith) ∙ ap (λ b. b && eqb (get_or xs (4 + l) 0) 1) (sym (le-ltb l 0 (omega arith)))
mark-at xs (suc n) l =
    elim (cases_order l n) [
      | inl e ↦ rw e (get_or_push (marks_of xs n) (eqb (get_or xs (4 + n) 0) 1) false n (length-marks xs n) ∙ ap (λ b. b && eqb (get_or xs (4 + n) 0) 1) (sym (lt-ltb n (suc n) (omega arith))))
      | inr o ↦ elim o [
        | inl h ↦ get_or_append_left (marks_of xs n) (eqb (get_or xs (4 + n) 0) 1 ∷ []) false l (omega (arith, length-marks xs n))
            ∙ (mark-at xs n l ∙ ap (λ b. b && eqb (get_or xs (4 + l) 0) 1) (lt-ltb l n h ∙ sym (lt-ltb l (suc n) (omega arith))))
        | inr h ↦ get_or_past (marks_of xs (suc n)) l false (omega (arith, length-marks xs (suc n))) ∙ ap (λ b. b && eqb (get_or xs (4 + l) 0) 1) (sym (le-ltb l (suc n) (omega arith)))
      ]
    ]

length-joins : (xs : List ℕ) (from n : ℕ) → length (joins_of xs from n) ≡ n
length-joins xs from zero = refl
length-joins xs from (suc n) = length_push (joins_of xs from n) _ ∙ omega (arith, length-joins xs from n)

abbrev join_in : List ℕ → (from n : ℕ) → Join
join_in xs from n = record { by = get_or xs (from + 3 * n) 0; one = get_or xs (from + 3 * n + 1) 0; other = get_or xs (from + 3 * n + 2) 0 }

-- the joins before one more
among-push : (js : List Join) (q : Join) (n j a b : ℕ) → n ≤ length js → joins_among (js ++ q ∷ []) n j a b ≡ joins_among js n j a b
among-push js q zero j a b h = refl
among-push js q (suc n) j a b h = rw (get_or_append_left js (q ∷ []) (record { by = 0; one = 0; other = 0 }) n (omega arith), among-push js q n j a b (omega arith))

joins-same : (xs : List ℕ) (from n j a b : ℕ) → joins_among (joins_of xs from n) n j a b ≡ joins_in xs from n j a b
unfolding joins_in
joins-same xs from zero j a b = refl
joins-same xs from (suc n) j a b =
    rw (
      get_or_push (joins_of xs from n) (join_in xs from n) (record { by = 0; one = 0; other = 0 }) n (length-joins xs from n),
      among-push (joins_of xs from n) (join_in xs from n) n j a b (omega (arith, length-joins xs from n)),
      joins-same xs from n j a b,
    )

-- one turn of each loop that decodes

pub marks-more : (xs : List ℕ) (n : ℕ) (out next : List Bool) → out ≡ marks_of xs n → next ≡ out ++ eqb (get_or xs (4 + n) 0) 1 ∷ [] → next ≡ marks_of xs (n + 1)
marks-more xs n out next p q = rw add-one (q ∙ ap (λ v. v ++ eqb (get_or xs (4 + n) 0) 1 ∷ []) p)

pub joins-more :
    (xs : List ℕ) (from n : ℕ) (out next : List Join) → out ≡ joins_of xs from n →
    next ≡ out ++ record { by = get_or xs (from + 3 * n) 0; one = get_or xs (from + 3 * n + 1) 0; other = get_or xs (from + 3 * n + 2) 0 } ∷ [] → next ≡ joins_of xs from (n + 1)
joins-more xs from n out next p q = rw add-one (q ∙ ap (λ v. v ++ join_in xs from n ∷ []) p)

pub technology_same :
    (xs : List ℕ) (cs : List Bool) (js : List Join) (g r : ℕ) → cs ≡ marks_of xs (get_or xs 0 0) → js ≡ joins_of xs (4 + get_or xs 0 0) (get_or xs 1 0) →
    g ≡ get_or xs 2 0 → r ≡ get_or xs 3 0 → record { carries = λ l. get_or cs l false; joins = joins_among js (length js); gate = g; crossed = r } ≡ technology_in xs
unfolding technology_in
technology_same xs cs js g r c j p q =
    λ i. record {
      carries = λ l. (ap (λ v. get_or v l false) c ∙ mark-at xs (get_or xs 0 0) l) i;
      joins = λ n a b. (ap (λ v. joins_among v (length v) n a b) j
          ∙ (ap (λ m. joins_among (joins_of xs (4 + get_or xs 0 0) (get_or xs 1 0)) m n a b) (length-joins xs (4 + get_or xs 0 0) (get_or xs 1 0)) ∙ joins-same xs (4 + get_or xs 0 0) (get_or xs 1 0) n a b)) i;
      gate = p i;
      crossed = q i;
    }
