-- What one turn of the merge of two lines keeps. Assumes nothing.
use Rattle.std.proofs.Common.{◌≡◌, ℕ, suc, ◌+◌, ◌<◌, ◌≤◌, min, Bool, true, false, not, eqb, leb, List, [], ◌∷◌, ◌++◌, length, Some, None, Option, sym, refl, ap, ◌∙◌, subst, ⊎_elim, arith}
use Rattle.std.proofs.lemmas.Bool.{cases_lt, cases_eq, eq-eqb, ne_eqb, le-leb, lt-leb, leb-true, and_parts, and_from}
use Rattle.scanline.specs.declared.Op.{Op}
use Rattle.scanline.specs.declared.Op.TheVariants.{And, Or, Without, Xor}
use Rattle.scanline.specs.Lines.{differ, inside, rises, Sorted, applied, Combined}
use Rattle.scanline.specs.Starts.{first_start, begins, starting, past as past_of}

-- the first edge of either line
abbrev pub first : List ℕ → List ℕ → Option ℕ
first = first_start (λ e. e)

-- whether the line turns at e, which comes before its other edges, and what is left of it past e
abbrev pub turns : ℕ → List ℕ → Bool
turns = begins (λ e. e)

abbrev pub past : ℕ → List ℕ → List ℕ
past = past_of (λ e. e)

-- it turns where what is cut off at e is not empty
pub turns_here : (e : ℕ) (es here : List ℕ) (b : Bool) → here ≡ starting (λ f. f) e es → b ≡ eqb (length here) 0 → not b ≡ turns e es
turns_here e [] here b h k = ap not (k ∙ ap (λ u. eqb (length u) 0) h)
turns_here e (f ∷ fs) here b h k = ⊎_elim (λ s. ap not (k ∙ ap (λ u. eqb (length u) 0) h) ∙ rw (eq-eqb f e s)) (λ n. ap not (k ∙ ap (λ u. eqb (length u) 0) h) ∙ rw (ne_eqb f e n)) (cases_eq f e)

-- differ

pub differ-assoc : (a b c : Bool) → differ (differ a b) c ≡ differ a (differ b c)
differ-assoc true true true = refl
differ-assoc true true false = refl
differ-assoc true false true = refl
differ-assoc true false false = refl
differ-assoc false true true = refl
differ-assoc false true false = refl
differ-assoc false false true = refl
differ-assoc false false false = refl

pub differ-false : (a : Bool) → differ a false ≡ a
differ-false true = refl
differ-false false = refl

pub false_differ : (a : Bool) → differ false a ≡ a
false_differ true = refl
false_differ false = refl

turned : (a b : Bool) → differ a b ≡ true → (c : Bool) → c ≡ b → differ c true ≡ a
turned true true e c h = absurd (grind arith)
turned true false e c h = ap (λ v. differ v true) h
turned false true e c h = ap (λ v. differ v true) h
turned false false e c h = absurd (grind arith)

-- strictly increasing, from p on
abbrev pub From : ℕ → List ℕ → Type 0
From p [] = Unit {0}
From p (e ∷ es) = (p ≤ e) × From (suc e) es

pub rises-from : (p : ℕ) (es : List ℕ) → rises p es ≡ true → From p es
rises-from p [] h = tt
rises-from p (e ∷ es) h = let k = and_parts (leb p e) (rises (suc e) es) h in (leb-true p e k.0, rises-from (suc e) es k.1)

pub from-rises : (p : ℕ) (es : List ℕ) → From p es → rises p es ≡ true
from-rises p [] h = refl
from-rises p (e ∷ es) h = and_from (leb p e) (rises (suc e) es) (le-leb p e h.0) (from-rises (suc e) es h.1)

-- inside

pub inside-before : (p : ℕ) (es : List ℕ) (x : ℕ) → From p es → x < p → inside es x ≡ false
inside-before p [] x h l = refl
inside-before p (e ∷ es) x h l = rw (lt-leb e x (omega arith), inside-before (suc e) es x h.1 (omega arith))

pub inside-push : (es : List ℕ) (e x : ℕ) → inside (es ++ e ∷ []) x ≡ differ (inside es x) (leb e x)
inside-push [] e x = rw (differ-false (leb e x), false_differ (leb e x))
inside-push (f ∷ fs) e x = rw (inside-push fs e x) (sym (differ-assoc (leb f x) (inside fs x) (leb e x)))

-- strictly increasing from p on, and below q
abbrev pub Between : ℕ → ℕ → List ℕ → Type 0
Between p q [] = p ≤ q
Between p q (e ∷ es) = (p ≤ e) × Between (suc e) q es

pub between-from : (p q : ℕ) (es : List ℕ) → Between p q es → From p es
between-from p q [] h = tt
between-from p q (e ∷ es) h = (h.0, between-from (suc e) q es h.1)

pub between-push : (p q : ℕ) (es : List ℕ) (e : ℕ) → Between p q es → q ≤ e → Between p (suc e) (es ++ e ∷ [])
between-push p q [] e h l = (omega arith, omega arith)
between-push p q (f ∷ fs) e h l = (h.0, between-push (suc f) q fs e h.1 l)

pub between_more : (p q r : ℕ) (es : List ℕ) → Between p q es → q ≤ r → Between p r es
between_more p q r [] h l = omega arith
between_more p q r (f ∷ fs) h l = (h.0, between_more (suc f) q r fs h.1 l)

-- past

pub from_less : (p q : ℕ) (es : List ℕ) → From p es → q ≤ p → From q es
from_less p q [] h l = tt
from_less p q (e ∷ es) h l = (omega arith, h.1)

past-from : (e : ℕ) (es : List ℕ) → From e es → From (suc e) (past e es)
past-from e [] h = tt
past-from e (f ∷ fs) h =
    ⊎_elim
    (λ s. rw (eq-eqb f e s) (subst (λ v. From (suc v) fs) s h.1))
    (λ n. rw (ne_eqb f e n) (omega arith, h.1))
    (cases_eq f e)

past-inside : (e : ℕ) (es : List ℕ) (x : ℕ) → e ≤ x → inside es x ≡ differ (turns e es) (inside (past e es) x)
past-inside e [] x l = refl
past-inside e (f ∷ fs) x l =
    ⊎_elim
    (λ s. rw (eq-eqb f e s, le-leb f x (omega arith)))
    (λ n. rw (ne_eqb f e n) (sym (false_differ _)))
    (cases_eq f e)

past-length : (e : ℕ) (es : List ℕ) → length (past e es) ≤ length es
past-length e [] = omega arith
past-length e (f ∷ fs) =
    ⊎_elim
    (λ s. rw (eq-eqb f e s) (omega arith))
    (λ n. rw (ne_eqb f e n) (omega arith))
    (cases_eq f e)

past-shorter : (e : ℕ) (es : List ℕ) → length (past e (e ∷ es)) < length (e ∷ es)
past-shorter e es = rw (eq-eqb e e refl) (omega arith)

-- first

pub first-none : (a b : List ℕ) → first a b ≡ None → (a ≡ []) × (b ≡ [])
first-none [] [] h = (refl, refl)
first-none [] (y ∷ ys) h = absurd (grind arith)
first-none (x ∷ xs) [] h = absurd (grind arith)
first-none (x ∷ xs) (y ∷ ys) h = absurd (grind arith)

pub first-from : (a b : List ℕ) (e p : ℕ) → first a b ≡ Some e → From p a → From p b → (p ≤ e) × From e a × From e b
first-from [] [] e p h f g = absurd (grind arith)
first-from [] (y ∷ ys) e p h f g = let s : y ≡ e = cc in (omega arith, tt, (omega arith, g.1))
first-from (x ∷ xs) [] e p h f g = let s : x ≡ e = cc in (omega arith, (omega arith, f.1), tt)
first-from (x ∷ xs) (y ∷ ys) e p h f g = let s : min x y ≡ e = cc in (omega arith, (omega arith, f.1), (omega arith, g.1))

pub first-less : (a b : List ℕ) (e : ℕ) → first a b ≡ Some e → length (past e a) + length (past e b) < length a + length b
first-less [] [] e h = absurd (grind arith)
first-less [] (y ∷ ys) e h = let s : y ≡ e = cc in rw (eq-eqb y e s) (omega arith)
first-less (x ∷ xs) [] e h = let s : x ≡ e = cc in rw (eq-eqb x e s) (omega arith)
first-less (x ∷ xs) (y ∷ ys) e h =
    let s : min x y ≡ e = cc in
    ⊎_elim
    (λ (l : y < x). let k : y ≡ e = omega arith in rw (eq-eqb y e k) (omega (arith, past-length e (x ∷ xs))))
    (λ (l : x ≤ y). let k : x ≡ e = omega arith in rw (eq-eqb x e k) (omega (arith, past-length e (y ∷ ys))))
    (cases_lt y x)

-- the merge so far: below `low` all is done, and from there on the operands turn at what is left of their edges
pub record Sofar (op : Op) (a b out left-a left-b : List ℕ) (in-a in_b within : Bool) : Type 0 where
  pub low : ℕ
  pub from_a : From low left-a
  pub from_b : From low left-b
  pub is_a : (x : ℕ) → low ≤ x → inside a x ≡ differ in-a (inside left-a x)
  pub is_b : (x : ℕ) → low ≤ x → inside b x ≡ differ in_b (inside left-b x)
  pub ordered : Between 0 low out
  pub now : within ≡ applied op in-a in_b
  pub done : (x : ℕ) → x < low → inside out x ≡ applied op (inside a x) (inside b x)
  pub rest : (x : ℕ) → low ≤ x → inside out x ≡ within

applied-false : (op : Op) → false ≡ applied op false false
applied-false And = refl
applied-false Or = refl
applied-false Without = refl
applied-false Xor = refl

pub start : (op : Op) (a b : List ℕ) → Sorted a → Sorted b → Sofar op a b [] a b false false false
start op a b f g = record {
  low = 0;
  from_a = rises-from 0 a f;
  from_b = rises-from 0 b g;
  is_a = λ x l. sym (false_differ (inside a x));
  is_b = λ x l. sym (false_differ (inside b x));
  ordered = omega arith;
  now = applied-false op;
  done = λ x l. absurd (omega arith);
  rest = λ x l. refl;
}

pub finish : (op : Op) (a b out : List ℕ) (in-a in_b within : Bool) → Sofar op a b out [] [] in-a in_b within → Combined op a b out
finish op a b out in-a in_b within h = record {
  ordered = from-rises 0 out (between-from 0 h.low out h.ordered);
  holds = λ x. ⊎_elim (λ l. h.done x l) (λ l. h.rest x l ∙ h.now ∙ cc (h.is_a x l, h.is_b x l, differ-false in-a, differ-false in_b)) (cases_lt x h.low);
}

module _ (op : Op) (a b out left-a left-b : List ℕ) (in-a in_b within : Bool) (h : Sofar op a b out left-a left-b in-a in_b within) (e : ℕ) (f : first left-a left-b ≡ Some e) where
  -- an operand in the gap before e, and past it
  abbrev next : Bool
  next = applied op (differ in-a (turns e left-a)) (differ in_b (turns e left-b))

  gap-a : (x : ℕ) → h.low ≤ x → x < e → inside a x ≡ in-a
  gap-a x l m = h.is_a x l ∙ rw (inside-before e left-a x (first-from left-a left-b e h.low f h.from_a h.from_b).1 m) (differ-false in-a)

  gap-b : (x : ℕ) → h.low ≤ x → x < e → inside b x ≡ in_b
  gap-b x l m = h.is_b x l ∙ rw (inside-before e left-b x (first-from left-a left-b e h.low f h.from_a h.from_b).2 m) (differ-false in_b)

  past-a : (x : ℕ) → e ≤ x → inside a x ≡ differ (differ in-a (turns e left-a)) (inside (past e left-a) x)
  past-a x l =
      let k = (first-from left-a left-b e h.low f h.from_a h.from_b).0 in
      h.is_a x (omega arith) ∙ rw (past-inside e left-a x l) (sym (differ-assoc in-a (turns e left-a) (inside (past e left-a) x)))

  past-b : (x : ℕ) → e ≤ x → inside b x ≡ differ (differ in_b (turns e left-b)) (inside (past e left-b) x)
  past-b x l =
      let k = (first-from left-a left-b e h.low f h.from_a h.from_b).0 in
      h.is_b x (omega arith) ∙ rw (past-inside e left-b x l) (sym (differ-assoc in_b (turns e left-b) (inside (past e left-b) x)))

  -- at e itself
  at-e : next ≡ applied op (inside a e) (inside b e)
  at-e =
      let fs = first-from left-a left-b e h.low f h.from_a h.from_b in
      cc (past-a e (omega arith), past-b e (omega arith), inside-before (suc e) (past e left-a) e (past-from e left-a fs.1) (omega arith), inside-before (suc e) (past e left-b) e (past-from e left-b fs.2) (omega arith), differ-false (differ in-a (turns e left-a)), differ-false (differ in_b (turns e left-b)))

  step : (out' : List ℕ) → Between 0 (suc e) out' → ((x : ℕ) → x < e → inside out' x ≡ inside out x) → ((x : ℕ) → e ≤ x → inside out' x ≡ next)
      → Sofar op a b out' (past e left-a) (past e left-b) (differ in-a (turns e left-a)) (differ in_b (turns e left-b)) next
  step out' o early late =
      let fs = first-from left-a left-b e h.low f h.from_a h.from_b in
      record {
        low = suc e;
        from_a = past-from e left-a fs.1;
        from_b = past-from e left-b fs.2;
        is_a = λ x l. past-a x (omega arith);
        is_b = λ x l. past-b x (omega arith);
        ordered = o;
        now = refl;
        done = λ x l.
            ⊎_elim
            (λ m. early x m ∙ ⊎_elim (λ n. h.done x n) (λ n. h.rest x n ∙ h.now ∙ cc (gap-a x n m, gap-b x n m)) (cases_lt x h.low))
            (λ m. let s : x ≡ e = omega arith in late x m ∙ at-e ∙ cc)
            (cases_lt x e);
        rest = λ x l. late x (omega arith);
      }

  pub kept : next ≡ within → Sofar op a b out (past e left-a) (past e left-b) (differ in-a (turns e left-a)) (differ in_b (turns e left-b)) next
  kept s =
      let k = (first-from left-a left-b e h.low f h.from_a h.from_b).0 in
      step out (between_more 0 h.low (suc e) out h.ordered (omega arith)) (λ x m. refl) (λ x m. h.rest x (omega arith) ∙ sym s)

  pub pushed : differ next within ≡ true → Sofar op a b (out ++ e ∷ []) (past e left-a) (past e left-b) (differ in-a (turns e left-a)) (differ in_b (turns e left-b)) next
  pushed s =
      let k = (first-from left-a left-b e h.low f h.from_a h.from_b).0 in
      step (out ++ e ∷ [])
      (between-push 0 h.low out e h.ordered k)
      (λ x m. inside-push out e x ∙ rw (lt-leb e x m) (differ-false (inside out x)))
      (λ x m. inside-push out e x ∙ rw (le-leb e x m) (turned next within s (inside out x) (h.rest x (omega arith))))

pub same : (a b : Bool) → differ a b ≡ false → a ≡ b
same true true e = refl
same true false e = absurd (grind arith)
same false true e = absurd (grind arith)
same false false e = refl
