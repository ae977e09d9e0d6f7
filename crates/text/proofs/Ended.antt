-- What is read names cells that have ended. Assumes nothing.
use Rattle.std.proofs.Common.{◌≡◌, ℕ, ◌+◌, ◌<◌, ◌≤◌, Bool, true, cond, ltb, List, [], ◌∷◌, ◌++◌, length, get_or, Some, None, Ok, Err, Option, Result, sym, refl, ap, ◌∙◌, subst, inl, inr, arith}
use Rattle.std.proofs.lemmas.List.{length_push, get_or_push, get_or_append_left}
use Rattle.std.proofs.lemmas.Bool.{cases_Bool, cases_eq, ltb-true, ltb-false}
use Rattle.words.specs.Places.{place_of}
use Rattle.words.specs.Lines.{last_line}
use Rattle.words.specs.Words.{Token, words_of}
use Rattle.words.specs.declared.word.Marks.TheVariants.{Braces}
use Rattle.words.specs.Steps.{by_some, and_then}
use Rattle.text.specs.Keywords.{keyword_of, slots, slot_at, statement_of}
use Rattle.text.specs.Readings.{State, Started, start, finished, said_in, inside, may_begin, value_of, closed_by, completed, waiting, settled, begin, noted, valued, go_on, accept, read}
use Rattle.text.proofs.Cells.{NamesEnded, ends, AllEnded}
use Rattle.text.specs.declared.keyword.Keyword.{Keyword}
use Rattle.text.specs.declared.keyword.Slot.{Slot}
use Rattle.text.specs.declared.keyword.Keyword.TheVariants as key
use Rattle.text.specs.declared.keyword.Slot.TheVariants as slot
use Rattle.text.specs.declared.statement.Said.{Said}

-- how many cells end
pub ends_in : List Said → ℕ
ends_in [] = 0
ends_in (t ∷ ts) = ends t.statement + ends_in ts

ends-push : (ss : List Said) (x : Said) → ends_in (ss ++ x ∷ []) ≡ ends_in ss + ends x.statement
unfolding ends_in
ends-push [] x = omega arith
ends-push (t ∷ ts) x = omega (arith, ends-push ts x)

ended-push : (n : ℕ) (ss : List Said) (x : Said) → AllEnded n ss → NamesEnded (n + ends_in ss) x.statement → AllEnded n (ss ++ x ∷ [])
unfolding ends_in AllEnded
ended-push n [] x h w = let e : n + 0 ≡ n = omega arith in (subst (λ (u : ℕ). NamesEnded u x.statement) e w, tt)
ended-push n (t ∷ ts) x h w =
    let e : n + (ends t.statement + ends_in ts) ≡ n + ends t.statement + ends_in ts = omega arith in
    (h.0, ended-push (n + ends t.statement) ts x h.1 (subst (λ (u : ℕ). NamesEnded u x.statement) e w))

-- a put that has named its cell
abbrev pub Half : Keyword → ℕ → List ℕ → Type 0
Half key.Box c vs = Unit {0}
Half key.Cell c vs = Unit {0}
Half key.Close c vs = Unit {0}
Half key.Put c vs = 0 < length vs → get_or vs 0 0 < c
Half key.Turned c vs = Unit {0}
Half key.Mirrored c vs = Unit {0}
Half key.Row c vs = Unit {0}
Half key.Column c vs = Unit {0}
Half key.Pin c vs = Unit {0}

-- a statement with all its values
abbrev Fin : Keyword → ℕ → List ℕ → Bool → Type 0
Fin key.Box c vs b = Unit {0}
Fin key.Cell c vs b = Unit {0}
Fin key.Close c vs b = b ≡ true
Fin key.Put c vs b = get_or vs 0 0 < c
Fin key.Turned c vs b = Unit {0}
Fin key.Mirrored c vs b = Unit {0}
Fin key.Row c vs b = get_or vs 2 0 < c
Fin key.Column c vs b = get_or vs 2 0 < c
Fin key.Pin c vs b = Unit {0}

abbrev Begun-half : Option Started → ℕ → Type 0
Begun-half None c = Unit {0}
Begun-half (Some b) c = Half b.keyword c b.values

pub record Sane (s : State) : Type 0 where
  pub ended : AllEnded 0 s.said
  pub count : s.closed ≡ ends_in s.said
  pub half : Begun-half s.begun s.closed

module _ (s : State) (ended : AllEnded 0 s.said) (count : s.closed ≡ ends_in s.said) where
  module _ (l : ℕ) (vs : List ℕ) where
    this : Keyword → Started
    this k = record { keyword = k; line = l; values = vs }

    done-sane : (k : Keyword) → NamesEnded s.closed (statement_of k vs) → closed_by s k ≡ s.closed + ends (statement_of k vs) → Sane (completed s (this k))
    unfolding this
    done-sane k w c =
        let x : Said = record { statement = statement_of k vs; line = l } in
        let e : s.closed ≡ 0 + ends_in s.said = omega arith in
        record { ended = ended-push 0 s.said x ended (subst (λ (u : ℕ). NamesEnded u (statement_of k vs)) e w); count = c ∙ omega (arith, ends-push s.said x); half = tt }

    completed-sane : (k : Keyword) → Fin k s.closed vs (inside s) → Sane (completed s (this k))
    completed-sane key.Box f = done-sane key.Box tt (omega arith)
    completed-sane key.Cell f = done-sane key.Cell tt (omega arith)
    completed-sane key.Close f = done-sane key.Close tt (ap (λ b. cond b (s.closed + 1) s.closed) f)
    completed-sane key.Put f = done-sane key.Put f (omega arith)
    completed-sane key.Turned f = done-sane key.Turned tt (omega arith)
    completed-sane key.Mirrored f = done-sane key.Mirrored tt (omega arith)
    completed-sane key.Row f = done-sane key.Row f (omega arith)
    completed-sane key.Column f = done-sane key.Column f (omega arith)
    completed-sane key.Pin f = done-sane key.Pin tt (omega arith)

  settle-sane : (b : Started) → Half b.keyword s.closed b.values → (length (slots b.keyword) ≤ length b.values → Fin b.keyword s.closed b.values (inside s)) → Sane (settled s b)
  unfolding this
  settle-sane b h f = elim (cases_Bool (ltb (length b.values) (length (slots b.keyword)))) [
    | inl e ↦
        let w : Sane (waiting s (Some b)) = record { ended = ended; count = count; half = h } in
        subst Sane (sym (ap (λ t. cond t (waiting s (Some b)) (completed s b)) e)) w
    | inr e ↦ subst Sane (sym (ap (λ t. cond t (waiting s (Some b)) (completed s b)) e)) (completed-sane b.line b.values b.keyword (f (ltb-false _ _ e)))
  ]

-- a statement begins
fresh-half : (k : Keyword) (c : ℕ) → Half k c []
fresh-half key.Box c = tt
fresh-half key.Cell c = tt
fresh-half key.Close c = tt
fresh-half key.Put c = λ h. absurd (omega arith)
fresh-half key.Turned c = tt
fresh-half key.Mirrored c = tt
fresh-half key.Row c = tt
fresh-half key.Column c = tt
fresh-half key.Pin c = tt

fresh-fin : (s : State) (k : Keyword) → may_begin s k ≡ true → length (slots k) ≤ 0 → Fin k s.closed [] (inside s)
fresh-fin s key.Box m h = tt
fresh-fin s key.Cell m h = tt
fresh-fin s key.Close m h = m
fresh-fin s key.Put m h = absurd (omega arith)
fresh-fin s key.Turned m h = tt
fresh-fin s key.Mirrored m h = tt
fresh-fin s key.Row m h = absurd (omega arith)
fresh-fin s key.Column m h = absurd (omega arith)
fresh-fin s key.Pin m h = tt

same_ok : {a b : State} → ◌≡◌ {A = Result State ℕ} (Ok a) (Ok b) → a ≡ b
same_ok e = cc

never-ok : {n : ℕ} {b : State} → ◌≡◌ {A = Result State ℕ} (Err n) (Ok b) → ⊥
never-ok e = let z : ◌≡◌ {A = ℕ} 0 1 = cc in omega arith

abbrev blank-one : Keyword → ℕ → Started
blank-one k n = record { keyword = k; line = n; values = [] }

begin-by : (s z : State) (n : ℕ) → Sane s → (o : Option Keyword) → by_some o (Err n) (λ k. cond (may_begin s k) (Ok (settled s (blank-one k n))) (Err n)) ≡ Ok z → Sane z
begin-by s z n h None e = absurd (never-ok e)
begin-by s z n h (Some k) e = elim (cases_Bool (may_begin s k)) [
  | inl t ↦
      let same : settled s (blank-one k n) ≡ z = same_ok (sym (ap (λ b. cond b (Ok (settled s (blank-one k n))) (Err n)) t) ∙ e) in
      subst Sane same (settle-sane s h.ended h.count (blank-one k n) (fresh-half k s.closed) (fresh-fin s k t))
  | inr t ↦ absurd (never-ok (sym (ap (λ b. cond b (Ok (settled s (blank-one k n))) (Err n)) t) ∙ e))
]

-- it goes on
slot_in : (ss : List Slot) (m : ℕ) (p : Slot) → slot_at ss m ≡ Some p → (m < length ss) × (get_or ss m slot.Number ≡ p)
slot_in ss m p e = elim (cases_Bool (ltb m (length ss))) [
  | inl t ↦
      let same : ◌≡◌ {A = Option Slot} (Some (get_or ss m slot.Number)) (Some p) = sym (ap (λ b. cond b (Some (get_or ss m slot.Number)) None) t) ∙ e in
      (ltb-true m (length ss) t, cc)
  | inr t ↦ absurd (none (sym (ap (λ b. cond b (Some (get_or ss m slot.Number)) None) t) ∙ e))
]
  where
    none : ◌≡◌ {A = Option Slot} None (Some p) → ⊥
    none q = let z : ◌≡◌ {A = ℕ} 0 1 = cc in omega arith

cell-by : (c v : ℕ) (o : Option ℕ) → by_some o None (λ k. cond (ltb k c) (Some k) None) ≡ Some v → v < c
cell-by c v None e = let z : ◌≡◌ {A = ℕ} 0 1 = cc in absurd (omega arith)
cell-by c v (Some k) e = elim (cases_Bool (ltb k c)) [
  | inl t ↦ let same : ◌≡◌ {A = Option ℕ} (Some k) (Some v) = sym (ap (λ b. cond b (Some k) None) t) ∙ e in let q : k ≡ v = cc in omega (arith, ltb-true k c t)
  | inr t ↦ let same : ◌≡◌ {A = Option ℕ} None (Some v) = sym (ap (λ b. cond b (Some k) None) t) ∙ e in let z : ◌≡◌ {A = ℕ} 0 1 = cc in absurd (omega arith)
]

cell-value : (s : State) (w : List ℕ) (v : ℕ) → value_of s slot.Cell w ≡ Some v → v < s.closed
cell-value s w v e = cell-by s.closed v (place_of s.cells w) e

module _ (s : State) (vs : List ℕ) (w : List ℕ) (v : ℕ) (p : Slot) (here : value_of s p w ≡ Some v) where
  last-cell : (k : Keyword) (m : ℕ) → slot_at (slots k) (length vs) ≡ Some p → length vs ≡ m → get_or (slots k) m slot.Number ≡ slot.Cell → get_or (vs ++ v ∷ []) m 0 < s.closed
  last-cell k m e l c =
      let is : p ≡ slot.Cell = sym (slot_in (slots k) (length vs) p e).1 ∙ ap (λ i. get_or (slots k) i slot.Number) l ∙ c in
      let low = cell-value s w v (subst (λ (q : Slot). value_of s q w ≡ Some v) is here) in
      omega (arith, get_or_push vs v 0 m l)

  put_first : slot_at (slots key.Put) (length vs) ≡ Some p → (0 < length vs → get_or vs 0 0 < s.closed) → get_or (vs ++ v ∷ []) 0 0 < s.closed
  put_first e h = elim (cases_eq (length vs) 0) [
    | inl l ↦ last-cell key.Put 0 e l refl
    | inr l ↦ omega (arith, h (omega arith), get_or_append_left vs (v ∷ []) 0 0 (omega arith))
  ]

  next-half : (k : Keyword) → slot_at (slots k) (length vs) ≡ Some p → Half k s.closed vs → Half k s.closed (vs ++ v ∷ [])
  next-half key.Box e h = tt
  next-half key.Cell e h = tt
  next-half key.Close e h = tt
  next-half key.Put e h = λ q. put_first e h
  next-half key.Turned e h = tt
  next-half key.Mirrored e h = tt
  next-half key.Row e h = tt
  next-half key.Column e h = tt
  next-half key.Pin e h = tt

  next-fin : (b : Bool) (k : Keyword) → slot_at (slots k) (length vs) ≡ Some p → Half k s.closed vs → length (slots k) ≤ length (vs ++ v ∷ []) → Fin k s.closed (vs ++ v ∷ []) b
  next-fin b key.Box e h l = tt
  next-fin b key.Cell e h l = tt
  next-fin b key.Close e h l = absurd (omega (arith, (slot_in (slots key.Close) (length vs) p e).0))
  next-fin b key.Put e h l = put_first e h
  next-fin b key.Turned e h l = tt
  next-fin b key.Mirrored e h l = tt
  next-fin b key.Row e h l = last-cell key.Row 2 e (omega (arith, length_push vs v, (slot_in (slots key.Row) (length vs) p e).0)) refl
  next-fin b key.Column e h l = last-cell key.Column 2 e (omega (arith, length_push vs v, (slot_in (slots key.Column) (length vs) p e).0)) refl
  next-fin b key.Pin e h l = tt

noted_sane : (s : State) (p : Slot) (w : List ℕ) (b : Started) → Sane s → Half b.keyword s.closed b.values → ((t : Bool) → length (slots b.keyword) ≤ length b.values → Fin b.keyword s.closed b.values t) → Sane (settled (noted s p w) b)
noted_sane s slot.Number w b h a f = settle-sane s h.ended h.count b a (f _)
noted_sane s slot.Cell w b h a f = settle-sane s h.ended h.count b a (f _)
noted_sane s slot.NewCell w b h a f = settle-sane (noted s slot.NewCell w) h.ended h.count b a (f _)
noted_sane s slot.NewPin w b h a f = settle-sane (noted s slot.NewPin w) h.ended h.count b a (f _)
noted_sane s slot.At w b h a f = settle-sane s h.ended h.count b a (f _)
noted_sane s slot.Open w b h a f = settle-sane s h.ended h.count b a (f _)

module _ (s z : State) (b : Started) (w : List ℕ) (n : ℕ) (h : Sane s) (half : Half b.keyword s.closed b.values) where
  value-by : (p : Slot) → slot_at (slots b.keyword) (length b.values) ≡ Some p → (o : Option ℕ) → value_of s p w ≡ o → by_some o (Err n) (λ v. Ok (settled (noted s p w) (valued b v))) ≡ Ok z → Sane z
  value-by p e None q t = absurd (never-ok t)
  value-by p e (Some v) q t = subst Sane (same_ok t) (noted_sane s p w (valued b v) h (next-half s b.values w v p q b.keyword e half) (λ c l. next-fin s b.values w v p q c b.keyword e half l))

  slot_by : (o : Option Slot) → slot_at (slots b.keyword) (length b.values) ≡ o → by_some o (Err n) (λ p. by_some (value_of s p w) (Err n) (λ v. Ok (settled (noted s p w) (valued b v)))) ≡ Ok z → Sane z
  slot_by None q t = absurd (never-ok t)
  slot_by (Some p) q t = value-by p q (value_of s p w) refl t

accept-by : (s z : State) (w : List ℕ) (n : ℕ) → Sane s → (o : Option Started) → s.begun ≡ o → by_some o (begin s w n) (λ b. go_on (waiting s None) b w n) ≡ Ok z → Sane z
accept-by s z w n h None e t = begin-by s z n h (keyword_of w) t
accept-by s z w n h (Some b) e t =
    let idle : Sane (waiting s None) = record { ended = h.ended; count = h.count; half = tt } in
    slot_by (waiting s None) z b w n idle (subst (λ (u : Option Started). Begun-half u s.closed) e h.half) (slot_at (slots b.keyword) (length b.values)) refl t

read_by : (s z : State) (ts : List Token) (r : Result State ℕ) → ((y : State) → r ≡ Ok y → read y ts ≡ Ok z → Sane z) → and_then r (λ y. read y ts) ≡ Ok z → Sane z
read_by s z ts (Ok y) f e = f y refl e
read_by s z ts (Err n) f e = absurd (never-ok e)

pub read-sane : (ts : List Token) (s z : State) → Sane s → read s ts ≡ Ok z → Sane z
unfolding read
read-sane [] s z h e = subst Sane (same_ok e) h
read-sane (t ∷ ts) s z h e = read_by s z ts (accept s t.bytes t.line) (λ y a r. read-sane ts y z (accept-by s y t.bytes t.line h s.begun refl a) r) e

pub start-sane : Sane start
unfolding AllEnded ends_in
start-sane = record { ended = tt; count = refl; half = tt }

pub said-sane : (text : List ℕ) (z : State) → said_in text ≡ Ok z → Sane z
said-sane text z e = whole (read start (words_of Braces text)) refl e
  where
    whole : (r : Result State ℕ) → read start (words_of Braces text) ≡ r → and_then r (λ s. cond (finished s) (Ok s) (Err (last_line text))) ≡ Ok z → Sane z
    whole (Err n) q t = absurd (never-ok t)
    whole (Ok s) q t = elim (cases_Bool (finished s)) [
      | inl f ↦ subst Sane (same_ok (sym (ap (λ b. cond b (Ok s) (Err (last_line text))) f) ∙ t)) (read-sane (words_of Braces text) start s start-sane q)
      | inr f ↦ absurd (never-ok (sym (ap (λ b. cond b (Ok s) (Err (last_line text))) f) ∙ t))
    ]
