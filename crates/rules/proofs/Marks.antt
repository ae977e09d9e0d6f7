-- The terms that are needed, marked from the last on. Assumes nothing.
use Rattle.std.proofs.Common.{◌≡◌, ℕ, suc, ◌-◌, ◌<◌, ◌≤◌, Bool, true, false, ◌≢◌, List, length, get_or, set, sym, refl, ◌∙◌, subst, inl, inr, arith, length-set, get_or-set_other, get_or-set_same}
use Rattle.std.proofs.ByRecursion.{All-weaker}
use Rattle.std.proofs.lemmas.Bool.{cases_eq, cases_lt, false≢true}
use Rattle.std.proofs.lemmas.List.Elements.{All-from_get_or}
use Rattle.std.specs.List.{All}
use Rattle.rules.specs.Numbers.{max_number}
use Rattle.rules.specs.Tests.{terms_of}
use Rattle.rules.specs.Values.{Over, among, Marked, Needed}
use Rattle.rules.specs.Terms.{named, number_in}
use Rattle.rules.specs.Sound.{needs}
use Rattle.rules.specs.declared.term.Term.{Term}
use Rattle.rules.specs.declared.term.Term.TheVariants.{Layer}
use Rattle.rules.specs.declared.rule.Rule.{Rule}
use Rattle.rules.specs.declared.rule.Test.{Test}
use Rattle.rules.specs.declared.rule.Test.TheVariants.{Wide, Apart, Inside, Never}

-- the layers of the terms can be marked
abbrev pub Markable : List Term → Type 0
Markable ts = All (λ t. number_in t ≤ max_number) ts

pub markable : (r : Rule) (ts : List Term) → ts ≡ terms_of r → Markable ts
markable r ts e = rw e (All-from_get_or (λ t. number_in t ≤ max_number) (terms_of r) (Layer 0) (λ i l. (r.sound.names i l).0))

-- one mark more
pub set_here : (need : List Bool) (a : ℕ) → a < length need → among (set need a true) a ≡ true
set_here need a l = rw get_or-set_same

pub set_keeps : (need : List Bool) (a i : ℕ) → a < length need → among need i ≡ true → among (set need a true) i ≡ true
set_keeps need a i l h = elim (cases_eq i a) [ inl e ↦ subst (λ k. among (set need a true) k ≡ true) (sym e) (set_here need a l) | inr e ↦ let ne : i ≢ a = e in rw get_or-set_other h ]

set-later : (need : List Bool) (a i : ℕ) → a < i → among (set need a true) i ≡ among need i
set-later need a i l = let ne : i ≢ a = omega arith in rw get_or-set_other

pub marked_none : (n l : ℕ) (need : List Bool) → Marked n (Layer l) need need
marked_none n l need = record { over = tt; keeps = λ i h. h; later = λ i h. refl; long = refl }

pub marked_one : (n a : ℕ) (t : Term) (need : List Bool) → a < n → n ≤ length need → ((p : ℕ → Bool) → p a ≡ true → Over p t) → Marked n t need (set need a true)
marked_one n a t need l m o = record {
  over = o (among (set need a true)) (set_here need a (omega arith));
  keeps = λ i h. set_keeps need a i (omega arith) h;
  later = λ i h. set-later need a i (omega arith);
  long = simp length-set;
}

pub marked_two : (n a b : ℕ) (t : Term) (need : List Bool) → a < n → b < n → n ≤ length need → ((p : ℕ → Bool) → p a ≡ true → p b ≡ true → Over p t) → Marked n t need (set (set need a true) b true)
marked_two n a b t need l k m o =
    let one = set need a true in
    let long : length one ≡ length need = simp length-set in
    let q : b < length one = omega arith in
    record {
      over = o (among (set one b true)) (set_keeps one b a q (set_here need a (omega arith))) (set_here one b q);
      keeps = λ i h. set_keeps one b i q (set_keeps need a i (omega arith) h);
      later = λ i h. set-later one b i (omega arith) ∙ set-later need a i (omega arith);
      long = simp length-set;
    }

-- terms from n on are closed
pub record Marking (r : Rule) (n : ℕ) (need : List Bool) : Type 0 where
  pub long : length need ≡ 16
  pub last : among need ((length (terms_of r)) - 1) ≡ true
  pub before : needs r.test ≡ 2 → among need ((length (terms_of r)) - 2) ≡ true
  pub closed : (i : ℕ) → n ≤ i → i < (length (terms_of r)) → among need i ≡ true → Over (among need) (get_or (terms_of r) i (Layer 0))

pub over-keeps : (p q : ℕ → Bool) → ((i : ℕ) → p i ≡ true → q i ≡ true) → (t : Term) → Over p t → Over q t
over-keeps p q h t o = All-weaker (λ a. p a ≡ true) (λ a. q a ≡ true) h (named t) o

pub mark-needed : (r : Rule) (k : ℕ) (need need' : List Bool) → Marking r (suc k) need → Marked k (get_or (terms_of r) k (Layer 0)) need need' → Marking r k need'
mark-needed r k need need' h m = record {
  long = m.long ∙ h.long;
  last = m.keeps ((length (terms_of r)) - 1) h.last;
  before = λ e. m.keeps ((length (terms_of r)) - 2) (h.before e);
  closed = λ i l q t. elim (cases_eq i k) [
    | inl e ↦ subst (λ j. Over (among need') (get_or (terms_of r) j (Layer 0))) (sym e) m.over
    | inr e ↦ over-keeps (among need) (among need') m.keeps (get_or (terms_of r) i (Layer 0)) (h.closed i (elim (cases_lt k i) [ inl s ↦ s | inr s ↦ absurd (e (omega arith)) ]) q (sym (m.later i l) ∙ t))
  ];
}

pub mark-not : (r : Rule) (k : ℕ) (need : List Bool) → Marking r (suc k) need → among need k ≡ false → Marking r k need
mark-not r k need h f = record {
  long = h.long;
  last = h.last;
  before = h.before;
  closed = λ i l q t. elim (cases_eq i k) [
    | inl e ↦ absurd (false≢true (sym f ∙ subst (λ j. among need j ≡ true) e t))
    | inr e ↦ h.closed i (elim (cases_lt k i) [ inl s ↦ s | inr s ↦ absurd (e (omega arith)) ]) q t
  ];
}

pub mark-all : (r : Rule) (need : List Bool) → Marking r 0 need → Needed r need
mark-all r need h = record { last = h.last; before = h.before; closed = λ i l t. h.closed i (omega arith) l t }

-- the meant terms
pub needs_two : (t : Test) → needs t ≡ 2 → (n : ℕ) × (t ≡ Inside n)
needs_two (Wide n) e = absurd (omega arith)
needs_two (Apart n) e = absurd (omega arith)
needs_two (Inside n) e = (n, refl)
needs_two Never e = absurd (omega arith)

pub needs-some : (t : Test) → 0 < needs t
needs-some (Wide n) = omega arith
needs-some (Apart n) = omega arith
needs-some (Inside n) = omega arith
needs-some Never = omega arith

pub mark-last : (r : Rule) (base : List Bool) → length base ≡ 16 → ((n : ℕ) → r.test ≡ Inside n → ⊥) → Marking r (length (terms_of r)) (set base ((length (terms_of r)) - 1) true)
mark-last r base l n =
    let few = r.sound.few in
    let some = needs-some r.test in
    let enough = r.sound.enough in
    record {
      long = simp length-set l;
      last = set_here base ((length (terms_of r)) - 1) (omega arith);
      before = λ e. let w = needs_two r.test e in absurd (n w.0 w.1);
      closed = λ i k q t. absurd (omega arith);
    }

pub mark-both : (r : Rule) (base : List Bool) (n : ℕ) → length base ≡ 16 → r.test ≡ Inside n → Marking r (length (terms_of r)) (set (set base ((length (terms_of r)) - 1) true) ((length (terms_of r)) - 2) true)
mark-both r base n l e =
    let few = r.sound.few in
    let enough : 2 ≤ (length (terms_of r)) = subst (λ t. needs t ≤ (length (terms_of r))) e r.sound.enough in
    let long : length (set base ((length (terms_of r)) - 1) true) ≡ 16 = simp length-set l in
    record {
      long = simp length-set l;
      last = set_keeps _ ((length (terms_of r)) - 2) ((length (terms_of r)) - 1) (omega arith) (set_here base ((length (terms_of r)) - 1) (omega arith));
      before = λ q. set_here _ ((length (terms_of r)) - 2) (omega arith);
      closed = λ i k q t. absurd (omega arith);
    }
