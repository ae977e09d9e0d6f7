-- A region that is spelled is read as its nodes. Assumes nothing.
use Rattle.std.proofs.Common.{◌≡◌, ℕ, zero, suc, ◌+◌, ◌-◌, ◌*◌, ◌/◌, ◌≤◌, false, cond, eqb, List, [], ◌∷◌, ◌++◌, length, get_or, take, Some, None, codes, Option, sym, refl, ap, ◌∙◌, inl, inr, arith}
use Rattle.std.proofs.lemmas.Slice.Eq.{bytes_eq-Decides}
use Rattle.std.proofs.lemmas.List.{append_assoc, length-append, length_push, get_or_push, take_at}
use Rattle.std.proofs.lemmas.Bool.{cases_Bool, ne_eqb}
use Rattle.std.specs.Str.{bytes_eq}
use Rattle.words.specs.Numbers.{number_in, all_digits}
use Rattle.words.specs.Words.{Token}
use Rattle.words.specs.Steps.{by_some}
use Rattle.rule_text.specs.Operators.{operator_of, number_of}
use Rattle.rule_text.specs.Expressions.{Reading, Found, joins, added, opened, operated, ended, further_in, accept, is_done, region_from}
use Rattle.rule_text.specs.Regions.{Joint, Tree, and, or, without, layer, two, grown, word_of, kind_of, Spells, count, numbered, ReadsSpelled, ReadsOnlySpelled}
use Rattle.rule_text.specs.declared.operator.Operator.{Operator}
use Rattle.rule_text.specs.declared.operator.Operator.TheVariants as operator
use Rattle.rule_text.specs.declared.expression.Frame.{Frame}
use Rattle.rule_text.specs.declared.expression.Frame.TheVariants as frame
use Rattle.rule_text.specs.declared.expression.Awaits.{Awaits}
use Rattle.rule_text.specs.declared.expression.Awaits.TheVariants as awaits

abbrev at_state : List ℕ → List Frame → Awaits → Reading
at_state ns fs a = record { nodes = ns; frames = fs; next = a }

abbrev after : List Frame → Awaits
after fs = cond (eqb (length fs) 0) awaits.Nothing awaits.Further

-- what is read after a word
abbrev going : Reading → List Token → Option Found
going z ts = cond (is_done z) (Some (record { nodes = z.nodes; rest = ts })) (region_from z ts)

step : (e z : Reading) (t : Token) (ts : List Token) → accept e t.bytes ≡ Some z → region_from e (t ∷ ts) ≡ going z ts
unfolding region_from
step e z t ts a = ap (λ o. by_some o None (λ u. going u ts)) a

-- the innermost of some frames
module _ (fs : List Frame) (f : Frame) where
  some-open : eqb (length (fs ++ f ∷ [])) 0 ≡ false
  some-open = ne_eqb _ 0 (λ e. let z : 1 ≤ 0 = omega (arith, length_push fs f) in omega arith)

  after-some : after (fs ++ f ∷ []) ≡ awaits.Further
  after-some = ap (λ t. cond t awaits.Nothing awaits.Further) some-open

  count_less : length (fs ++ f ∷ []) - 1 ≡ length fs
  count_less = omega (arith, length_push fs f)

  further-at : (ns : List ℕ) (w : List ℕ) → accept (at_state ns (fs ++ f ∷ []) awaits.Further) w ≡ further_in (at_state ns fs awaits.Further) w f
  further-at ns w =
      let last : get_or (fs ++ f ∷ []) (length (fs ++ f ∷ []) - 1) frame.Open ≡ f = ap (λ n. get_or (fs ++ f ∷ []) n frame.Open) count_less ∙ get_or_push fs f frame.Open (length fs) refl in
      let below : take (length (fs ++ f ∷ []) - 1) (fs ++ f ∷ []) ≡ fs = ap (λ n. take n (fs ++ f ∷ [])) count_less ∙ take_at fs (f ∷ []) (length fs) refl in
      ap (λ t. by_some (cond t None (Some (get_or (fs ++ f ∷ []) (length (fs ++ f ∷ []) - 1) frame.Open))) None (further_in (at_state ns (take (length (fs ++ f ∷ []) - 1) (fs ++ f ∷ [])) awaits.Further) w)) some-open
      ∙ ap (λ g. further_in (at_state ns (take (length (fs ++ f ∷ []) - 1) (fs ++ f ∷ [])) awaits.Further) w g) last
      ∙ ap (λ gs. further_in (at_state ns gs awaits.Further) w f) below

-- the words
layer-word : (ns : List ℕ) (fs : List Frame) (w : List ℕ) (n : ℕ) → number_in w ≡ Some n → accept (at_state ns fs awaits.Operand) w ≡ Some (at_state (ns ++ (0 ∷ n ∷ 0 ∷ [])) fs (after fs))
unfolding all_digits
layer-word ns fs w n e = elim (cases_Bool (bytes_eq w (codes "("))) [
  | inl t ↦ let same : number_in w ≡ None = ap number_in ((bytes_eq-Decides w (codes "(")).0 t) in let z : ◌≡◌ {A = ℕ} 0 1 = cc in absurd (omega arith)
  | inr t ↦
      ap (λ u. cond u (Some (opened (at_state ns fs awaits.Operand) frame.Open)) (by_some (number_in w) None (λ l. Some (added (at_state ns fs awaits.Operand) (0 ∷ l ∷ 0 ∷ []))))) t
      ∙ ap (λ o. by_some o None (λ l. Some (added (at_state ns fs awaits.Operand) (0 ∷ l ∷ 0 ∷ [])))) e
]

open_word : (ns : List ℕ) (fs : List Frame) (w : List ℕ) → w ≡ codes "(" → accept (at_state ns fs awaits.Operand) w ≡ Some (at_state ns (fs ++ frame.Open ∷ []) awaits.Operand)
open_word ns fs w e = ap (accept (at_state ns fs awaits.Operand)) e

operator_for : Joint → Operator
operator_for and = operator.And
operator_for or = operator.Or
operator_for without = operator.Without

joint_word : (ns : List ℕ) (fs : List Frame) (w : List ℕ) (j : Joint) → w ≡ word_of j → accept (at_state ns (fs ++ frame.Open ∷ []) awaits.Further) w ≡ Some (at_state ns (fs ++ frame.Two (operator_for j) (length ns / 3 - 1) ∷ []) awaits.Operand)
unfolding operator_for
joint_word ns fs w and e = further-at fs frame.Open ns w ∙ ap (operated (at_state ns fs awaits.Further)) e
joint_word ns fs w or e = further-at fs frame.Open ns w ∙ ap (operated (at_state ns fs awaits.Further)) e
joint_word ns fs w without e = further-at fs frame.Open ns w ∙ ap (operated (at_state ns fs awaits.Further)) e

grown-word : (ns : List ℕ) (fs : List Frame) (w : List ℕ) → w ≡ codes "grown" → accept (at_state ns (fs ++ frame.Open ∷ []) awaits.Further) w ≡ Some (at_state ns fs awaits.Growth)
grown-word ns fs w e = further-at fs frame.Open ns w ∙ ap (operated (at_state ns fs awaits.Further)) e

growth_word : (ns : List ℕ) (fs : List Frame) (w : List ℕ) (n : ℕ) → number_in w ≡ Some n → accept (at_state ns fs awaits.Growth) w ≡ Some (at_state ns (fs ++ frame.Grown n (length ns / 3 - 1) ∷ []) awaits.Further)
growth_word ns fs w n e = ap (λ o. by_some o None (λ m. Some (at_state ns (fs ++ frame.Grown m (length ns / 3 - 1) ∷ []) awaits.Further))) e

close-two : (ns : List ℕ) (fs : List Frame) (w : List ℕ) (j : Joint) (l : ℕ) → w ≡ codes ")" → accept (at_state ns (fs ++ frame.Two (operator_for j) l ∷ []) awaits.Further) w ≡ Some (at_state (ns ++ (kind_of j ∷ l ∷ (length ns / 3 - 1) ∷ [])) fs (after fs))
unfolding operator_for
close-two ns fs w and l e = further-at fs (frame.Two operator.And l) ns w ∙ ap (λ u. ended (at_state ns fs awaits.Further) u (1 ∷ l ∷ (length ns / 3 - 1) ∷ [])) e
close-two ns fs w or l e = further-at fs (frame.Two operator.Or l) ns w ∙ ap (λ u. ended (at_state ns fs awaits.Further) u (2 ∷ l ∷ (length ns / 3 - 1) ∷ [])) e
close-two ns fs w without l e = further-at fs (frame.Two operator.Without l) ns w ∙ ap (λ u. ended (at_state ns fs awaits.Further) u (3 ∷ l ∷ (length ns / 3 - 1) ∷ [])) e

close-grown : (ns : List ℕ) (fs : List Frame) (w : List ℕ) (n a : ℕ) → w ≡ codes ")" → accept (at_state ns (fs ++ frame.Grown n a ∷ []) awaits.Further) w ≡ Some (at_state (ns ++ (4 ∷ n ∷ a ∷ [])) fs (after fs))
close-grown ns fs w n a e = further-at fs (frame.Grown n a) ns w ∙ ap (λ u. ended (at_state ns fs awaits.Further) u (4 ∷ n ∷ a ∷ [])) e

pub long : (k : ℕ) (r : Tree) → length (numbered k r) ≡ 3 * count r
unfolding numbered count
long k (layer n) = refl
long k (two j a b) =
    omega (arith, length-append (numbered k a ++ numbered (k + count a) b) (kind_of j ∷ (k + count a - 1) ∷ (k + count a + count b - 1) ∷ []), length-append (numbered k a) (numbered (k + count a) b), long k a, long (k + count a) b)
long k (grown n a) = omega (arith, length-append (numbered k a) (4 ∷ n ∷ (k + count a - 1) ∷ []), long k a)

pub reads : (r : Tree) (ts rest : List Token) (ns : List ℕ) (k : ℕ) (fs : List Frame) → length ns ≡ 3 * k → Spells r ts → region_from (at_state ns fs awaits.Operand) (ts ++ rest) ≡ going (at_state (ns ++ numbered k r) fs (after fs)) rest
unfolding Spells numbered count
reads (layer n) ts rest ns k fs h s =
    ap (λ us. region_from (at_state ns fs awaits.Operand) (us ++ rest)) s.1 ∙ step (at_state ns fs awaits.Operand) (at_state (ns ++ (0 ∷ n ∷ 0 ∷ [])) fs (after fs)) s.0 rest (layer-word ns fs s.0.bytes n s.2)
reads (two j a b) ts rest ns k fs h s =
    let p = s.0 in let as' = s.1 in let q = s.2 in let bs = s.3 in let r = s.4 in
    let nsA = ns ++ numbered k a in
    let nsB = nsA ++ numbered (k + count a) b in
    let hA : length nsA ≡ 3 * (k + count a) = omega (arith, length-append ns (numbered k a), long k a) in
    let hB : length nsB ≡ 3 * (k + count a + count b) = omega (arith, length-append nsA (numbered (k + count a) b), long (k + count a) b) in
    let left : length nsA / 3 - 1 ≡ k + count a - 1 = omega arith in
    let right : length nsB / 3 - 1 ≡ k + count a + count b - 1 = omega arith in
    let f = frame.Two (operator_for j) (length nsA / 3 - 1) in
    let words : (as' ++ (q ∷ (bs ++ (r ∷ [])))) ++ rest ≡ as' ++ (q ∷ (bs ++ (r ∷ rest))) = append_assoc as' (q ∷ (bs ++ (r ∷ []))) rest ∙ ap (λ us. as' ++ (q ∷ us)) (append_assoc bs (r ∷ []) rest) in
    let nodes : nsB ++ (kind_of j ∷ (length nsA / 3 - 1) ∷ (length nsB / 3 - 1) ∷ []) ≡ ns ++ ((numbered k a ++ numbered (k + count a) b) ++ (kind_of j ∷ (k + count a - 1) ∷ (k + count a + count b - 1) ∷ [])) =
    ap (λ x. nsB ++ (kind_of j ∷ x ∷ (length nsB / 3 - 1) ∷ [])) left ∙ ap (λ x. nsB ++ (kind_of j ∷ (k + count a - 1) ∷ x ∷ [])) right
    ∙ ap (λ us. us ++ (kind_of j ∷ (k + count a - 1) ∷ (k + count a + count b - 1) ∷ [])) (append_assoc ns (numbered k a) (numbered (k + count a) b))
    ∙ append_assoc ns (numbered k a ++ numbered (k + count a) b) (kind_of j ∷ (k + count a - 1) ∷ (k + count a + count b - 1) ∷ []) in
    ap (λ us. region_from (at_state ns fs awaits.Operand) (us ++ rest)) s.5
    ∙ step (at_state ns fs awaits.Operand) (at_state ns (fs ++ frame.Open ∷ []) awaits.Operand) p ((as' ++ (q ∷ (bs ++ (r ∷ [])))) ++ rest) (open_word ns fs p.bytes s.6)
    ∙ ap (region_from (at_state ns (fs ++ frame.Open ∷ []) awaits.Operand)) words
    ∙ reads a as' (q ∷ (bs ++ (r ∷ rest))) ns k (fs ++ frame.Open ∷ []) h s.7
    ∙ ap (λ x. going (at_state nsA (fs ++ frame.Open ∷ []) x) (q ∷ (bs ++ (r ∷ rest)))) (after-some fs frame.Open)
    ∙ step (at_state nsA (fs ++ frame.Open ∷ []) awaits.Further) (at_state nsA (fs ++ f ∷ []) awaits.Operand) q (bs ++ (r ∷ rest)) (joint_word nsA fs q.bytes j s.8)
    ∙ reads b bs (r ∷ rest) nsA (k + count a) (fs ++ f ∷ []) hA s.9
    ∙ ap (λ x. going (at_state nsB (fs ++ f ∷ []) x) (r ∷ rest)) (after-some fs f)
    ∙ step (at_state nsB (fs ++ f ∷ []) awaits.Further) (at_state (nsB ++ (kind_of j ∷ (length nsA / 3 - 1) ∷ (length nsB / 3 - 1) ∷ [])) fs (after fs)) r rest (close-two nsB fs r.bytes j (length nsA / 3 - 1) s.10)
    ∙ ap (λ us. going (at_state us fs (after fs)) rest) nodes
reads (grown n a) ts rest ns k fs h s =
    let p = s.0 in let as' = s.1 in let q = s.2 in let m = s.3 in let r = s.4 in
    let nsA = ns ++ numbered k a in
    let hA : length nsA ≡ 3 * (k + count a) = omega (arith, length-append ns (numbered k a), long k a) in
    let left : length nsA / 3 - 1 ≡ k + count a - 1 = omega arith in
    let f = frame.Grown n (length nsA / 3 - 1) in
    let words : (as' ++ (q ∷ (m ∷ (r ∷ [])))) ++ rest ≡ as' ++ (q ∷ (m ∷ (r ∷ rest))) = append_assoc as' (q ∷ (m ∷ (r ∷ []))) rest in
    let nodes : nsA ++ (4 ∷ n ∷ (length nsA / 3 - 1) ∷ []) ≡ ns ++ (numbered k a ++ (4 ∷ n ∷ (k + count a - 1) ∷ [])) =
    ap (λ x. nsA ++ (4 ∷ n ∷ x ∷ [])) left ∙ append_assoc ns (numbered k a) (4 ∷ n ∷ (k + count a - 1) ∷ []) in
    ap (λ us. region_from (at_state ns fs awaits.Operand) (us ++ rest)) s.5
    ∙ step (at_state ns fs awaits.Operand) (at_state ns (fs ++ frame.Open ∷ []) awaits.Operand) p ((as' ++ (q ∷ (m ∷ (r ∷ [])))) ++ rest) (open_word ns fs p.bytes s.6)
    ∙ ap (region_from (at_state ns (fs ++ frame.Open ∷ []) awaits.Operand)) words
    ∙ reads a as' (q ∷ (m ∷ (r ∷ rest))) ns k (fs ++ frame.Open ∷ []) h s.7
    ∙ ap (λ x. going (at_state nsA (fs ++ frame.Open ∷ []) x) (q ∷ (m ∷ (r ∷ rest)))) (after-some fs frame.Open)
    ∙ step (at_state nsA (fs ++ frame.Open ∷ []) awaits.Further) (at_state nsA fs awaits.Growth) q (m ∷ (r ∷ rest)) (grown-word nsA fs q.bytes s.8)
    ∙ step (at_state nsA fs awaits.Growth) (at_state nsA (fs ++ f ∷ []) awaits.Further) m (r ∷ rest) (growth_word nsA fs m.bytes n s.9)
    ∙ step (at_state nsA (fs ++ f ∷ []) awaits.Further) (at_state (nsA ++ (4 ∷ n ∷ (length nsA / 3 - 1) ∷ [])) fs (after fs)) r rest (close-grown nsA fs r.bytes n (length nsA / 3 - 1) s.10)
    ∙ ap (λ us. going (at_state us fs (after fs)) rest) nodes

pub reads_spelled : ReadsSpelled
reads_spelled r ts rest ns k h s = reads r ts rest ns k [] h s

-- what is read was spelled: the tree, its words, what is left, and how the reading goes on
record Came (ts : List Token) (ns : List ℕ) (k : ℕ) (fs : List Frame) (f : Found) : Type 0 where
  tree : Tree
  used : List Token
  rest : List Token
  split : ts ≡ used ++ rest
  spells : Spells tree used
  goes : going (at_state (ns ++ numbered k tree) fs (after fs)) rest ≡ Some f

never-some : {A : Type 0} {x : A} → ◌≡◌ {A = Option A} None (Some x) → ⊥
never-some e = let z : ◌≡◌ {A = ℕ} 0 1 = cc in omega arith

same_some : {A : Type 0} {x y : A} → ◌≡◌ {A = Option A} (Some x) (Some y) → x ≡ y
same_some e = cc

none_read : (e : Reading) (f : Found) → region_from e [] ≡ Some f → ⊥
unfolding region_from
none_read e f h = never-some h

-- after a word that is taken, and after none
goes_on : (e z : Reading) (t : Token) (ts : List Token) (f : Found) → accept e t.bytes ≡ Some z → region_from e (t ∷ ts) ≡ Some f → going z ts ≡ Some f
goes_on e z t ts f a h = sym (step e z t ts a) ∙ h

stops : (e : Reading) (t : Token) (ts : List Token) (f : Found) → accept e t.bytes ≡ None → region_from e (t ∷ ts) ≡ Some f → ⊥
unfolding region_from
stops e t ts f a h = never-some (sym (ap (λ o. by_some o None (λ u. going u ts)) a) ∙ h)

-- the words that an operator can be
abbrev spelled_operator : Operator → List ℕ
spelled_operator operator.And = codes "and"
spelled_operator operator.Or = codes "or"
spelled_operator operator.Without = codes "without"
spelled_operator operator.Grown = codes "grown"

operator_word : (w : List ℕ) (o : Operator) → operator_of w ≡ Some o → w ≡ spelled_operator o
operator_word w o e = elim (cases_Bool (bytes_eq w (codes "and"))) [
  | inl a ↦
      let q : operator.And ≡ o = same_some (sym (ap (λ b. cond b (Some operator.And) (cond (bytes_eq w (codes "or")) (Some operator.Or) (cond (bytes_eq w (codes "without")) (Some operator.Without) (cond (bytes_eq w (codes "grown")) (Some operator.Grown) None)))) a) ∙ e) in
      (bytes_eq-Decides w (codes "and")).0 a ∙ ap spelled_operator q
  | inr a ↦
      let e1 : cond (bytes_eq w (codes "or")) (Some operator.Or) (cond (bytes_eq w (codes "without")) (Some operator.Without) (cond (bytes_eq w (codes "grown")) (Some operator.Grown) None)) ≡ Some o =
      sym (ap (λ b. cond b (Some operator.And) (cond (bytes_eq w (codes "or")) (Some operator.Or) (cond (bytes_eq w (codes "without")) (Some operator.Without) (cond (bytes_eq w (codes "grown")) (Some operator.Grown) None)))) a) ∙ e in
      elim (cases_Bool (bytes_eq w (codes "or"))) [
        | inl b ↦
            let q : operator.Or ≡ o = same_some (sym (ap (λ c. cond c (Some operator.Or) (cond (bytes_eq w (codes "without")) (Some operator.Without) (cond (bytes_eq w (codes "grown")) (Some operator.Grown) None))) b) ∙ e1) in
            (bytes_eq-Decides w (codes "or")).0 b ∙ ap spelled_operator q
        | inr b ↦
            let e2 : cond (bytes_eq w (codes "without")) (Some operator.Without) (cond (bytes_eq w (codes "grown")) (Some operator.Grown) None) ≡ Some o =
            sym (ap (λ c. cond c (Some operator.Or) (cond (bytes_eq w (codes "without")) (Some operator.Without) (cond (bytes_eq w (codes "grown")) (Some operator.Grown) None))) b) ∙ e1 in
            elim (cases_Bool (bytes_eq w (codes "without"))) [
              | inl c ↦
                  let q : operator.Without ≡ o = same_some (sym (ap (λ d. cond d (Some operator.Without) (cond (bytes_eq w (codes "grown")) (Some operator.Grown) None)) c) ∙ e2) in
                  (bytes_eq-Decides w (codes "without")).0 c ∙ ap spelled_operator q
              | inr c ↦
                  let e3 : cond (bytes_eq w (codes "grown")) (Some operator.Grown) None ≡ Some o = sym (ap (λ d. cond d (Some operator.Without) (cond (bytes_eq w (codes "grown")) (Some operator.Grown) None)) c) ∙ e2 in
                  elim (cases_Bool (bytes_eq w (codes "grown"))) [
                    | inl d ↦ let q : operator.Grown ≡ o = same_some (sym (ap (λ g. cond g (Some operator.Grown) None) d) ∙ e3) in (bytes_eq-Decides w (codes "grown")).0 d ∙ ap spelled_operator q
                    | inr d ↦ absurd (never-some (sym (ap (λ g. cond g (Some operator.Grown) None) d) ∙ e3))
                  ]
            ]
      ]
]

-- a closing parenthesis
record Closed (e : Reading) (node : List ℕ) (ts : List Token) (f : Found) : Type 0 where
  close : Token
  left : List Token
  split : ts ≡ close ∷ left
  word : close.bytes ≡ codes ")"
  goes : going (added e node) left ≡ Some f

closes : (ns : List ℕ) (fs : List Frame) (g : Frame) (node : List ℕ) (ts : List Token) (f : Found) → ((w : List ℕ) → further_in (at_state ns fs awaits.Further) w g ≡ ended (at_state ns fs awaits.Further) w node) → region_from (at_state ns (fs ++ g ∷ []) awaits.Further) ts ≡ Some f → Closed (at_state ns fs awaits.Further) node ts f
closes ns fs g node [] f k h = absurd (none_read _ f h)
closes ns fs g node (t ∷ ts) f k h =
    let at = further-at fs g ns t.bytes ∙ k t.bytes in
    elim (cases_Bool (bytes_eq t.bytes (codes ")"))) [
      | inl p ↦ record {
        close = t;
        left = ts;
        split = refl;
        word = (bytes_eq-Decides t.bytes (codes ")")).0 p;
        goes = goes_on (at_state ns (fs ++ g ∷ []) awaits.Further) (added (at_state ns fs awaits.Further) node) t ts f (at ∙ ap (λ b. cond b (Some (added (at_state ns fs awaits.Further) node)) None) p) h;
      }
      | inr p ↦ absurd (stops (at_state ns (fs ++ g ∷ []) awaits.Further) t ts f (at ∙ ap (λ b. cond b (Some (added (at_state ns fs awaits.Further) node)) None) p) h)
    ]

two-nodes : (ns : List ℕ) (k : ℕ) (j : Joint) (a b : Tree) → length ns ≡ 3 * k → (((ns ++ numbered k a) ++ numbered (k + count a) b) ++ (kind_of j ∷ (length (ns ++ numbered k a) / 3 - 1) ∷ (length ((ns ++ numbered k a) ++ numbered (k + count a) b) / 3 - 1) ∷ [])) ≡ ns ++ numbered k (two j a b)
unfolding numbered
two-nodes ns k j a b h =
    let nsA = ns ++ numbered k a in
    let nsB = nsA ++ numbered (k + count a) b in
    let hA : length nsA ≡ 3 * (k + count a) = omega (arith, length-append ns (numbered k a), long k a) in
    let hB : length nsB ≡ 3 * (k + count a + count b) = omega (arith, length-append nsA (numbered (k + count a) b), long (k + count a) b) in
    let left : length nsA / 3 - 1 ≡ k + count a - 1 = omega arith in
    let right : length nsB / 3 - 1 ≡ k + count a + count b - 1 = omega arith in
    ap (λ x. nsB ++ (kind_of j ∷ x ∷ (length nsB / 3 - 1) ∷ [])) left ∙ ap (λ x. nsB ++ (kind_of j ∷ (k + count a - 1) ∷ x ∷ [])) right
    ∙ ap (λ us. us ++ (kind_of j ∷ (k + count a - 1) ∷ (k + count a + count b - 1) ∷ [])) (append_assoc ns (numbered k a) (numbered (k + count a) b))
    ∙ append_assoc ns (numbered k a ++ numbered (k + count a) b) (kind_of j ∷ (k + count a - 1) ∷ (k + count a + count b - 1) ∷ [])

grown-nodes : (ns : List ℕ) (k n : ℕ) (a : Tree) → length ns ≡ 3 * k → ((ns ++ numbered k a) ++ (4 ∷ n ∷ (length (ns ++ numbered k a) / 3 - 1) ∷ [])) ≡ ns ++ numbered k (grown n a)
unfolding numbered
grown-nodes ns k n a h =
    let nsA = ns ++ numbered k a in
    let hA : length nsA ≡ 3 * (k + count a) = omega (arith, length-append ns (numbered k a), long k a) in
    let left : length nsA / 3 - 1 ≡ k + count a - 1 = omega arith in
    ap (λ x. nsA ++ (4 ∷ n ∷ x ∷ [])) left ∙ append_assoc ns (numbered k a) (4 ∷ n ∷ (k + count a - 1) ∷ [])

operator_number : (j : Joint) → number_of (operator_for j) ≡ kind_of j
unfolding operator_for
operator_number and = refl
operator_number or = refl
operator_number without = refl

-- inside a parenthesis that has been read up to its first operand
module _ (n : ℕ) (read-on : (ts : List Token) (ns : List ℕ) (k : ℕ) (fs : List Frame) (f : Found) → length ts ≤ n → length ns ≡ 3 * k → region_from (at_state ns fs awaits.Operand) ts ≡ Some f → Came ts ns k fs f) (t : Token) (open-so : t.bytes ≡ codes "(") (ts : List Token) (short : length ts ≤ n) (ns : List ℕ) (k : ℕ) (fs : List Frame) (f : Found) (h : length ns ≡ 3 * k) (c : Came ts ns k (fs ++ frame.Open ∷ []) f) (q : Token) (rest : List Token) (left : c.rest ≡ q ∷ rest) where
  nsA : List ℕ
  nsA = ns ++ numbered k c.tree

  two-came : (j : Joint) → q.bytes ≡ word_of j → region_from (at_state (ns ++ numbered k c.tree) (fs ++ frame.Open ∷ []) awaits.Further) (q ∷ rest) ≡ Some f → Came (t ∷ ts) ns k fs f
  unfolding Spells nsA
  two-came j w e =
      let m = length nsA / 3 - 1 in
      let g = frame.Two (operator_for j) m in
      let hA : length nsA ≡ 3 * (k + count c.tree) = omega (arith, length-append ns (numbered k c.tree), long k c.tree) in
      let few : length rest ≤ n = omega (arith, ap length c.split, length-append c.used c.rest, ap length left) in
      let d = read-on rest nsA (k + count c.tree) (fs ++ g ∷ []) f few hA (goes_on (at_state nsA (fs ++ frame.Open ∷ []) awaits.Further) (at_state nsA (fs ++ g ∷ []) awaits.Operand) q rest f (joint_word nsA fs q.bytes j w) e) in
      let nsB = nsA ++ numbered (k + count c.tree) d.tree in
      let e4 : region_from (at_state nsB (fs ++ g ∷ []) awaits.Further) d.rest ≡ Some f = sym (ap (λ x. going (at_state nsB (fs ++ g ∷ []) x) d.rest) (after-some fs g)) ∙ d.goes in
      let z = closes nsB fs g (kind_of j ∷ m ∷ (length nsB / 3 - 1) ∷ []) d.rest f (λ u. ap (λ x. ended (at_state nsB fs awaits.Further) u (x ∷ m ∷ (length nsB / 3 - 1) ∷ [])) (operator_number j)) e4 in
      let xs = c.used in let ys = d.used in let r = z.close in
      let words : (xs ++ (q ∷ (ys ++ (r ∷ [])))) ++ z.left ≡ xs ++ (q ∷ (ys ++ (r ∷ z.left))) = append_assoc xs (q ∷ (ys ++ (r ∷ []))) z.left ∙ ap (λ us. xs ++ (q ∷ us)) (append_assoc ys (r ∷ []) z.left) in
      record {
        tree = two j c.tree d.tree;
        used = t ∷ (xs ++ (q ∷ (ys ++ (r ∷ []))));
        rest = z.left;
        split = ap (λ us. t ∷ us) (c.split ∙ ap (λ us. xs ++ us) left ∙ ap (λ us. xs ++ (q ∷ us)) (d.split ∙ ap (λ us. ys ++ us) z.split) ∙ sym words);
        spells = (t, xs, q, ys, r, refl, open-so, c.spells, w, d.spells, z.word);
        goes = sym (ap (λ us. going (at_state us fs (after fs)) z.left) (two-nodes ns k j c.tree d.tree h)) ∙ z.goes;
      }

  grown-came : q.bytes ≡ codes "grown" → region_from (at_state (ns ++ numbered k c.tree) (fs ++ frame.Open ∷ []) awaits.Further) (q ∷ rest) ≡ Some f → (us : List Token) → rest ≡ us → Came (t ∷ ts) ns k fs f
  unfolding Spells nsA
  grown-came w e [] q1 =
      let e2 = goes_on (at_state nsA (fs ++ frame.Open ∷ []) awaits.Further) (at_state nsA fs awaits.Growth) q rest f (grown-word nsA fs q.bytes w) e in
      absurd (none_read (at_state nsA fs awaits.Growth) f (ap (region_from (at_state nsA fs awaits.Growth)) (sym q1) ∙ e2))
  grown-came w e (m ∷ us) q1 =
      let e2 = ap (region_from (at_state nsA fs awaits.Growth)) (sym q1) ∙ goes_on (at_state nsA (fs ++ frame.Open ∷ []) awaits.Further) (at_state nsA fs awaits.Growth) q rest f (grown-word nsA fs q.bytes w) e in
      by (number_in m.bytes) refl e2
    where
      by : (o : Option ℕ) → number_in m.bytes ≡ o → region_from (at_state nsA fs awaits.Growth) (m ∷ us) ≡ Some f → Came (t ∷ ts) ns k fs f
      by None p e3 = absurd (stops (at_state nsA fs awaits.Growth) m us f (ap (λ o. by_some o None (λ i. Some (at_state nsA (fs ++ frame.Grown i (length nsA / 3 - 1) ∷ []) awaits.Further))) p) e3)
      by (Some i) p e3 =
          let g = frame.Grown i (length nsA / 3 - 1) in
          let e4 = goes_on (at_state nsA fs awaits.Growth) (at_state nsA (fs ++ g ∷ []) awaits.Further) m us f (growth_word nsA fs m.bytes i p) e3 in
          let z = closes nsA fs g (4 ∷ i ∷ (length nsA / 3 - 1) ∷ []) us f (λ u. refl) e4 in
          let xs = c.used in let r = z.close in
          record {
            tree = grown i c.tree;
            used = t ∷ (xs ++ (q ∷ (m ∷ (r ∷ []))));
            rest = z.left;
            split = ap (λ vs. t ∷ vs) (c.split ∙ ap (λ vs. xs ++ vs) (left ∙ ap (λ vs. q ∷ vs) (q1 ∙ ap (λ vs. m ∷ vs) z.split)) ∙ sym (append_assoc xs (q ∷ (m ∷ (r ∷ []))) z.left));
            spells = (t, xs, q, m, r, refl, open-so, c.spells, w, p, z.word);
            goes = sym (ap (λ vs. going (at_state vs fs (after fs)) z.left) (grown-nodes ns k i c.tree h)) ∙ z.goes;
          }

  operator-came : (o : Option Operator) → operator_of q.bytes ≡ o → region_from (at_state (ns ++ numbered k c.tree) (fs ++ frame.Open ∷ []) awaits.Further) (q ∷ rest) ≡ Some f → Came (t ∷ ts) ns k fs f
  unfolding nsA
  operator-came None p e =
      absurd (stops (at_state nsA (fs ++ frame.Open ∷ []) awaits.Further) q rest f (further-at fs frame.Open nsA q.bytes ∙ ap (λ o. by_some o None (λ u. Some (joins (at_state nsA fs awaits.Further) u))) p) e)
  operator-came (Some operator.And) p e = two-came and (operator_word q.bytes operator.And p) e
  operator-came (Some operator.Or) p e = two-came or (operator_word q.bytes operator.Or p) e
  operator-came (Some operator.Without) p e = two-came without (operator_word q.bytes operator.Without p) e
  operator-came (Some operator.Grown) p e = grown-came (operator_word q.bytes operator.Grown p) e rest refl

layer-came : (t : Token) (ts : List Token) (ns : List ℕ) (k : ℕ) (fs : List Frame) (f : Found) → bytes_eq t.bytes (codes "(") ≡ false → (o : Option ℕ) → number_in t.bytes ≡ o → region_from (at_state ns fs awaits.Operand) (t ∷ ts) ≡ Some f → Came (t ∷ ts) ns k fs f
unfolding Spells numbered
layer-came t ts ns k fs f p None q e =
    let at = ap (λ u. cond u (Some (opened (at_state ns fs awaits.Operand) frame.Open)) (by_some (number_in t.bytes) None (λ l. Some (added (at_state ns fs awaits.Operand) (0 ∷ l ∷ 0 ∷ []))))) p ∙ ap (λ o. by_some o None (λ l. Some (added (at_state ns fs awaits.Operand) (0 ∷ l ∷ 0 ∷ [])))) q in
    absurd (stops (at_state ns fs awaits.Operand) t ts f at e)
layer-came t ts ns k fs f p (Some l) q e = record {
  tree = layer l;
  used = t ∷ [];
  rest = ts;
  split = refl;
  spells = (t, refl, q);
  goes = goes_on (at_state ns fs awaits.Operand) (at_state (ns ++ (0 ∷ l ∷ 0 ∷ [])) fs (after fs)) t ts f (layer-word ns fs t.bytes l q) e;
}

open_came : (n : ℕ) → ((ts : List Token) (ns : List ℕ) (k : ℕ) (fs : List Frame) (f : Found) → length ts ≤ n → length ns ≡ 3 * k → region_from (at_state ns fs awaits.Operand) ts ≡ Some f → Came ts ns k fs f) → (t : Token) (ts : List Token) (ns : List ℕ) (k : ℕ) (fs : List Frame) (f : Found) → t.bytes ≡ codes "(" → length ts ≤ n → length ns ≡ 3 * k → (c : Came ts ns k (fs ++ frame.Open ∷ []) f) → (us : List Token) → c.rest ≡ us → region_from (at_state (ns ++ numbered k c.tree) (fs ++ frame.Open ∷ []) awaits.Further) us ≡ Some f → Came (t ∷ ts) ns k fs f
open_came n rec t ts ns k fs f w l h c [] q e = absurd (none_read _ f e)
open_came n rec t ts ns k fs f w l h c (v ∷ us) q e = operator-came n rec t w ts l ns k fs f h c v us q (operator_of v.bytes) refl e

-- by how many words are left
came : (n : ℕ) (ts : List Token) (ns : List ℕ) (k : ℕ) (fs : List Frame) (f : Found) → length ts ≤ n → length ns ≡ 3 * k → region_from (at_state ns fs awaits.Operand) ts ≡ Some f → Came ts ns k fs f
came n [] ns k fs f l h e = absurd (none_read _ f e)
came zero (t ∷ ts) ns k fs f l h e = absurd (omega arith)
came (suc n) (t ∷ ts) ns k fs f l h e = elim (cases_Bool (bytes_eq t.bytes (codes "("))) [
  | inl p ↦
      let w = (bytes_eq-Decides t.bytes (codes "(")).0 p in
      let e1 = goes_on (at_state ns fs awaits.Operand) (at_state ns (fs ++ frame.Open ∷ []) awaits.Operand) t ts f (open_word ns fs t.bytes w) e in
      let c = came n ts ns k (fs ++ frame.Open ∷ []) f (omega arith) h e1 in
      let e2 : region_from (at_state (ns ++ numbered k c.tree) (fs ++ frame.Open ∷ []) awaits.Further) c.rest ≡ Some f = sym (ap (λ x. going (at_state (ns ++ numbered k c.tree) (fs ++ frame.Open ∷ []) x) c.rest) (after-some fs frame.Open)) ∙ c.goes in
      open_came n (came n) t ts ns k fs f w (omega arith) h c c.rest refl e2
  | inr p ↦ layer-came t ts ns k fs f p (number_in t.bytes) refl e
]

pub reads_only_spelled : ReadsOnlySpelled
reads_only_spelled ts ns k f h e =
    let c = came (length ts) ts ns k [] f (omega arith) h e in
    let same : record { nodes = ns ++ numbered k c.tree; rest = c.rest } ≡ f = same_some c.goes in
    (c.tree, c.used, c.split ∙ ap (λ (u : Found). c.used ++ u.rest) same, c.spells, sym (ap (λ (u : Found). u.nodes) same))
