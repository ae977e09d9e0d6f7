-- What is added to a text for a node, case by case. Assumes nothing.
use Rattle.std.proofs.Common.{◌≡◌, ℕ, zero, suc, ◌+◌, ◌-◌, ◌*◌, ◌<◌, Bool, true, false, cond, List, [], ◌++◌, get_or, codes, sym, refl, ap, ◌∙◌, arith}
use mathlib.Core.Bool.{true≢false}
use Rattle.std.proofs.lemmas.List.{append_assoc, append-nil}
use Rattle.std.proofs.lemmas.Bool.{ne_eqb}
use Rattle.layout.specs.Nodes.{Spelled, Read}
use Rattle.layout.specs.declared.node.Node.{Node}
use Rattle.layout.specs.declared.node.Node.TheVariants.{Nothing, One, Both, Changed, Row, Column}
use Rattle.layout.specs.declared.change.Change.TheVariants.{Move, Turn, Mirror}
use Rattle.layout.specs.Numbers.{sixes}
use Rattle.layout_writer.specs.Lines.{line_of, box_words, change_words, copies_words, open_words, statement_words, statement_line, numbers_of}
use Rattle.layout_writer.specs.Cells.{has_cell}
use Rattle.layout_writer.specs.Texts.{node_text, put_line, statements, cell_text, cells_text, layout_text}

-- a node that is not put
module _ (xs g : List ℕ) (n : ℕ) (named : Bool) (unnamed : named ≡ false) (old new put : List ℕ) where
  abbrev Added : ℕ → Type 0
  Added l = new ≡ old ++ cond named put (statements xs g l n)

  onto : (l : ℕ) (bytes : List ℕ) → new ≡ old ++ bytes → bytes ≡ statements xs g l n → Added l
  onto l bytes e f = e ∙ ap (λ t. old ++ t) f ∙ sym (ap (λ b. old ++ cond b put (statements xs g l n)) unnamed)

  pub adds-nothing : get_or xs (6 * n) 0 ≡ 0 → new ≡ old → (l : ℕ) → n < l → Added l
  unfolding statements
  adds-nothing k e zero h = absurd (omega arith)
  adds-nothing k e (suc l) h =
      onto (suc l) [] (e ∙ sym (append-nil old))
      (sym (ap (λ u. node_text g (λ m. cond (has_cell xs m) (put_line g m) (statements xs g l m)) u (get_or xs (6 * n + 1) 0) (get_or xs (6 * n + 2) 0) (get_or xs (6 * n + 3) 0) (get_or xs (6 * n + 4) 0) (get_or xs (6 * n + 5) 0)) k))

  pub adds-both : get_or xs (6 * n) 0 ≡ 2 → get_or xs (6 * n + 1) 0 < n → get_or xs (6 * n + 2) 0 < n → (mid : List ℕ) → ((l : ℕ) → get_or xs (6 * n + 1) 0 < l → mid ≡ old ++ cond (has_cell xs (get_or xs (6 * n + 1) 0)) (put_line g (get_or xs (6 * n + 1) 0)) (statements xs g l (get_or xs (6 * n + 1) 0))) → ((l : ℕ) → get_or xs (6 * n + 2) 0 < l → new ≡ mid ++ cond (has_cell xs (get_or xs (6 * n + 2) 0)) (put_line g (get_or xs (6 * n + 2) 0)) (statements xs g l (get_or xs (6 * n + 2) 0))) → (l : ℕ) → n < l → Added l
  unfolding statements
  adds-both k p q mid e f zero h = absurd (omega arith)
  adds-both k p q mid e f (suc l) h =
      let part : ℕ → List ℕ = λ m. cond (has_cell xs m) (put_line g m) (statements xs g l m) in
      let a = get_or xs (6 * n + 1) 0 in
      let b = get_or xs (6 * n + 2) 0 in
      onto (suc l) (part a ++ part b)
      (f l (omega arith) ∙ ap (λ t. t ++ part b) (e l (omega arith)) ∙ append_assoc old (part a) (part b))
      (sym (ap (λ u. node_text g part u a b (get_or xs (6 * n + 3) 0) (get_or xs (6 * n + 4) 0) (get_or xs (6 * n + 5) 0)) k))

  pub adds-line : (get_or xs (6 * n) 0 ≡ 0 → ⊥) → (get_or xs (6 * n) 0 ≡ 2 → ⊥) → (line : List ℕ) → line ≡ statement_line (numbers_of xs n) → new ≡ old ++ (g ++ line) → (l : ℕ) → n < l → Added l
  unfolding statements
  adds-line p q line e f zero h = absurd (omega arith)
  adds-line p q line e f (suc l) h =
      let k = get_or xs (6 * n) 0 in
      onto (suc l) (g ++ line) f (ap (λ t. g ++ t) e ∙ sym (simp (ne_eqb k 0 p, ne_eqb k 2 q)))

-- whether a node is one line
abbrev pub one_line : Node → Bool
one_line Nothing = false
one_line (One q) = true
one_line (Both a b) = false
one_line (Changed w a) = true
one_line (Row m d a) = true
one_line (Column m d a) = true

-- the line of a node that is neither nothing nor both
abbrev pub node_line : Node → List ℕ
node_line Nothing = []
node_line (One q) = line_of (box_words q.layer q.x q.y q.across q.down)
node_line (Both a b) = []
node_line (Changed w a) = line_of (change_words w a)
node_line (Row m d a) = line_of (copies_words (codes "row") m d a)
node_line (Column m d a) = line_of (copies_words (codes "column") m d a)

spelled_line : (k a b c e f : ℕ) (d : Node) → Spelled k a b c e f d → one_line d ≡ true → line_of (statement_words k a b c e f) ≡ node_line d
spelled_line k a b c e f Nothing h t = absurd (true≢false (sym t))
spelled_line k a b c e f (One d) h t = rw (h.0, h.1, h.2, h.3, h.4, h.5) refl
spelled_line k a b c e f (Both i j) h t = absurd (true≢false (sym t))
spelled_line k a b c e f (Changed (Move r u) i) h t = rw (h.0, h.1, h.2, h.3) refl
spelled_line k a b c e f (Changed (Turn s) i) h t = rw (h.0, h.1, h.2) refl
spelled_line k a b c e f (Changed (Mirror s) i) h t = rw (h.0, h.1, h.2) refl
spelled_line k a b c e f (Row m d i) h t = rw (h.0, h.1, h.2, h.3) refl
spelled_line k a b c e f (Column m d i) h t = rw (h.0, h.1, h.2, h.3) refl

-- its kind is neither
not-2 : (k a b c e f : ℕ) (d : Node) → Spelled k a b c e f d → one_line d ≡ true → (k ≡ 0 → ⊥) × (k ≡ 2 → ⊥)
not-2 k a b c e f Nothing h t = absurd (true≢false (sym t))
not-2 k a b c e f (One d) h t = (λ e. omega (arith, h.0), λ e. omega (arith, h.0))
not-2 k a b c e f (Both i j) h t = absurd (true≢false (sym t))
not-2 k a b c e f (Changed (Move r u) i) h t = (λ e. omega (arith, h.0), λ e. omega (arith, h.0))
not-2 k a b c e f (Changed (Turn s) i) h t = (λ e. omega (arith, h.0), λ e. omega (arith, h.0))
not-2 k a b c e f (Changed (Mirror s) i) h t = (λ e. omega (arith, h.0), λ e. omega (arith, h.0))
not-2 k a b c e f (Row m d i) h t = (λ e. omega (arith, h.0), λ e. omega (arith, h.0))
not-2 k a b c e f (Column m d i) h t = (λ e. omega (arith, h.0), λ e. omega (arith, h.0))

module _ (xs g : List ℕ) (n : ℕ) (named : Bool) (unnamed : named ≡ false) (old new put : List ℕ) where
  pub adds-node : (d : Node) → Read xs n d → one_line d ≡ true → (line : List ℕ) → line ≡ node_line d → new ≡ old ++ (g ++ line) → (l : ℕ) → n < l → new ≡ old ++ cond named put (statements xs g l n)
  adds-node d r t line e f =
      let apart = not-2 _ _ _ _ _ _ d r.spelled t in
      adds-line xs g n named unnamed old new put apart.0 apart.1 line (e ∙ sym (spelled_line _ _ _ _ _ _ d r.spelled t)) f

-- a cell
pub adds-cell : (xs : List ℕ) (n : ℕ) (old mid late new line : List ℕ) → line ≡ line_of (open_words n) → mid ≡ old ++ line → late ≡ mid ++ statements xs (codes "    ") (suc n) n → new ≡ late ++ codes "}\n" → new ≡ old ++ cell_text xs n
adds-cell xs n old mid late new line e f g h =
    let s = statements xs (codes "    ") (suc n) n in
    h ∙ ap (λ t. t ++ codes "}\n") (g ∙ ap (λ t. t ++ s) (f ∙ ap (λ t. old ++ t) e))
    ∙ append_assoc (old ++ line_of (open_words n)) s (codes "}\n") ∙ append_assoc old (line_of (open_words n)) (s ++ codes "}\n")

-- one node more
pub cells-more : (xs : List ℕ) (n : ℕ) (b : Bool) (old new : List ℕ) → old ≡ cells_text xs n → b ≡ has_cell xs n → new ≡ old ++ cond b (cell_text xs n) [] → new ≡ cells_text xs (n + 1)
unfolding cells_text
cells-more xs n b old new e f g =
    let z : suc n ≡ n + 1 = omega arith in
    g ∙ ap (λ t. t ++ cond b (cell_text xs n) []) e ∙ ap (λ t. cells_text xs n ++ cond t (cell_text xs n) []) f ∙ ap (cells_text xs) z

pub text_all : (xs : List ℕ) (n m : ℕ) (old new : List ℕ) → n ≡ sixes xs → m ≡ sixes xs - 1 → old ≡ cells_text xs n → new ≡ old ++ statements xs [] (sixes xs) m → new ≡ layout_text xs
text_all xs n m old new e f p q =
    q ∙ ap (λ t. t ++ statements xs [] (sixes xs) m) (p ∙ ap (cells_text xs) e) ∙ ap (λ k. cells_text xs (sixes xs) ++ statements xs [] (sixes xs) k) f
