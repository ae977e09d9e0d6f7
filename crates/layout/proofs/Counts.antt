-- Counts that stop at (suc max_boxes). Assumes nothing.
use Rattle.std.proofs.Common.{◌≡◌, ℕ, zero, suc, ◌+◌, ◌*◌, ◌<◌, min, List, get_or, sym, ap, ◌∙◌, inl, inr, suc-mul, zero-mul, arith}
use Rattle.std.proofs.lemmas.Bool.{cases_lt}
use Rattle.layout.specs.Limits.{max_boxes}
use Rattle.layout.specs.Numbers.{sixes, boxes}
use Rattle.layout.specs.Nodes.{layout_of, Read}
use Rattle.layout.specs.Counts.{Counted}
use Rattle.layout.specs.Pieces.{piece, Sound}
use Rattle.layout.specs.declared.node.Node.{Node}
use Rattle.layout.specs.declared.node.Node.TheVariants.{Nothing, One, Both, Changed, Row, Column}
use Rattle.layout.specs.declared.change.Change.TheVariants.{Move, Turn, Mirror}
use Rattle.layout.proofs.Pieces.{piece_is}

cap_mul : (k a : ℕ) → min (k * min a (suc max_boxes)) (suc max_boxes) ≡ min (k * a) (suc max_boxes)
cap_mul zero a = ap (λ m. min m (suc max_boxes)) (zero-mul (min a (suc max_boxes)) ∙ sym (zero-mul a))
cap_mul (suc k) a =
    elim (cases_lt a (suc max_boxes)) [
      | inl h ↦ let e : min a (suc max_boxes) ≡ a = omega arith in ap (λ m. min (suc k * m) (suc max_boxes)) e
      | inr h ↦ omega (arith, suc-mul k (min a (suc max_boxes)), suc-mul k a)
    ]

module _ (xs : List ℕ) (sound : Sound xs) (counts : List ℕ) (n : ℕ) (here : n < sixes xs) (known : Counted xs counts n) where
  count-as : (d : Node) → Read xs n d → boxes (λ k. 0) (piece xs n) ≡ boxes (λ k. 0) (layout_of (piece xs) d)
  count-as d r = ap (boxes (λ k. 0)) (piece_is xs sound n here d r)

  -- what is counted at each kind of node
  abbrev pub Tally : Node → ℕ → Type 0
  Tally Nothing m = m ≡ 0
  Tally (One q) m = m ≡ 1
  Tally (Both a b) m = m ≡ min (get_or counts a 0 + get_or counts b 0) (suc max_boxes)
  Tally (Changed w a) m = m ≡ get_or counts a 0
  Tally (Row k f a) m = m ≡ min (k * get_or counts a 0) (suc max_boxes)
  Tally (Column k f a) m = m ≡ min (k * get_or counts a 0) (suc max_boxes)

  pub tally : (d : Node) → Read xs n d → (m : ℕ) → Tally d m → m ≡ min (boxes (λ k. 0) (piece xs n)) (suc max_boxes)
  unfolding boxes
  tally Nothing r m e = omega (arith, count-as _ r)
  tally (One q) r m e = omega (arith, count-as _ r)
  tally (Both a b) r m e = omega (arith, count-as _ r, known.1 a r.modest.0, known.1 b r.modest.1)
  tally (Changed (Move p q) a) r m e = omega (arith, count-as _ r, known.1 a r.modest.0)
  tally (Changed (Turn s) a) r m e = omega (arith, count-as _ r, known.1 a r.modest.0)
  tally (Changed (Mirror s) a) r m e = omega (arith, count-as _ r, known.1 a r.modest.0)
  tally (Row k f a) r m e = e ∙ ap (λ u. min (k * u) (suc max_boxes)) (known.1 a r.modest.0) ∙ cap_mul k (boxes (λ k. 0) (piece xs a)) ∙ ap (λ u. min u (suc max_boxes)) (sym (count-as _ r))
  tally (Column k f a) r m e = e ∙ ap (λ u. min (k * u) (suc max_boxes)) (known.1 a r.modest.0) ∙ cap_mul k (boxes (λ k. 0) (piece xs a)) ∙ ap (λ u. min u (suc max_boxes)) (sym (count-as _ r))
