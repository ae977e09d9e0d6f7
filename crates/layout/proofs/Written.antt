-- What each arm of the recursion leaves. Assumes nothing.
use Rattle.std.proofs.Common.{◌≡◌, ℕ, zero, suc, ◌-◌, ◌^◌, ◌<◌, ◌≤◌, List, [], ◌∷◌, ◌++◌, map, length, get_or, take, drop, sym, ap, ◌∙◌, subst, zero-mul, arith}
use Rattle.std.proofs.lemmas.List.{append-nil, append_assoc, take_at, drop_at, length-append, get_or-append_right, nil_from_length}
use Rattle.std.proofs.ByRecursion.{All-get_or}
use Rattle.std.specs.List.{AllWithin, AllByRecursion}
use Rattle.layout.specs.Layout.{Layout, row, column}
use Rattle.layout.specs.Numbers.{sixes, boxes}
use Rattle.layout.specs.Nodes.{layout_of, Read}
use Rattle.layout.specs.Counts.{Counted}
use Rattle.layout.specs.Pieces.{piece, Sound}
use Rattle.layout.specs.Rects.{move_rect, turn_rect, mirror_rect, copies, rects, Within}
use Rattle.layout.specs.declared.rect.Rect.{Rect}
use Rattle.layout.specs.declared.node.Node.{Node}
use Rattle.layout.specs.declared.node.Node.TheVariants.{Nothing, One, Both, Changed, Row, Column}
use Rattle.layout.specs.Changes.{change_rect, Mild, Little}
use Rattle.layout.specs.declared.change.Change.{Change}
use Rattle.layout.specs.declared.change.Change.TheVariants.{Move, Turn, Mirror}
use Rattle.layout.proofs.Sizes.{rects-length}
use Rattle.layout.proofs.Pieces.{piece_is}

-- what was added stands after what was there
module _ (items qs ys : List Rect) (s : ℕ) (at : s ≡ length items) (added : ys ≡ items ++ qs) where
  pub tail-starts : s ≤ length ys
  tail-starts = omega (arith, ap length added, length-append items qs)

  pub tail-is : drop s ys ≡ qs
  tail-is = ap (drop s) added ∙ drop_at items qs s (sym at)

  pub tail_within : AllByRecursion (Within (2 ^ 48)) qs → AllByRecursion (Within (2 ^ 48)) (drop s ys)
  tail_within w = subst (λ (us : List Rect). AllByRecursion (Within (2 ^ 48)) us) (sym tail-is) w

  pub tail-every : (n : ℕ) → n ≡ length ys → AllByRecursion (Within (2 ^ 48)) qs → AllWithin (Within (2 ^ 48)) ys s n
  tail-every n long w k d lo hi =
      let p : k - s < length qs = omega (arith, ap length added, length-append items qs) in
      subst (Within (2 ^ 48)) (sym (ap (λ us. get_or us k d) added ∙ get_or-append_right items qs s k d (sym at) lo)) (All-get_or (Within (2 ^ 48)) qs (k - s) d p w)

  pub tail-changed : (G : List Rect → List Rect) (zs : List Rect) → zs ≡ take s ys ++ G (drop s ys) → zs ≡ items ++ G qs
  tail-changed G zs e = e ∙ ap (λ us. us ++ G (drop s ys)) (ap (take s) added ∙ take_at items qs s (sym at)) ∙ ap (λ us. items ++ G us) tail-is

pub row-some : (k f : ℕ) (a : Layout) → (boxes (λ k. 0) (row k f a) ≡ 0 → ⊥) → 0 < k
unfolding boxes
row-some zero f a h = absurd (h (zero-mul (boxes (λ k. 0) a)))
row-some (suc k) f a h = omega arith

pub column-some : (k f : ℕ) (a : Layout) → (boxes (λ k. 0) (column k f a) ≡ 0 → ⊥) → 0 < k
unfolding boxes
column-some zero f a h = absurd (h (zero-mul (boxes (λ k. 0) a)))
column-some (suc k) f a h = omega arith

module _ (xs : List ℕ) (sound : Sound xs) (n : ℕ) (here : n < sixes xs) where
  pub put-none : (counts : List ℕ) → Counted xs counts (sixes xs) → get_or counts n 0 ≡ 0 → (items : List Rect) → items ≡ items ++ rects (piece xs n)
  put-none counts h z items =
      let e : boxes (λ k. 0) (piece xs n) ≡ 0 = omega (arith, h.1 n here) in
      sym (ap (λ us. items ++ us) (nil_from_length (rects (piece xs n)) (rects-length (piece xs n) ∙ e)) ∙ append-nil items)

  pub put_some : (counts : List ℕ) → Counted xs counts (sixes xs) → (get_or counts n 0 ≡ 0 → ⊥) → (a : Layout) → piece xs n ≡ a → boxes (λ k. 0) a ≡ 0 → ⊥
  put_some counts h z a e b = z (omega (arith, h.1 n here, ap (boxes (λ k. 0)) e))

  pub put_as : (d : Node) → Read xs n d → rects (piece xs n) ≡ rects (layout_of (piece xs) d)
  put_as d r = ap rects (piece_is xs sound n here d r)

pub mild-of : (w : Change) → Little w → Mild w
mild-of (Move r b) h = (omega arith, omega arith)
mild-of (Turn s) h = tt
mild-of (Mirror s) h = tt

-- what each arm does to what was there: s is where it ends, ys what the named node left, and zs what is left
module _ (xs : List ℕ) (sound : Sound xs) (n : ℕ) (here : n < sixes xs) (items : List Rect) (s : ℕ) (at : s ≡ length items) where
  abbrev pub Put : Node → (ys zs : List Rect) → Type 0
  Put Nothing ys zs = zs ≡ items
  Put (One q) ys zs = zs ≡ items ++ q ∷ []
  Put (Both a b) ys zs = (ys ≡ items ++ rects (piece xs a)) × (zs ≡ ys ++ rects (piece xs b))
  Put (Changed w a) ys zs = (ys ≡ items ++ rects (piece xs a)) × (zs ≡ take s ys ++ map (change_rect w) (drop s ys))
  Put (Row k f a) ys zs = (ys ≡ items ++ rects (piece xs a)) × (zs ≡ take s ys ++ copies k f 0 (drop s ys))
  Put (Column k f a) ys zs = (ys ≡ items ++ rects (piece xs a)) × (zs ≡ take s ys ++ copies k 0 f (drop s ys))

  put-like : (d : Node) (ys zs : List Rect) → Put d ys zs → zs ≡ items ++ rects (layout_of (piece xs) d)
  unfolding rects
  put-like Nothing ys zs h = h ∙ sym (append-nil items)
  put-like (One q) ys zs h = h
  put-like (Both a b) ys zs h = h.1 ∙ ap (λ us. us ++ rects (piece xs b)) h.0 ∙ append_assoc items (rects (piece xs a)) (rects (piece xs b))
  put-like (Changed (Move r b) a) ys zs h = tail-changed items (rects (piece xs a)) ys s at h.0 (map (move_rect r b)) zs h.1
  put-like (Changed (Turn v) a) ys zs h = tail-changed items (rects (piece xs a)) ys s at h.0 (map (turn_rect v)) zs h.1
  put-like (Changed (Mirror v) a) ys zs h = tail-changed items (rects (piece xs a)) ys s at h.0 (map (mirror_rect v)) zs h.1
  put-like (Row k f a) ys zs h = tail-changed items (rects (piece xs a)) ys s at h.0 (copies k f 0) zs h.1
  put-like (Column k f a) ys zs h = tail-changed items (rects (piece xs a)) ys s at h.0 (copies k 0 f) zs h.1

  pub put-done : (d : Node) → Read xs n d → (ys zs : List Rect) → Put d ys zs → zs ≡ items ++ rects (piece xs n)
  put-done d r ys zs h = put-like d ys zs h ∙ sym (ap (λ qs. items ++ qs) (put_as xs sound n here d r))
