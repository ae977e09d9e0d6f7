-- What a node of a checked layout stands for. Assumes nothing.
use Rattle.std.proofs.Common.{◌≡◌, ℕ, zero, suc, ◌+◌, ◌*◌, ◌^◌, ◌<◌, true, List, sym, refl, ap, ◌∙◌, subst, inl, inr, mul-zero, arith}
use Rattle.std.proofs.lemmas.Bool.{and_parts, cases_eq}
use Rattle.std.proofs.ByRecursion.{All-append, All-weaker}
use Rattle.std.proofs.lemmas.Nat.{mul-le}
use Rattle.std.specs.List.{AllByRecursion}
use Rattle.layout.specs.Limits.{max_number}
use Rattle.layout.specs.Layout.{Layout, both, row, column}
use Rattle.layout.specs.Numbers.{node_at, sixes, earlier}
use Rattle.layout.specs.Nodes.{layout_of, Modest, numbered, orderly, Read}
use Rattle.layout.specs.Pieces.{piece, Sound}
use Rattle.layout.specs.Rects.{rects, Within}
use Rattle.layout.specs.declared.node.Node.{Node}
use Rattle.layout.specs.declared.node.Node.TheVariants.{Nothing, One, Both, Changed, Row, Column}
use Rattle.layout.specs.Changes.{changed}
use Rattle.layout.specs.declared.change.Change.TheVariants.{Move, Turn, Mirror}
use Rattle.layout.proofs.Reading.{read-any}
use Rattle.layout.proofs.Sizes.{move_within, turn_within, mirror_within, copies-within}

pub earlier-at : (xs : List ℕ) (m n : ℕ) → n < m → earlier xs m ≡ true → orderly xs n ≡ true
unfolding earlier orderly
earlier-at xs zero n h e = absurd (omega arith)
earlier-at xs (suc m) n h e =
    let p = and_parts _ _ e in
    elim (cases_eq n m) [ inl q ↦ subst (λ (u : ℕ). orderly xs u ≡ true) (sym q) p.0 | inr q ↦ earlier-at xs m n (omega arith) p.1 ]

-- a node stays the same where those that it names do
pub layout_like : (f g : ℕ → Layout) (n : ℕ) (d : Node) → Modest n d → ((m : ℕ) → m < n → f m ≡ g m) → layout_of f d ≡ layout_of g d
layout_like f g n Nothing h e = refl
layout_like f g n (One q) h e = refl
layout_like f g n (Both a b) h e = ap (λ u. both u (f b)) (e a h.0) ∙ ap (λ u. both (g a) u) (e b h.1)
layout_like f g n (Changed w a) h e = ap (changed w) (e a h.0)
layout_like f g n (Row k d a) h e = ap (row k d) (e a h.0)
layout_like f g n (Column k d a) h e = ap (column k d) (e a h.0)

module _ (xs : List ℕ) (sound : Sound xs) where
  pub read_of : (n : ℕ) → n < sixes xs → (d : Node) × Read xs n d
  read_of n h = read-any xs n sound.small (earlier-at xs (sixes xs) n h sound.names)

  pub numbered-like : (f g : ℕ → Layout) (n : ℕ) → n < sixes xs → ((m : ℕ) → m < n → f m ≡ g m) → numbered f xs n ≡ numbered g xs n
  numbered-like f g n h e =
      let d = read_of n h in d.1.same f ∙ layout_like f g n d.0 d.1.modest e ∙ sym (d.1.same g)

  pub grow : (l n : ℕ) → n < l → n < sixes xs → node_at xs (suc l) n ≡ node_at xs l n
  unfolding node_at numbered
  grow zero n h k = absurd (omega arith)
  grow (suc l) n h k = numbered-like (node_at xs (suc l)) (node_at xs l) n k (λ m p. grow l m (omega arith) (omega arith))

  pub settle : (l n : ℕ) → n < l → n < sixes xs → node_at xs l n ≡ piece xs n
  unfolding piece
  settle zero n h k = absurd (omega arith)
  settle (suc l) n h k = elim (cases_eq n l) [ inl q ↦ ap (λ m. node_at xs (suc m) n) (sym q) | inr q ↦ grow l n (omega arith) k ∙ settle l n (omega arith) k ]

  pub piece_is : (n : ℕ) → n < sixes xs → (d : Node) → Read xs n d → piece xs n ≡ layout_of (piece xs) d
  unfolding piece node_at numbered
  piece_is n k d r = r.same (node_at xs n) ∙ layout_like (node_at xs n) (piece xs) n d r.modest (λ m p. settle n m p (omega arith))

-- how far the boxes of a node reach: below 2 ^ 32 more than those of the ones that it names
pub within_of : (f : ℕ → Layout) (n : ℕ) (d : Node) → Modest n d → ((m : ℕ) → m < n → AllByRecursion (Within ((m + 1) * 4294967296)) (rects (f m))) → AllByRecursion (Within ((n + 1) * 4294967296)) (rects (layout_of f d))
unfolding rects
within_of f n Nothing h w = tt
within_of f n (One q) h w = ((omega arith, omega arith), tt)
within_of f n (Both a b) h w =
    All-append _ (rects (f a)) (rects (f b))
    (All-weaker _ _ (λ q p. (omega (arith, h.0), omega (arith, h.0))) (rects (f a)) (w a h.0))
    (All-weaker _ _ (λ q p. (omega (arith, h.1), omega (arith, h.1))) (rects (f b)) (w b h.1))
within_of f n (Changed (Move r b) a) h w = move_within ((a + 1) * 4294967296) _ r b (omega arith) (omega arith) (rects (f a)) (w a h.0)
within_of f n (Changed (Turn s) a) h w = turn_within ((a + 1) * 4294967296) _ s (omega arith) (omega arith) (rects (f a)) (w a h.0)
within_of f n (Changed (Mirror s) a) h w = mirror_within ((a + 1) * 4294967296) _ s (omega arith) (omega arith) (rects (f a)) (w a h.0)
within_of f n (Row k d a) h w =
    let p = mul-le k d max_number max_number h.1 h.2 in
    let z = mul-zero k in
    copies-within ((a + 1) * 4294967296) _ k d 0 (omega arith) (omega arith) (rects (f a)) (w a h.0)
within_of f n (Column k d a) h w =
    let p = mul-le k d max_number max_number h.1 h.2 in
    let z = mul-zero k in
    copies-within ((a + 1) * 4294967296) _ k 0 d (omega arith) (omega arith) (rects (f a)) (w a h.0)

module _ (xs : List ℕ) (sound : Sound xs) where
  pub piece-within : (l n : ℕ) → n < l → n < sixes xs → AllByRecursion (Within ((n + 1) * 4294967296)) (rects (piece xs n))
  piece-within zero n h k = absurd (omega arith)
  piece-within (suc l) n h k =
      let d = read_of xs sound n k in
      subst (λ (a : Layout). AllByRecursion (Within ((n + 1) * 4294967296)) (rects a)) (sym (piece_is xs sound n k d.0 d.1))
      (within_of (piece xs) n d.0 d.1.modest (λ m p. piece-within l m (omega arith) (omega arith)))

  pub piece-near : (n : ℕ) → n < sixes xs → AllByRecursion (Within (2 ^ 40)) (rects (piece xs n))
  piece-near n k = let few = sound.few in All-weaker _ _ (λ q p. (omega arith, omega arith)) (rects (piece xs n)) (piece-within (suc n) n (omega arith) k)

  pub piece-small : (n : ℕ) → n < sixes xs → AllByRecursion (Within (2 ^ 48)) (rects (piece xs n))
  piece-small n k = All-weaker _ _ (λ q p. (omega arith, omega arith)) (rects (piece xs n)) (piece-near n k)
