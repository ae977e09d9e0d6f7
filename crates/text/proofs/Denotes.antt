-- Which layout a node is, whatever nodes come after it. Assumes nothing.
use Rattle.std.proofs.Common.{◌≡◌, ℕ, zero, suc, ◌+◌, ◌*◌, ◌<◌, ◌≤◌, List, [], ◌∷◌, ◌++◌, length, get_or, sym, ap, ◌∙◌, add-zero, arith}
use Rattle.std.proofs.lemmas.List.{get_or_append_left, get_or-append_right, length-append}
use Rattle.layout.specs.Layout.{Layout, nothing, box, both, moved, turned, mirrored, row, column}
use Rattle.layout.specs.Numbers.{node_of, node_at}

-- the numbers of a node
pub record HasNumbers (xs : List ℕ) (n : ℕ) (ks : List ℕ) : Type 0 where
  pub within : 6 * n + 6 ≤ length xs
  pub is : (i : ℕ) → i < 6 → get_or xs (6 * n + i) 0 ≡ get_or ks i 0

pub node-more : (xs ys : List ℕ) (n : ℕ) (ks : List ℕ) → HasNumbers xs n ks → HasNumbers (xs ++ ys) n ks
node-more xs ys n ks c = record {
  within = omega (arith, length-append xs ys, c.within);
  is = λ i h. get_or_append_left xs ys 0 (6 * n + i) (omega (arith, c.within)) ∙ c.is i h;
}

pub node-new : (xs : List ℕ) (n : ℕ) (ks : List ℕ) → length xs ≡ 6 * n → length ks ≡ 6 → HasNumbers (xs ++ ks) n ks
node-new xs n ks h l = record {
  within = omega (arith, length-append xs ks);
  is = λ i q. get_or-append_right xs ks (6 * n) (6 * n + i) 0 h (omega arith) ∙ ap (λ j. get_or ks j 0) (omega arith);
}

pub data Denotes (xs : List ℕ) : ℕ → Layout → Type 0 where
  a_nothing : {n : ℕ} → HasNumbers xs n (0 ∷ 0 ∷ 0 ∷ 0 ∷ 0 ∷ 0 ∷ []) → Denotes xs n nothing
  a_box : {n l x y a h : ℕ} → HasNumbers xs n (1 ∷ l ∷ x ∷ y ∷ a ∷ h ∷ []) → Denotes xs n (box l x y a h)
  a_both : {n a b : ℕ} {p q : Layout} → HasNumbers xs n (2 ∷ a ∷ b ∷ 0 ∷ 0 ∷ 0 ∷ []) → a < n → b < n → Denotes xs a p → Denotes xs b q → Denotes xs n (both p q)
  a_moved : {n r b a : ℕ} {p : Layout} → HasNumbers xs n (3 ∷ r ∷ b ∷ a ∷ 0 ∷ 0 ∷ []) → a < n → Denotes xs a p → Denotes xs n (moved r b p)
  a_turned : {n s a : ℕ} {p : Layout} → HasNumbers xs n (4 ∷ s ∷ a ∷ 0 ∷ 0 ∷ 0 ∷ []) → a < n → Denotes xs a p → Denotes xs n (turned s p)
  a_mirrored : {n s a : ℕ} {p : Layout} → HasNumbers xs n (5 ∷ s ∷ a ∷ 0 ∷ 0 ∷ 0 ∷ []) → a < n → Denotes xs a p → Denotes xs n (mirrored s p)
  a_row : {n m f a : ℕ} {p : Layout} → HasNumbers xs n (6 ∷ m ∷ f ∷ a ∷ 0 ∷ 0 ∷ []) → a < n → Denotes xs a p → Denotes xs n (row m f p)
  a_column : {n m f a : ℕ} {p : Layout} → HasNumbers xs n (7 ∷ m ∷ f ∷ a ∷ 0 ∷ 0 ∷ []) → a < n → Denotes xs a p → Denotes xs n (column m f p)

pub more : (xs ys : List ℕ) {n : ℕ} {p : Layout} → Denotes xs n p → Denotes (xs ++ ys) n p
more xs ys (a_nothing c) = a_nothing (node-more xs ys _ _ c)
more xs ys (a_box c) = a_box (node-more xs ys _ _ c)
more xs ys (a_both c h k d e) = a_both (node-more xs ys _ _ c) h k (more xs ys d) (more xs ys e)
more xs ys (a_moved c h d) = a_moved (node-more xs ys _ _ c) h (more xs ys d)
more xs ys (a_turned c h d) = a_turned (node-more xs ys _ _ c) h (more xs ys d)
more xs ys (a_mirrored c h d) = a_mirrored (node-more xs ys _ _ c) h (more xs ys d)
more xs ys (a_row c h d) = a_row (node-more xs ys _ _ c) h (more xs ys d)
more xs ys (a_column c h d) = a_column (node-more xs ys _ _ c) h (more xs ys d)

pub inside : (xs : List ℕ) {n : ℕ} {p : Layout} → Denotes xs n p → 6 * n + 6 ≤ length xs
inside xs (a_nothing c) = c.within
inside xs (a_box c) = c.within
inside xs (a_both c h k d e) = c.within
inside xs (a_moved c h d) = c.within
inside xs (a_turned c h d) = c.within
inside xs (a_mirrored c h d) = c.within
inside xs (a_row c h d) = c.within
inside xs (a_column c h d) = c.within

node-is : (xs : List ℕ) (m n k a b c e f : ℕ) → HasNumbers xs n (k ∷ a ∷ b ∷ c ∷ e ∷ f ∷ []) → node_at xs (suc m) n ≡ node_of (node_at xs m) k a b c e f
unfolding node_at
node-is xs m n k a b c e f d =
    let g = node_at xs m in
    let first : get_or xs (6 * n) 0 ≡ k = ap (λ i. get_or xs i 0) (sym (add-zero (6 * n))) ∙ d.is 0 (omega arith) in
    ap (λ u. node_of g u (get_or xs (6 * n + 1) 0) (get_or xs (6 * n + 2) 0) (get_or xs (6 * n + 3) 0) (get_or xs (6 * n + 4) 0) (get_or xs (6 * n + 5) 0)) first
    ∙ ap (λ u. node_of g k u (get_or xs (6 * n + 2) 0) (get_or xs (6 * n + 3) 0) (get_or xs (6 * n + 4) 0) (get_or xs (6 * n + 5) 0)) (d.is 1 (omega arith))
    ∙ ap (λ u. node_of g k a u (get_or xs (6 * n + 3) 0) (get_or xs (6 * n + 4) 0) (get_or xs (6 * n + 5) 0)) (d.is 2 (omega arith))
    ∙ ap (λ u. node_of g k a b u (get_or xs (6 * n + 4) 0) (get_or xs (6 * n + 5) 0)) (d.is 3 (omega arith))
    ∙ ap (λ u. node_of g k a b c u (get_or xs (6 * n + 5) 0)) (d.is 4 (omega arith))
    ∙ ap (λ u. node_of g k a b c e u) (d.is 5 (omega arith))

-- at each level that is high enough
pub is_at : (xs : List ℕ) (l : ℕ) {n : ℕ} {p : Layout} → n < l → Denotes xs n p → node_at xs l n ≡ p
unfolding node_of
is_at xs zero h d = absurd (omega arith)
is_at xs (suc m) {n} h (a_nothing c) = node-is xs m n _ _ _ _ _ _ c
is_at xs (suc m) {n} h (a_box c) = node-is xs m n _ _ _ _ _ _ c
is_at xs (suc m) {n} h (a_both {a = a} {b = b} {p = p} {q = q} c i j d e) =
    node-is xs m n _ _ _ _ _ _ c ∙ ap (λ u. both u (node_at xs m b)) (is_at xs m (omega arith) d) ∙ ap (λ u. both p u) (is_at xs m (omega arith) e)
is_at xs (suc m) {n} h (a_moved {r = r} {b = b} c i d) = node-is xs m n _ _ _ _ _ _ c ∙ ap (moved r b) (is_at xs m (omega arith) d)
is_at xs (suc m) {n} h (a_turned {s = s} c i d) = node-is xs m n _ _ _ _ _ _ c ∙ ap (turned s) (is_at xs m (omega arith) d)
is_at xs (suc m) {n} h (a_mirrored {s = s} c i d) = node-is xs m n _ _ _ _ _ _ c ∙ ap (mirrored s) (is_at xs m (omega arith) d)
is_at xs (suc m) {n} h (a_row {m = k} {f = f} c i d) = node-is xs m n _ _ _ _ _ _ c ∙ ap (row k f) (is_at xs m (omega arith) d)
is_at xs (suc m) {n} h (a_column {m = k} {f = f} c i d) = node-is xs m n _ _ _ _ _ _ c ∙ ap (column k f) (is_at xs m (omega arith) d)
