-- A layout in numbers: nodes of six that name earlier nodes only. Assumes nothing: these are definitions.
use Rattle.std.specs.Prelude.{ℕ, zero, suc, ◌+◌, ◌-◌, ◌*◌, Bool, true, ◌&&◌, List, [], ◌∷◌, length, ◌==◌, nat_le, nat_lt, slice_index}
use Rattle.layout.specs.Limits.{max_boxes, max_nodes, max_number}
use Rattle.layout.specs.Layout.{pick, Layout, nothing, box, both, moved, turned, mirrored, row, column, cell, Drawing, drawn}

-- a layout is nodes of six numbers that name earlier nodes only, the last being the layout: 0 nothing, 1 box layer x y across down, 2 both a b, 3 moved right below a, 4 turned side a, 5 mirrored side a, 6 row many far a, 7 column many far a
unfoldable pub node_of : (ℕ → Layout) → (k a b c e f : ℕ) → Layout
node_of n k a b c e f =
    pick (k == 0) nothing (pick (k == 1) (box a b c e f) (pick (k == 2) (both (n a) (n b)) (pick (k == 3) (moved a b (n c)) (pick (k == 4) (turned a (n b)) (pick (k == 5) (mirrored a (n b)) (pick (k == 6) (row a b (n c)) (column a b (n c))))))))

unfoldable pub node_at : List ℕ → (levels : ℕ) → ℕ → Layout
node_at xs zero n = nothing
node_at xs (suc l) n = node_of (node_at xs l) (slice_index xs (6 * n)) (slice_index xs (6 * n + 1)) (slice_index xs (6 * n + 2)) (slice_index xs (6 * n + 3)) (slice_index xs (6 * n + 4)) (slice_index xs (6 * n + 5))

unfoldable pub sixes : List ℕ → ℕ
sixes [] = 0
sixes (a ∷ []) = 0
sixes (a ∷ (b ∷ [])) = 0
sixes (a ∷ (b ∷ (c ∷ []))) = 0
sixes (a ∷ (b ∷ (c ∷ (d ∷ [])))) = 0
sixes (a ∷ (b ∷ (c ∷ (d ∷ (e ∷ []))))) = 0
sixes (a ∷ (b ∷ (c ∷ (d ∷ (e ∷ (f ∷ xs)))))) = suc (sixes xs)

unfoldable pub layout_in : List ℕ → Drawing
layout_in xs = drawn (λ k. nothing) 0 (node_at xs (sixes xs) (sixes xs - 1))

unfoldable pub all_at_most : ℕ → List ℕ → Bool
all_at_most m [] = true
all_at_most m (x ∷ xs) = nat_le x m && all_at_most m xs

unfoldable pub earlier_1 : ℕ → (k a b c : ℕ) → Bool
earlier_1 n k a b c = nat_le k 7 && pick (nat_le k 1) true (pick (k == 2) (nat_lt a n && nat_lt b n) (pick (k == 3) (nat_lt c n) (pick (nat_le k 5) (nat_lt b n) (nat_lt c n))))

unfoldable pub earlier : List ℕ → ℕ → Bool
earlier xs zero = true
earlier xs (suc n) = earlier_1 n (slice_index xs (6 * n)) (slice_index xs (6 * n + 1)) (slice_index xs (6 * n + 2)) (slice_index xs (6 * n + 3)) && earlier xs n

-- how many boxes a layout has when it is written out
unfoldable pub boxes : (cells : ℕ → ℕ) → Layout → ℕ
boxes c nothing = 0
boxes c (box m u v a d) = 1
boxes c (both a b) = boxes c a + boxes c b
boxes c (moved r b a) = boxes c a
boxes c (turned s a) = boxes c a
boxes c (mirrored s a) = boxes c a
boxes c (row n f a) = n * boxes c a
boxes c (column n f a) = n * boxes c a
boxes c (cell k) = c k

unfoldable pub few_boxes : List ℕ → Bool
few_boxes xs = nat_le (boxes (λ k. 0) (node_at xs (sixes xs) (sixes xs - 1))) max_boxes

unfoldable pub layout_refusal : List ℕ → ℕ
layout_refusal xs =
    pick (length xs == 6 * sixes xs && (nat_le 1 (sixes xs) && nat_le (sixes xs) max_nodes)) (pick (all_at_most max_number xs && earlier xs (sixes xs)) (pick (few_boxes xs) 0 3) 2) 1
