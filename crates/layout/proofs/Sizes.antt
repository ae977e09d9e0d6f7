-- How many boxes a layout has, how far they reach, and which node a name stands for. Assumes nothing.
use Rattle.std.proofs.Common.{◌≡◌, ℕ, zero, suc, ◌+◌, ◌*◌, ◌≤◌, List, [], ◌∷◌, map, length, sym, refl, ap, ◌∙◌, suc-mul, zero-mul, arith}
use Rattle.std.proofs.lemmas.List.{length-append, length-map}
use Rattle.std.proofs.ByRecursion.{All-append}
use Rattle.std.specs.List.{AllByRecursion}
use Rattle.layout.specs.Layout.{Layout, nothing, box, both, moved, turned, mirrored, row, column, cell}
use Rattle.layout.specs.Numbers.{boxes}
use Rattle.layout.specs.Rects.{move_rect, turn_rect, mirror_rect, copies, rects, Within}
use Rattle.layout.specs.declared.rect.Rect.{Rect}

pub copies_length : (n r b : ℕ) (qs : List Rect) → length (copies n r b qs) ≡ n * length qs
unfolding copies
copies_length zero r b qs = sym (zero-mul (length qs))
copies_length (suc n) r b qs =
    omega (arith, length-append (copies n r b qs) (map (move_rect (n * r) (n * b)) qs), length-map qs (move_rect (n * r) (n * b)), copies_length n r b qs, suc-mul n (length qs))

pub rects-length : (a : Layout) → length (rects a) ≡ boxes (λ k. 0) a
unfolding rects boxes
rects-length nothing = refl
rects-length (box m u v p d) = refl
rects-length (both a b) = omega (arith, length-append (rects a) (rects b), rects-length a, rects-length b)
rects-length (moved r b a) = length-map (rects a) (move_rect r b) ∙ rects-length a
rects-length (turned s a) = length-map (rects a) (turn_rect s) ∙ rects-length a
rects-length (mirrored s a) = length-map (rects a) (mirror_rect s) ∙ rects-length a
rects-length (row n f a) = copies_length n f 0 (rects a) ∙ ap (λ k. n * k) (rects-length a)
rects-length (column n f a) = copies_length n 0 f (rects a) ∙ ap (λ k. n * k) (rects-length a)
rects-length (cell k) = refl

-- how far boxes reach
pub all_map_to : (P Q : Rect → Type 0) (f : Rect → Rect) → ((q : Rect) → P q → Q (f q)) → (qs : List Rect) → AllByRecursion P qs → AllByRecursion Q (map f qs)
all_map_to P Q f h [] k = tt
all_map_to P Q f h (q ∷ qs) k = (h q k.0, all_map_to P Q f h qs k.1)

pub move_within : (m n r b : ℕ) → m + r ≤ n → m + b ≤ n → (qs : List Rect) → AllByRecursion (Within m) qs → AllByRecursion (Within n) (map (move_rect r b) qs)
move_within m n r b h k = all_map_to (Within m) (Within n) (move_rect r b) (λ q w. (omega arith, omega arith))

pub turn_within : (m n s : ℕ) → m ≤ n → s ≤ n → (qs : List Rect) → AllByRecursion (Within m) qs → AllByRecursion (Within n) (map (turn_rect s) qs)
turn_within m n s h k = all_map_to (Within m) (Within n) (turn_rect s) (λ q w. (omega arith, omega arith))

pub mirror_within : (m n s : ℕ) → m ≤ n → s ≤ n → (qs : List Rect) → AllByRecursion (Within m) qs → AllByRecursion (Within n) (map (mirror_rect s) qs)
mirror_within m n s h k = all_map_to (Within m) (Within n) (mirror_rect s) (λ q w. (omega arith, omega arith))

pub copies-within : (m n k r b : ℕ) → m + k * r ≤ n → m + k * b ≤ n → (qs : List Rect) → AllByRecursion (Within m) qs → AllByRecursion (Within n) (copies k r b qs)
unfolding copies
copies-within m n zero r b h i qs w = tt
copies-within m n (suc k) r b h i qs w =
    let p : m + k * r ≤ n = omega (arith, suc-mul k r) in
    let q : m + k * b ≤ n = omega (arith, suc-mul k b) in
    All-append (Within n) (copies k r b qs) (map (move_rect (k * r) (k * b)) qs) (copies-within m n k r b p q qs w) (move_within m n (k * r) (k * b) p q qs w)
