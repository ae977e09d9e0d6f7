-- What boxes cover after each of the ways to change them. Assumes nothing.
use Rattle.std.proofs.Common.{◌≡◌, ℕ, zero, suc, ◌+◌, ◌-◌, ◌*◌, ◌<◌, ◌≤◌, Bool, true, false, ◌&&◌, ◌||◌, ltb, leb, List, [], ◌∷◌, ◌++◌, map, length, get_or, drop, sym, refl, ap, ◌∙◌, mul-zero, arith}
use Rattle.std.specs.List.{list_any}
use Rattle.std.proofs.lemmas.List.{at_drop_more, at_drop_all}
use Rattle.std.proofs.lemmas.Bool.Decides.{nat_tests}
use Rattle.layout.specs.Layout.{Layout, nothing, box, both, moved, turned, mirrored, row, column, cell, Drawing, shifted, in_a_row, in_a_column, drawn_with}
use Rattle.layout.specs.Rects.{in_rect, covered, move_rect, turn_rect, mirror_rect, copies, rects}
use Rattle.layout.specs.declared.rect.Rect.{Rect}

pub move_in : (r b : ℕ) (q : Rect) (l x y : ℕ) → in_rect (move_rect r b q) l x y ≡ ((leb r x && leb b y) && in_rect q l (x - r) (y - b))
unfolding in_rect
move_in r b q l x y = grind (arith, nat_tests)

pub turn_in : (s : ℕ) (q : Rect) (l x y : ℕ) → in_rect (turn_rect s q) l x y ≡ ((ltb x s && ltb y s) && in_rect q l y (s - 1 - x))
unfolding in_rect
turn_in s q l x y = grind (arith, nat_tests)

pub mirror_in : (s : ℕ) (q : Rect) (l x y : ℕ) → in_rect (mirror_rect s q) l x y ≡ (ltb x s && in_rect q l (s - 1 - x) y)
unfolding in_rect
mirror_in s q l x y = grind (arith, nat_tests)

-- a change of each box that is a test and a change of places
pub map-in : (f : Rect → Rect) (g : Bool) (l x y u v : ℕ) → ((q : Rect) → in_rect (f q) l x y ≡ (g && in_rect q l u v)) → (qs : List Rect) → covered (map f qs) l x y ≡ (g && covered qs l u v)
unfolding covered
map-in f true l x y u v e [] = refl
map-in f false l x y u v e [] = refl
map-in f true l x y u v e (q ∷ qs) = simp (e q, map-in f true l x y u v e qs)
map-in f false l x y u v e (q ∷ qs) = simp (e q, map-in f false l x y u v e qs)

pub covered-any : (l x y : ℕ) (qs : List Rect) → covered qs l x y ≡ list_any (λ q. in_rect q l x y) qs
unfolding covered
covered-any l x y [] = refl
covered-any l x y (q ∷ qs) = simp (covered-any l x y qs)

pub covered-append : (qs ps : List Rect) (l x y : ℕ) → covered (qs ++ ps) l x y ≡ (covered qs l x y || covered ps l x y)
unfolding covered
covered-append [] ps l x y = refl
covered-append (q ∷ qs) ps l x y = let e = covered-append qs ps l x y in grind (arith, nat_tests)

-- at one place a drawing may stand for another that is the same everywhere
pub shifted_like : (d e : Drawing) → ((l x y : ℕ) → d l x y ≡ e l x y) → (r b l x y : ℕ) → shifted r b d l x y ≡ shifted r b e l x y
unfolding shifted
shifted_like d e h r b l x y = simp (h l (x - r) (y - b))

pub row-like : (d e : Drawing) → ((l x y : ℕ) → d l x y ≡ e l x y) → (n f l x y : ℕ) → in_a_row n f d l x y ≡ in_a_row n f e l x y
unfolding in_a_row
row-like d e h zero f l x y = refl
row-like d e h (suc n) f l x y = simp (shifted_like d e h (n * f) 0 l x y, row-like d e h n f l x y)

pub column-like : (d e : Drawing) → ((l x y : ℕ) → d l x y ≡ e l x y) → (n f l x y : ℕ) → in_a_column n f d l x y ≡ in_a_column n f e l x y
unfolding in_a_column
column-like d e h zero f l x y = refl
column-like d e h (suc n) f l x y = simp (shifted_like d e h 0 (n * f) l x y, column-like d e h n f l x y)

pub move_draws : (r b : ℕ) (qs : List Rect) (l x y : ℕ) → covered (map (move_rect r b) qs) l x y ≡ shifted r b (covered qs) l x y
unfolding shifted
move_draws r b qs l x y = let e = map-in (move_rect r b) (leb r x && leb b y) l x y (x - r) (y - b) (λ q. move_in r b q l x y) qs in grind (arith, nat_tests)

pub row-draws : (n f : ℕ) (qs : List Rect) (l x y : ℕ) → covered (copies n f 0 qs) l x y ≡ in_a_row n f (covered qs) l x y
unfolding copies in_a_row covered
row-draws zero f qs l x y = refl
row-draws (suc n) f qs l x y =
    let a = covered-append (copies n f 0 qs) (map (move_rect (n * f) (n * 0)) qs) l x y in
    let b = row-draws n f qs l x y in
    let m = move_draws (n * f) (n * 0) qs l x y in
    let z : shifted (n * f) (n * 0) (covered qs) l x y ≡ shifted (n * f) 0 (covered qs) l x y = simp mul-zero in
    grind (arith, nat_tests)

pub column-draws : (n f : ℕ) (qs : List Rect) (l x y : ℕ) → covered (copies n 0 f qs) l x y ≡ in_a_column n f (covered qs) l x y
unfolding copies in_a_column covered
column-draws zero f qs l x y = refl
column-draws (suc n) f qs l x y =
    let a = covered-append (copies n 0 f qs) (map (move_rect (n * 0) (n * f)) qs) l x y in
    let b = column-draws n f qs l x y in
    let m = move_draws (n * 0) (n * f) qs l x y in
    let z : shifted (n * 0) (n * f) (covered qs) l x y ≡ shifted 0 (n * f) (covered qs) l x y = simp mul-zero in
    grind (arith, nat_tests)

-- the boxes of a layout cover what it draws
pub rects-draw : (a : Layout) (l x y : ℕ) → covered (rects a) l x y ≡ drawn_with (λ k l x y. false) a l x y
unfolding rects covered drawn_with in_rect
rects-draw nothing l x y = refl
rects-draw (box m u v p d) l x y = grind (arith, nat_tests)
rects-draw (both a b) l x y =
    let e = rects-draw a l x y in let f = rects-draw b l x y in let g = covered-append (rects a) (rects b) l x y in grind (arith, nat_tests)
rects-draw (moved r b a) l x y = move_draws r b (rects a) l x y ∙ shifted_like _ _ (rects-draw a) r b l x y
rects-draw (turned s a) l x y =
    let e = map-in (turn_rect s) (ltb x s && ltb y s) l x y y (s - 1 - x) (λ q. turn_in s q l x y) (rects a) in
    let f = rects-draw a l y (s - 1 - x) in
    grind (arith, nat_tests)
rects-draw (mirrored s a) l x y =
    let e = map-in (mirror_rect s) (ltb x s) l x y (s - 1 - x) y (λ q. mirror_in s q l x y) (rects a) in
    let f = rects-draw a l (s - 1 - x) y in
    grind (arith, nat_tests)
rects-draw (row n f a) l x y = row-draws n f (rects a) l x y ∙ row-like _ _ (rects-draw a) n f l x y
rects-draw (column n f a) l x y = column-draws n f (rects a) l x y ∙ column-like _ _ (rects-draw a) n f l x y
rects-draw (cell k) l x y = refl

-- a loop that looks at one box after the other
module _ (qs : List Rect) (i : ℕ) (l x y : ℕ) (so_far : covered (drop i qs) l x y ≡ covered qs l x y) where
  pub covered-hit : (d : Rect) → i < length qs → true ≡ in_rect (get_or qs i d) l x y → true ≡ covered qs l x y
  unfolding covered
  covered-hit d h t = ap (λ b. b || covered (drop (i + 1) qs) l x y) t ∙ sym (at_drop_more (λ ps. covered ps l x y) qs i d h) ∙ so_far

  pub covered_next : (d : Rect) → i < length qs → false ≡ in_rect (get_or qs i d) l x y → covered (drop (i + 1) qs) l x y ≡ covered qs l x y
  unfolding covered
  covered_next d h t = ap (λ b. b || covered (drop (i + 1) qs) l x y) t ∙ sym (at_drop_more (λ ps. covered ps l x y) qs i d h) ∙ so_far

  pub covered-end : length qs ≤ i → false ≡ covered qs l x y
  unfolding covered
  covered-end h = sym (at_drop_all (λ ps. covered ps l x y) qs i h) ∙ so_far
