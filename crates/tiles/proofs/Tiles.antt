-- Tiles by their places in a list: what holds a square, and what comes before what.
use Rattle.std.proofs.Common.{◌≡◌, ℕ, zero, suc, ◌<◌, ◌≤◌, Bool, true, false, ◌||◌, leb, List, [], ◌∷◌, ◌++◌, length, Decides, sym, refl, subst, inl, inr, arith}
use Rattle.std.specs.List.{AllByRecursion}
use Rattle.std.proofs.lemmas.List.{get_or_past}
use Rattle.std.proofs.ByRecursion.{All-get_or, All-append}
use Rattle.std.proofs.lemmas.Bool.{cases_lt, cases_order, or_cases, or_left, or_right, leb-true, le-leb, false≢true}
use Rattle.std.proofs.lemmas.Bool.Decides.{Decides-eqb, Decides-ltb, Decides-and, Decides-like}
use Rattle.tiles.specs.declared.tile.Tile.{Tile}
use Rattle.tiles.specs.Tiles.{none, tile_at, Holds, in_tile, held, Solid, Before, Ascending, Ordered}

-- the test and the facts

decides_leb : (a b : ℕ) → Decides (leb a b) (a ≤ b)
decides_leb a b = (leb-true a b, le-leb a b)

pub holds_decides : (t : Tile) (l x y : ℕ) → Decides (in_tile t l x y) (Holds t l x y)
holds_decides t l x y =
    Decides-like _
    (λ p. record { level = sym p.0; top = p.1.0; bottom = p.1.1.0; left = p.1.1.1.0; right = p.1.1.1.1 })
    (λ h. (sym h.level, (h.top, (h.bottom, (h.left, h.right)))))
    (Decides-and _ _ (Decides-eqb l t.layer) (Decides-and _ _ (decides_leb t.top y) (Decides-and _ _ (Decides-ltb y t.bottom) (Decides-and _ _ (decides_leb t.left x) (Decides-ltb x t.right)))))

pub held-append : (ss ts : List Tile) (l x y : ℕ) → held (ss ++ ts) l x y ≡ (held ss l x y || held ts l x y)
held-append [] ts l x y = refl
held-append (s ∷ ss) ts l x y = rw (held-append ss ts l x y) (or_assoc (in_tile s l x y) (held ss l x y) (held ts l x y))
  where
    or_assoc : (a b c : Bool) → (a || (b || c)) ≡ ((a || b) || c)
    or_assoc true b c = refl
    or_assoc false b c = refl

-- a place in the list whose tile holds the square
pub held_place : (ts : List Tile) (l x y : ℕ) → held ts l x y ≡ true → (i : ℕ) × Holds (tile_at ts i) l x y
held_place [] l x y h = absurd (false≢true h)
held_place (t ∷ ts) l x y h =
    elim (or_cases (in_tile t l x y) (held ts l x y) h) [
      | inl e ↦ (0, (holds_decides t l x y).0 e)
      | inr e ↦ let p = held_place ts l x y e in (suc p.0, p.1)
    ]

pub place-held : (ts : List Tile) (i l x y : ℕ) → Holds (tile_at ts i) l x y → held ts l x y ≡ true
place-held [] i l x y h = let n : Holds none l x y = subst (λ t. Holds t l x y) (get_or_past [] i none (omega arith)) h in absurd (omega arith)
place-held (t ∷ ts) zero l x y h = or_left (in_tile t l x y) (held ts l x y) ((holds_decides t l x y).1 h)
place-held (t ∷ ts) (suc i) l x y h = or_right (in_tile t l x y) (held ts l x y) (place-held ts i l x y h)

-- what holds a square is in the list
pub holds-within : (ts : List Tile) (i l x y : ℕ) → Holds (tile_at ts i) l x y → i < length ts
holds-within ts i l x y h =
    elim (cases_lt i (length ts)) [
      | inl k ↦ k
      | inr g ↦ let n : Holds none l x y = subst (λ t. Holds t l x y) (get_or_past ts i none g) h in absurd (omega arith)
    ]

-- order by places

pub before_at : (ts : List Tile) (i j : ℕ) → Ascending ts → i < j → j < length ts → Before (tile_at ts i) (tile_at ts j)
before_at [] i j h l k = absurd (omega arith)
before_at (t ∷ ts) i zero h l k = absurd (omega arith)
before_at (t ∷ ts) zero (suc j) h l k = All-get_or (Before t) ts j none (omega arith) h.0
before_at (t ∷ ts) (suc i) (suc j) h l k = before_at ts i j h.1 (omega arith) (omega arith)

pub ascending_append : (ss ts : List Tile) → Ascending ss → Ascending ts → AllByRecursion (λ s. AllByRecursion (Before s) ts) ss → Ascending (ss ++ ts)
ascending_append [] ts a b h = b
ascending_append (s ∷ ss) ts a b h = (All-append (Before s) ss ts a.0 h.0, ascending_append ss ts a.1 b h.1)

pub ordered-append : (ss ts : List Tile) → Ordered ss → Ordered ts → AllByRecursion (λ s. AllByRecursion (Before s) ts) ss → Ordered (ss ++ ts)
ordered-append ss ts a b h = record {
  solid = All-append Solid ss ts a.solid b.solid;
  before = ascending_append ss ts a.before b.before h;
}

module _ (ts : List Tile) (order : Ordered ts) where
  pub solid-at : (i : ℕ) → i < length ts → Solid (tile_at ts i)
  solid-at i h = All-get_or Solid ts i none h order.solid

  pub before : (i j : ℕ) → i < j → j < length ts → Before (tile_at ts i) (tile_at ts j)
  before i j l k = before_at ts i j order.before l k

  -- no two tiles hold one square
  pub one-holder : (i j l x y : ℕ) → Holds (tile_at ts i) l x y → Holds (tile_at ts j) l x y → i ≡ j
  one-holder i j l x y h k =
      elim (cases_order i j) [
        | inl e ↦ e
        | inr o ↦ elim o [
          | inl m ↦ absurd (apart _ _ h k (before i j m (holds-within ts j l x y k)))
          | inr m ↦ absurd (apart _ _ k h (before j i m (holds-within ts i l x y h)))
        ]
      ]
    where
      apart : (a b : Tile) → Holds a l x y → Holds b l x y → Before a b → ⊥
      apart a b p q (inl e) = omega arith
      apart a b p q (inr (e, inl f)) = omega arith
      apart a b p q (inr (e, inr f)) = omega arith
