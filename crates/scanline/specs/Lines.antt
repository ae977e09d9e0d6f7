-- Lines as lists of edges, and what they hold. Assumes nothing.
use Rattle.std.specs.Prelude.{◌≡◌, ℕ, suc, ◌+◌, ◌-◌, ◌^◌, ◌<◌, ◌≤◌, Bool, true, false, cond, not, ◌&&◌, ◌||◌, ◌⊎◌, List, [], ◌∷◌, ◌++◌, Decides, ◌==◌, nat_le}
use Rattle.std.specs.Bool.{beq}
use Rattle.scanline.specs.declared.Op.{Op}
use Rattle.scanline.specs.declared.Op.TheVariants.{And, Or, Without, Xor}

-- whether just one of the two holds
abbrev pub differ : Bool → Bool → Bool
differ a b = not (beq a b)

-- whether an odd number of the edges lie at or before x
abbrev pub inside : List ℕ → ℕ → Bool
inside [] x = false
inside (e ∷ es) x = differ (nat_le e x) (inside es x)

-- whether the edges are strictly increasing, from p on
abbrev pub rises : ℕ → List ℕ → Bool
rises p [] = true
rises p (e ∷ es) = nat_le p e && rises (suc e) es

-- a ghost field's type must have at most one proof, which antt sees of an equation
abbrev pub Sorted : List ℕ → Type 0
Sorted es = rises 0 es ≡ true

abbrev pub applied : Op → Bool → Bool → Bool
applied And a b = a && b
applied Or a b = a || b
applied Without a b = a && not b
applied Xor a b = differ a b

pub record Combined (op : Op) (a b r : List ℕ) : Type 0 where
  pub ordered : Sorted r
  pub holds : (x : ℕ) → inside r x ≡ applied op (inside a x) (inside b x)

-- the line that turns at 0 just where this one does not
abbrev pub toggled : List ℕ → List ℕ
toggled [] = 0 ∷ []
toggled (e ∷ es) = cond (e == 0) es (0 ∷ e ∷ es)

-- x is in the set A, or at most n to the right of a place in it
abbrev pub Near : ℕ → (ℕ → Bool) → ℕ → Type 0
Near n A x = (y : ℕ) × (y ≤ x) × (x ≤ y + n) × (A y ≡ true)

-- nothing changes from some place on, and n more can still be named by a u64
pub record Room (n : ℕ) (A : ℕ → Bool) : Type 0 where
  pub end : ℕ
  pub fits : end + n < 2 ^ 64
  pub still : (x : ℕ) → end ≤ x → A x ≡ A end

-- at each place that a u64 can name, and with room at all places
pub record Widened (n : ℕ) (a r : List ℕ) : Type 0 where
  pub holds : (x : ℕ) → (x < 2 ^ 64) ⊎ Room n (inside a) → Decides (inside r x) (Near n (inside a) x)

pub record MovedRight (n : ℕ) (a r : List ℕ) : Type 0 where
  pub holds : (x : ℕ) → (x < 2 ^ 64) ⊎ Room n (inside a) → inside r x ≡ (nat_le n x && inside a (x - n))

-- what moves past the first place is gone
pub record MovedLeft (n : ℕ) (a r : List ℕ) : Type 0 where
  pub holds : (x : ℕ) → inside r x ≡ inside a (x + n)

-- whether the first edge is at e or before
abbrev pub reached : ℕ → List ℕ → Bool
reached e [] = false
reached e (f ∷ fs) = nat_le f e

-- whether e is the last edge
abbrev pub ends_in : ℕ → List ℕ → Bool
ends_in e [] = false
ends_in e (f ∷ []) = f == e
ends_in e (f ∷ g ∷ gs) = ends_in e (g ∷ gs)

-- `after` is `before` with an edge more at the end, or one fewer where it stands there
abbrev pub Toggled : ℕ → List ℕ → List ℕ → Type 0
Toggled e before after = ((ends_in e before ≡ true) × (before ≡ after ++ e ∷ [])) ⊎ ((ends_in e before ≡ false) × (after ≡ before ++ e ∷ []))
