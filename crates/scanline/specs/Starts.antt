-- Lists of what begins at places. Assumes nothing: these are definitions.
use Rattle.std.specs.Prelude.{ℕ, Bool, false, min, cond, List, [], ◌∷◌, Some, None, Option, ◌==◌}

-- where the first of either list begins
abbrev pub first_start : {T : Type 0} → (T → ℕ) → List T → List T → Option ℕ
first_start f [] [] = None
first_start f [] (y ∷ ys) = Some (f y)
first_start f (x ∷ xs) [] = Some (f x)
first_start f (x ∷ xs) (y ∷ ys) = Some (min (f x) (f y))

-- the first of a list begins at e
abbrev pub begins : {T : Type 0} → (T → ℕ) → ℕ → List T → Bool
begins f e [] = false
begins f e (x ∷ xs) = f x == e

-- the first of a list, if it begins at e, and what is left past it
abbrev pub starting : {T : Type 0} → (T → ℕ) → ℕ → List T → List T
starting f e [] = []
starting f e (x ∷ xs) = cond (f x == e) (x ∷ []) []

abbrev pub past : {T : Type 0} → (T → ℕ) → ℕ → List T → List T
past f e [] = []
past f e (x ∷ xs) = cond (f x == e) xs (x ∷ xs)
