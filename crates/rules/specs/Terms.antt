-- Regions of a rule as they are held: each a term that names earlier ones. Assumes nothing: these are definitions.
use Rattle.std.specs.Prelude.{◌≡◌, ℕ, ◌+◌, ◌*◌, ◌<◌, ◌≤◌, ◌⊎◌, List, [], ◌∷◌, Some, None, Ok, Err, Result}
use Rattle.std.specs.List.{AllByRecursion}
use Rattle.layout.specs.Refusals.{place_of}
use Rattle.layout.specs.declared.refusal.Refusal.{Refusal}
use Rattle.layout.specs.declared.refusal.Refusal.TheVariants.{Region}
use Rattle.rules.specs.Rules as rules
use Rattle.rules.specs.Numbers.{region_of, region_fault, further, max_number}
use Rattle.rules.specs.declared.term.Term.{Term}
use Rattle.rules.specs.declared.term.Term.TheVariants.{Layer, And, Or, Without, Grown}

-- the region that a term is, with what the named ones are
abbrev pub term_region : (ℕ → rules.Region) → Term → rules.Region
term_region f (Layer l) = rules.layer l
term_region f (And a b) = rules.and (f a) (f b)
term_region f (Or a b) = rules.or (f a) (f b)
term_region f (Without a b) = rules.without (f a) (f b)
term_region f (Grown n a) = rules.grown n (f a)

-- the terms that a term names, and its layer or how far it grows
abbrev pub named : Term → List ℕ
named (Layer l) = []
named (And a b) = a ∷ b ∷ []
named (Or a b) = a ∷ b ∷ []
named (Without a b) = a ∷ b ∷ []
named (Grown n a) = a ∷ []

abbrev pub number_in : Term → ℕ
number_in (Layer l) = l
number_in (And a b) = 0
number_in (Or a b) = 0
number_in (Without a b) = 0
number_in (Grown n a) = n

-- it names terms below n only, and its number is small
abbrev pub Names : ℕ → Term → Type 0
Names n t = (number_in t ≤ max_number) × AllByRecursion (λ a. a < n) (named t)

pub record Read (n k a b : ℕ) (t : Term) : Type 0 where
  pub sound : region_fault n k a b ≡ None
  pub names : Names n t
  pub same : (f : ℕ → rules.Region) → region_of f k a b ≡ term_region f t

-- a number below a limit, or that it isn't
abbrev pub Under : (limit number place : ℕ) → Result ℕ Refusal → Type 0
Under m x p (Ok y) = (x < m) × (y ≡ x)
Under m x p (Err e) = (m ≤ x) × (e ≡ Region p)

-- two terms before term n, or the first that isn't
abbrev pub TwoEarlier : (n a b : ℕ) → Result (ℕ × ℕ) Refusal → Type 0
TwoEarlier n a b (Ok p) = (a < n) × (b < n) × (p.0 ≡ a) × (p.1 ≡ b)
TwoEarlier n a b (Err e) = ((n ≤ a) × (e ≡ Region (3 * n + 1))) ⊎ ((a < n) × (n ≤ b) × (e ≡ Region (3 * n + 2)))

-- the term of three numbers, or the place of the first of them at fault
abbrev pub Reads : (n k a b : ℕ) → Result Term Refusal → Type 0
Reads n k a b (Ok t) = Read n k a b t
Reads n k a b (Err e) = (e ≡ Region (place_of e)) × (further (3 * n) (region_fault n k a b) ≡ Some (place_of e))
