-- What a decoded technology means. Assumes nothing: these are definitions.
use Rattle.std.specs.Prelude.{◌≡◌, ℕ, zero, suc, ◌+◌, ◌*◌, Bool, false, ◌&&◌, ◌||◌, List, [], ◌∷◌, ◌++◌, length, Ok, Err, Result, vec_items, ◌==◌, slice_index, slice_index_or}
use Rattle.layout.specs.declared.refusal.Refusal.{Refusal}
use Rattle.layout.specs.declared.refusal.Refusal.TheVariants.{Technology as OfTechnology}
use Rattle.nets.specs.declared.process.Join.{Join}
use Rattle.nets.specs.declared.process.Process.{Process}
use Rattle.nets.specs.declared.technology.Technology.{Technology as Numbers}
use Rattle.nets.specs.Technologies.{technology_ok}
use Rattle.nets.specs.Nets.{Technology}

-- which of the first n layers are marked
abbrev pub marks_of : List ℕ → ℕ → List Bool
marks_of xs zero = []
marks_of xs (suc n) = marks_of xs n ++ (slice_index xs (4 + n) == 1) ∷ []

-- n joins, in threes from a place on
abbrev pub joins_of : List ℕ → (from n : ℕ) → List Join
joins_of xs from zero = []
joins_of xs from (suc n) = joins_of xs from n ++ record { by = slice_index xs (from + 3 * n); one = slice_index xs (from + 3 * n + 1); other = slice_index xs (from + 3 * n + 2) } ∷ []

abbrev pub join_at : List Join → ℕ → Join
join_at js n = slice_index_or js n (record { by = 0; one = 0; other = 0 })

-- whether one of the first n joins says that j joins a and b
abbrev pub joins_among : List Join → ℕ → (j a b : ℕ) → Bool
joins_among js zero j a b = false
joins_among js (suc n) j a b = ((join_at js n).by == j && ((join_at js n).one == a && (join_at js n).other == b)) || joins_among js n j a b

abbrev pub technology_of : Process → Technology
technology_of p = record {
  carries = λ l. slice_index_or (vec_items p.carries) l false;
  joins = joins_among (vec_items p.joins) (length (vec_items p.joins));
  gate = p.gate;
  crossed = p.crossed;
}

-- the technology of the numbers, or the refusal that tells how many there are
abbrev pub TechnologyRead : List ℕ → Result Numbers Refusal → Type 0
TechnologyRead xs (Ok t) = t.numbers.now ≡ xs
TechnologyRead xs (Err e) = (technology_ok xs ≡ false) × (e ≡ OfTechnology (length xs))
