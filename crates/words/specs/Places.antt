-- The number of a name among others, and a map that has it. Assumes nothing: these are definitions.
use Rattle.std.specs.Prelude.{◌≡◌, ℕ, zero, suc, ◌<◌, cond, List, map, length, Some, None, vec_items, Option, Vec, slice_index_or, []}
use Rattle.std.specs.List.{AllByRecursion}
use Rattle.indexmap.specs.IndexMap.{IndexMap, keys, get_by}
use Rattle.std.specs.Str.{bytes_eq}
use Rattle.std.specs.declared.alloc.Global.{Global}

-- the number of the last of the first k names that is spelled so
unfoldable pub place_below : List (List ℕ) → List ℕ → ℕ → Option ℕ
place_below ns name zero = None
place_below ns name (suc k) = cond (bytes_eq (slice_index_or ns k []) name) (Some k) (place_below ns name k)

abbrev pub place_of : List (List ℕ) → List ℕ → Option ℕ
place_of ns name = place_below ns name (length ns)

-- how the names of a table are spelled, in its order
abbrev pub spelled : {S : Type 0} → IndexMap (Vec ℕ Global) ℕ S → List (List ℕ)
spelled numbers = map vec_items (keys numbers)

abbrev pub spelled_at : List (List ℕ) → ℕ → List ℕ
spelled_at ns place = slice_index_or ns place []

-- the places lie in the table, which has the number of each name, and nothing else
abbrev pub Placed : {S : Type 0} → List ℕ → IndexMap (Vec ℕ Global) ℕ S → Type 0
Placed places numbers =
    AllByRecursion (λ p. p < length (spelled numbers)) places
    × ((name : List ℕ) → get_by (λ k. bytes_eq name (vec_items k)) numbers ≡ place_of (map (spelled_at (spelled numbers)) places) name)
