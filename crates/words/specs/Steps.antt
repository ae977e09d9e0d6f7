-- What comes of a value that may be missing, or of one step after another. Assumes nothing: these are definitions.
use Rattle.std.specs.Prelude.{Some, None, Ok, Err, Option, Result}

abbrev pub by_some : {A B : Type 0} → Option A → B → (A → B) → B
by_some None b f = b
by_some (Some a) b f = f a

abbrev pub and_then : {A B E : Type 0} → Result A E → (A → Result B E) → Result B E
and_then (Ok a) f = f a
and_then (Err e) f = Err e
