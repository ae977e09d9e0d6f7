-- The lines that an iterator has left. Assumes nothing: these are definitions.
use Rattle.std.specs.Prelude.{ℕ, List, []}
use Rattle.words.specs.Lines.{lines_of}
use Rattle.words.specs.Steps.{by_some}
use Rattle.words.specs.declared.line.Lines.{Lines}

abbrev pub lines_left : Lines → List (List ℕ)
lines_left l = by_some l.rest [] (λ r. lines_of r.now)
