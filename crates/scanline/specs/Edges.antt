-- What a `Line` holds. Assumes nothing.
use Rattle.std.specs.Prelude.{ℕ, List, vec_items}
use Rattle.scanline.specs.declared.lines.Line.{Line}

abbrev pub edges_of : Line → List ℕ
edges_of l = vec_items l.edges
