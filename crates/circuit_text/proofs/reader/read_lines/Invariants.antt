-- What the loop of read_lines keeps.
use Rattle.words.specs.LinesLeft.{lines_left}
use Rattle.words.proofs.Listings.{Listing}
use Rattle.circuit_text.specs.Circuits.{blank, circuit_of}
use Rattle.circuit_text.specs.Statements.{stated}
use Rattle.circuit_text.proofs.reader.read_lines.Given as goal

abbrev pub invariant-loop-line : goal.invariant-loop-line
invariant-loop-line l = Listing stated blank l.text (lines_left l.line-iterator.iter) l.line-iterator.count (circuit_of l.circuit)
