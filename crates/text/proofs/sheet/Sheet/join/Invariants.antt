-- What `join` keeps true as it goes round.
use Rattle.std.proofs.Common.{◌≡◌, drop}
use Rattle.text.specs.Sheets.{joined, joined_to, sheet_of}
use Rattle.text.proofs.sheet.Sheet.join.Given as goal

abbrev pub invariant-loop-part : goal.invariant-loop-part
invariant-loop-part l = joined_to (sheet_of l.self) l.node (drop l.part-index l.others) l.line ≡ joined (sheet_of l.initial.self) l.fn.parts l.line
