-- What `read` needs beyond what the search finds.
use Rattle.std.proofs.Common.{refl, arith}
use Rattle.layout.proofs.Checks.{shaped, sound_from, refused_1, refused-2a, refused-2b}
use Rattle.layout.proofs.nodes.Nodes.read.Goals as goal

pub returns-then-len-eq0 : goal.returns-then-len-eq0
returns-then-len-eq0 c = (
  (
    refused_1 c.args.numbers.now (λ w s f. elim c.then-len-eq0.branch [
      | goal.then-len-eq0-via-then-len-eq0 v ↦ omega arith
      | goal.then-len-eq0-via-else-len-eq0+then-len v ↦ omega arith
      | goal.then-len-eq0-via-else-len-eq0+else-len+then-len-ne0 v ↦ omega arith
    ]),
    refl,
  ),
  omega arith,
)

pub returns-in-Some : goal.returns-in-Some
returns-in-Some c =
    let s = shaped c.args.numbers.now c.if-len-eq0.false c.if-len.false c.if-len-ne0.false in
    let h = c.in-Some.ensures in
    ((refused-2a c.args.numbers.now s.0 s.1 s.2 c.in-Some.place h.1, h), omega arith)

pub first_late-requires : goal.first_late-requires
first_late-requires c =
    let s = shaped c.args.numbers.now c.if-len-eq0.false c.if-len.false c.if-len-ne0.false in
    record { whole = s.0; small = c.in_default.ensures }

pub returns-in-Some-first_late : goal.returns-in-Some-first_late
returns-in-Some-first_late c =
    let s = shaped c.args.numbers.now c.if-len-eq0.false c.if-len.false c.if-len-ne0.false in
    let h = c.in-Some-first_late.ensures in
    ((refused-2b c.args.numbers.now s.0 s.1 s.2 c.in-Some-first_late.n h.0 h.1, c.in_default.ensures, h), omega arith)

pub invariant_of-result : goal.invariant_of-result
invariant_of-result c = record { sound = sound_from c.args.numbers.now c.if-len-eq0.false c.if-len.false c.if-len-ne0.false c.in_default.ensures c.in_default-first_late.ensures }
