-- proofs/left/Words/skip/Answers.antt
-- What `skip` needs beyond what the search finds.
use Rattle.std.proofs.Common.{◌∙◌, ap, length, arith}
use Rattle.words.proofs.WordsLeft.{one-on, newline-on, blank-on, comment-on}
use Rattle.words.proofs.left.Words.skip.Goals as goal

pub invariant_of-self : goal.invariant_of-self
invariant_of-self c =
    let s = c.loop-byte.self in
    let is = c.in-Some.ensures.cases.0 in
    record { long = omega (arith, s.long, ap length is); suffix = one-on s.marks _ s.line _ s.long _ _ is s.suffix; lines = omega (arith, s.long, s.lines, ap length is) }

pub loop-byte-preserved-in-Newline : goal.loop-byte-preserved-in-Newline
loop-byte-preserved-in-Newline c = (c.loop-byte.invariant.0, newline-on _ _ _ _ c.loop-byte.self.long _ _ c.in-Some.ensures.cases.0 c.in-Newline.ensures ∙ c.loop-byte.invariant.1)

pub invariant_of-self-in-Blank : goal.invariant_of-self-in-Blank
invariant_of-self-in-Blank c =
    let s = c.loop-byte.self in
    let is = c.in-Some.ensures.cases.0 in
    record { long = omega (arith, s.long, ap length is); suffix = one-on s.marks _ s.line _ s.long _ _ is s.suffix; lines = omega (arith, s.long, s.lines, ap length is) }

pub loop-byte-preserved-in-Blank : goal.loop-byte-preserved-in-Blank
loop-byte-preserved-in-Blank c = (c.loop-byte.invariant.0, blank-on _ _ _ _ c.loop-byte.self.long _ _ c.in-Some.ensures.cases.0 c.in-Blank.ensures ∙ c.loop-byte.invariant.1)

pub loop-byte-preserved : goal.loop-byte-preserved
loop-byte-preserved c = (c.loop-byte.invariant.0, comment-on _ _ _ _ c.loop-byte.self.long _ _ c.in-Some.ensures.cases.0 c.in-Comment.ensures _ c.line_length.ensures _ c.split_at.ensures.back ∙ c.loop-byte.invariant.1)
