-- What `read_terms` keeps true as it goes round.
use Rattle.std.proofs.Common.{◌≡◌, length, None}
use Rattle.rules.specs.Numbers.{regions_fault}
use Rattle.rules.specs.Tests.{TermsRead}
use Rattle.rules.proofs.read.read_terms.Given as goal

abbrev pub invariant-loop-n : goal.invariant-loop-n
invariant-loop-n l = (length l.terms ≡ 16) × (regions_fault l.regions l.n ≡ None) × TermsRead l.regions l.n l.terms
