-- What `mark_layers` keeps true as it goes round.
use Rattle.std.proofs.Common.{◌≡◌, ℕ, ◌<◌, true, length, get_or}
use Rattle.rules.specs.Values.{among}
use Rattle.rules.specs.declared.term.Term.TheVariants.{Layer}
use Rattle.rules.proofs.Marks.{Markable}
use Rattle.rules.proofs.rule.Rule.mark_layers.Given as goal

abbrev pub invariant-loop-term : goal.invariant-loop-term
invariant-loop-term l =
    Markable l.term-items
    × ((i k : ℕ) → i < l.term-index → get_or l.term-items i (Layer 0) ≡ Layer k → among l.wanted k ≡ true)
    × ((k : ℕ) → among l.initial.wanted k ≡ true → among l.wanted k ≡ true)
    × (length l.wanted ≡ 256)
