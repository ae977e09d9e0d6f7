-- What `evaluate_terms` keeps true as it goes round.
use Rattle.std.proofs.Common.{◌≡◌, ℕ, length, vec_items, vec_len}
use Rattle.layout.specs.Layout.{Drawing}
use Rattle.rules.specs.Tests.{terms_of}
use Rattle.rules.specs.Values.{Shown, Evaluated}
use Rattle.rules.proofs.rule.Rule.evaluate_terms.Given as goal

abbrev pub invariant-loop-n : goal.invariant-loop-n
invariant-loop-n l =
    (vec_len l.done ≡ l.n)
    × ((d : Drawing) (m : ℕ) → Shown d m l.layers (terms_of l.self) (length (terms_of l.self)) → Evaluated d (terms_of l.self) l.need l.n (vec_items l.done))
