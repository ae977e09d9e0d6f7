-- Statements drawn one after another. Assumes nothing.
use Rattle.std.proofs.Common.{◌≡◌, ℕ, ◌+◌, ◌<◌, ◌≤◌, List, length, get_or, drop, sym, ap, ◌∙◌}
use Rattle.std.proofs.lemmas.List.{at_drop_more, at_drop_all}
use Rattle.text.specs.Plans.{Drawing, blank, said, all_said}
use Rattle.text.specs.declared.statement.Said.{Said}

module _ (ss : List Said) (d : Drawing) (i : ℕ) (so_far : all_said d (drop i ss) ≡ all_said blank ss) where
  pub say-next : (w : Said) (z : Drawing) → i < length ss → z ≡ said d (get_or ss i w).statement (get_or ss i w).line → all_said z (drop (i + 1) ss) ≡ all_said blank ss
  unfolding all_said
  say-next w z h e = ap (λ u. all_said u (drop (i + 1) ss)) e ∙ sym (at_drop_more (all_said d) ss i w h) ∙ so_far

  pub say-all : length ss ≤ i → d ≡ all_said blank ss
  unfolding all_said
  say-all h = sym (at_drop_all (all_said d) ss i h) ∙ so_far
