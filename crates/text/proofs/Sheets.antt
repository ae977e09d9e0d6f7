-- Parts put together one after another. Assumes nothing.
use Rattle.std.proofs.Common.{◌≡◌, ℕ, ◌+◌, ◌<◌, ◌≤◌, List, length, get_or, drop, Option, sym, ap, ◌∙◌}
use Rattle.std.proofs.lemmas.List.{at_drop_more, at_drop_all}
use Rattle.layout.specs.declared.node.Node.TheVariants.{Both}
use Rattle.text.specs.Sheets.{Nodes, Joined, added, joined_to}

module _ (ps : List ℕ) (l : Option ℕ) (all : Joined) (s : Nodes) (n i : ℕ) (so_far : joined_to s n (drop i ps) l ≡ all) where
  pub join-next : (z : Nodes) (m : ℕ) → i < length ps → m ≡ length s.lines → z ≡ added s (Both n (get_or ps i 0)) l → joined_to z m (drop (i + 1) ps) l ≡ all
  unfolding joined_to
  join-next z m h e f =
      ap (λ u. joined_to u m (drop (i + 1) ps) l) f ∙ ap (λ k. joined_to (added s (Both n (get_or ps i 0)) l) k (drop (i + 1) ps) l) e
      ∙ sym (at_drop_more (λ us. joined_to s n us l) ps i 0 h) ∙ so_far

  pub join-all : length ps ≤ i → all ≡ record { sheet = s; node = n }
  unfolding joined_to
  join-all h = sym so_far ∙ at_drop_all (λ us. joined_to s n us l) ps i h
