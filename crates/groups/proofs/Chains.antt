-- Chains lead back and on, and a join of two linked items keeps to the chains.
use Rattle.std.proofs.Common.{◌≡◌, ℕ, sym, refl, ◌∙◌, inl, inr}
use Rattle.groups.specs.Names.{Joined}
use Rattle.groups.specs.Chains.{Chain, start, on, back, Grouped}

module _ (L : ℕ → ℕ → Type 0) where
  pub chain-on : (a b c : ℕ) → Chain L a b → Chain L b c → Chain L a c
  chain-on a b c p start = p
  chain-on a b c p (on d e q l) = on d e (chain-on a b d p q) l
  chain-on a b c p (back d e q l) = back d e (chain-on a b d p q) l

  pub chain_back : (a b : ℕ) → Chain L a b → Chain L b a
  chain_back a b start = start
  chain_back a b (on d e q l) = chain-on b d a (back b d start l) (chain_back a d q)
  chain_back a b (back d e q l) = chain-on b d a (on b d start l) (chain_back a d q)

  -- names go along chains if they go along links
  pub chain-named : (f : ℕ → ℕ) → ((a b : ℕ) → L a b → f a ≡ f b) → (a b : ℕ) → Chain L a b → f a ≡ f b
  chain-named f h a b start = refl
  chain-named f h a b (on d e q l) = chain-named f h a d q ∙ h d e l
  chain-named f h a b (back d e q l) = chain-named f h a d q ∙ sym (h e d l)

  -- a join of two items with a chain between them
  pub joined-chained :
      (f g : ℕ → ℕ) (i j : ℕ) → Joined f g i j → Chain L i j →
      ((a b : ℕ) → f a ≡ f b → Chain L a b) → (a b : ℕ) → g a ≡ g b → Chain L a b
  joined-chained f g i j new link old a b e =
      elim (new.only a b e) [
        | inl p ↦ old a b p
        | inr p ↦ elim p [
          | inl q ↦ chain-on a i b (old a i q.0) (chain-on i j b link (old j b (sym q.1)))
          | inr q ↦ chain-on a j b (old a j q.0) (chain-on j i b (chain_back i j link) (old i b (sym q.1)))
        ]
      ]

  pub grouped : (f : ℕ → ℕ) → ((a b : ℕ) → f a ≡ f b → Chain L a b) → ((a b : ℕ) → L a b → f a ≡ f b) → Grouped L f
  grouped f p q = record { chained = p; named = chain-named f q }
