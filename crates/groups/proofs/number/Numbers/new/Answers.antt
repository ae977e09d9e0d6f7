-- Why `new` meets its contract.
use Rattle.std.proofs.Common.{◌≡◌, ℕ, List, length, map, get_or, replicate, vec_items, refl, ap, ◌∙◌, inl, inr, arith}
use Rattle.std.proofs.lemmas.List.{length-replicate, get_or-replicate, get_or_past}
use Rattle.std.proofs.lemmas.Bool.{cases_lt}
use Rattle.std.proofs.Math.ListN.{get_or-map}
use lib.ListN.{length-map}
use Rattle.groups.specs.Numbers.{meant, Fresh}
use Rattle.groups.proofs.number.Numbers.new.Goals as goal

none : (n : ℕ) (xs : List ℕ) → xs ≡ replicate n 0 → Fresh n (map meant xs) 0
none n xs e = (
  length-map xs meant ∙ ap length e ∙ length-replicate n 0,
  λ r. get_or-map meant xs r 0 ∙ ap (λ v. meant (get_or v r 0)) e ∙ ap meant (elim (cases_lt r n) [
    | inl l ↦ get_or-replicate n r 0 0 l
    | inr g ↦ get_or_past (replicate n 0) r 0 (omega (arith, length-replicate {A = ℕ} n 0))
  ]),
  refl,
)

pub returns : goal.returns
returns c = none c.args.n (vec_items c.in_ok-known.known) (c.in_ok-known.ensures.items_if_clones_equal (λ y e. e))
