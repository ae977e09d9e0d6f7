-- Why `number` meets its contract.
use Rattle.std.proofs.Common.{rules, ◌≡◌, ℕ, zero, suc, ◌+◌, List, map, get_or, set, Some, vec_items, refl, ap, ◌∙◌, inr, arith}
use Rattle.std.proofs.lemmas.List.{map-set}
use Rattle.std.proofs.Math.ListN.{get_or-map}
use Rattle.groups.specs.Numbers.{meant, Given}
use Rattle.groups.proofs.number.Numbers.number.Goals as goal

held : (x : ℕ) → (x ≡ 0 → ⊥) → meant x ≡ Some x
held zero h = absurd (h refl)
held (suc n) h = refl

-- a root that had no number has one
new : (xs : List ℕ) (root count : ℕ) → get_or xs root 0 ≡ 0 → Given (map meant xs) count root (map meant (set xs root (count + 1))) (count + 1) (count + 1)
new xs root count e = inr (
  get_or-map meant xs root 0 ∙ ap meant e,
  refl,
  map-set meant xs root (count + 1) ∙ ap (set (map meant xs) root) (held (count + 1) (λ z. absurd (omega arith))),
  refl,
)

pub returns : goal.returns
returns c =
    let xs = vec_items c.args.self.now.known in
    let none : get_or xs c.args.root 0 ≡ 0 = search rules in
    new xs c.args.root c.args.self.now.given none
