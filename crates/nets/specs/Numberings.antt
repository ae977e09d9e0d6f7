-- What the entry for nets answers, and leaves in the numbers that it is lent. Assumes nothing: these are definitions.
use Rattle.std.specs.Prelude.{◌≡◌, ℕ, List, length, Ok, Err, Result, ◌==◌}
use Rattle.layout.specs.Layout.{pick}
use Rattle.layout.specs.Numbers.{layout_in, layout_refusal}
use Rattle.layout.specs.Checks.{TurnedAway}
use Rattle.layout.specs.Refusals.{number_of}
use Rattle.layout.specs.declared.refusal.Refusal.{Refusal}
use Rattle.layout.specs.declared.refusal.Refusal.TheVariants.{Nodes, Number, Node, Boxes, Regions, Region, Technology, Spots, Room, Circuit, Text}
use Rattle.layout.specs.declared.refusal.Fault.{Fault}
use Rattle.layout.specs.declared.refusal.Fault.TheVariants.{Refused, Memory}
use Rattle.nets.specs.Technologies.{technology_in, technology_ok}
use Rattle.nets.specs.Spots.{spots_ok, Misplaced, Counted}

-- the layout's refusals come first, then the technology's, then the spots'
unfoldable pub nets_refusal : (xs technology spots numbers : List ℕ) → ℕ
nets_refusal xs technology spots numbers =
    pick (layout_refusal xs == 0) (pick (technology_ok technology) (pick (spots_ok spots (length numbers)) 0 7) 6) (layout_refusal xs)

-- where: a technology is shown by how many numbers it has, and spots are where there are too many or too few; else by the first number that is too large
abbrev pub RefusedAt : (xs technology spots numbers : List ℕ) → Refusal → Type 0
RefusedAt xs technology spots numbers (Nodes p) = TurnedAway xs (Nodes p)
RefusedAt xs technology spots numbers (Number p) = TurnedAway xs (Number p)
RefusedAt xs technology spots numbers (Node p) = TurnedAway xs (Node p)
RefusedAt xs technology spots numbers (Boxes p) = TurnedAway xs (Boxes p)
RefusedAt xs technology spots numbers (Regions p) = ⊥
RefusedAt xs technology spots numbers (Region p) = ⊥
RefusedAt xs technology spots numbers (Technology p) = p ≡ length technology
RefusedAt xs technology spots numbers (Spots p) = Misplaced spots (length numbers) p
RefusedAt xs technology spots numbers (Room p) = ⊥
RefusedAt xs technology spots numbers (Circuit p) = ⊥
RefusedAt xs technology spots numbers (Text p) = ⊥

-- the spots are numbered; or turned away, or out of memory, with the numbers as they were
abbrev pub Says : (xs technology spots numbers : List ℕ) → Result (Unit {0}) Fault → (numbers₁ : List ℕ) → Type 0
Says xs technology spots numbers (Ok u) numbers₁ =
    (nets_refusal xs technology spots numbers ≡ 0) × (length numbers₁ ≡ length numbers) × Counted (technology_in technology) (layout_in xs) spots (length numbers) numbers₁
Says xs technology spots numbers (Err (Refused e)) numbers₁ =
    (nets_refusal xs technology spots numbers ≡ number_of e) × RefusedAt xs technology spots numbers e × (numbers₁ ≡ numbers)
Says xs technology spots numbers (Err Memory) numbers₁ = (nets_refusal xs technology spots numbers ≡ 0) × (numbers₁ ≡ numbers)
