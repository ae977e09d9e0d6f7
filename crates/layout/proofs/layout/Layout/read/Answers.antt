-- What `read` needs beyond what the search finds.
use Rattle.std.proofs.Common.{◌≡◌, ◌+◌, ◌-◌, List, ℕ, subst, arith}
use Rattle.layout.specs.Numbers.{sixes, layout_refusal}
use Rattle.layout.proofs.Checks.{refused-3, refused-0}
use Rattle.layout.proofs.layout.Layout.read.Goals as goal

pub returns-then-counts-last-gt-MAX_BOXES : goal.returns-then-counts-last-gt-MAX_BOXES
returns-then-counts-last-gt-MAX_BOXES c =
    let d = c.in_ok-nodes.nodes in
    let p = c.len-last.result - 1 in
    let last : p + 1 ≡ sixes d.numbers.now = omega (arith, d.sound.some) in
    subst (λ (xs : List ℕ). (layout_refusal xs ≡ 3) × (p + 1 ≡ sixes xs)) (c.in_ok-nodes.ensures) (refused-3 d.numbers.now d.sound p last (omega (arith, c.count_boxes-counts.ensures.1 p (omega arith))), last)

pub invariant_of-result : goal.invariant_of-result
invariant_of-result c =
    let d = c.in_ok-nodes.nodes in
    let p = c.len-last.result - 1 in
    let last : p + 1 ≡ sixes d.numbers.now = omega (arith, d.sound.some) in
    let known = c.count_boxes-counts.ensures in
    record { taken = refused-0 d.numbers.now d.sound p last (omega (arith, known.1 p (omega arith))); counted = known }
