-- Why `new` meets its contract.
use Rattle.std.proofs.Common.{◌≡◌, ◌<◌, ℕ, List, length, get_or, vec_items, refl, ap, ◌∙◌, subst, arith}
use Rattle.std.specs.Result.{IfOk}
use Rattle.std.specs.List.{range_with_len}
use Rattle.std.proofs.lemmas.List.FromFn.{length-range_with_len, get_or-range_with_len}
use Rattle.std.proofs.lemmas.Iterator.{YieldsList-from_range, items_from_collect}
use Rattle.groups.proofs.Roots.{root-at, all_own}
use Rattle.groups.proofs.forest.Groups.new.Goals as goal

-- each item of the list of the first n numbers stands at its own place
own : (n : ℕ) (xs : List ℕ) → xs ≡ range_with_len 0 n → (k : ℕ) → k < length xs → get_or xs k k ≡ k
own n xs e k h =
    ap (λ v. get_or v k k) e ∙ get_or-range_with_len 0 n k k (omega (arith, ap length e, length-range_with_len 0 n)) ∙ omega arith

pub invariant_of-result : goal.invariant_of-result
invariant_of-result c =
    let items = subst (λ r. IfOk r (λ w. vec_items w ≡ range_with_len 0 c.args.n)) c.in_ok-parents.was (items_from_collect c.collect.result c.collect.ensures.ran (YieldsList-from_range 0 c.args.n c.args.n refl (omega arith))) in
    let at = own c.args.n (vec_items c.in_ok-parents.parents) items in
    record { falls = λ i. omega (arith, all_own (vec_items c.in_ok-parents.parents) at i) }

pub returns : goal.returns
returns c =
    let items = subst (λ r. IfOk r (λ w. vec_items w ≡ range_with_len 0 c.args.n)) c.in_ok-parents.was (items_from_collect c.collect.result c.collect.ensures.ran (YieldsList-from_range 0 c.args.n c.args.n refl (omega arith))) in
    let at = own c.args.n (vec_items c.in_ok-parents.parents) items in
    (c.in_ok-parents.parents.ok.0 ∙ ap length items ∙ length-range_with_len 0 c.args.n, λ a. root-at _ a (all_own (vec_items c.in_ok-parents.parents) at a))
