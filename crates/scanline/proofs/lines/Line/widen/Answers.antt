-- What `widen` needs beyond what the search finds.
use Rattle.std.proofs.Common.{◌≡◌, ◌<◌, length, sym, ◌∙◌, rules}
use Rattle.std.proofs.lemmas.List.{take_rest, nil_from_length}
use Rattle.scanline.proofs.Widens.{opening, opened, joined, closed, ended-all, ended-far}
use Rattle.scanline.proofs.lines.Line.widen.Goals as goal

pub loop-rest-init : goal.loop-rest-init
loop-rest-init c = simp (c.in_ok-edges.ensures.items, c.edges-rest.ensures) (opening c.args.by _ c.args.self.now.sorted)

pub loop-rest-preserved-then-not-within : goal.loop-rest-preserved-then-not-within
loop-rest-preserved-then-not-within c =
    let rest = c.loop-rest.rest.now in
    let some : 0 < length rest = search rules in
    rw (c.in_ok-push.ensures.items, take_rest rest 1) (opened _ _ _ rest some (rw c.if-not-within.true at c.loop-rest.invariant))

pub invariant_of-result : goal.invariant_of-result
invariant_of-result c =
    let rest = c.loop-rest.rest.now in
    let some : 0 < length rest = search rules in
    record { sorted = (ended-far _ _ _ rest some c.in_default-checked_add.ensures c.args.self.now.sorted (rw c.if-not-within.false at c.loop-rest.invariant)).0 }

pub returns-in_default-checked_add : goal.returns-in_default-checked_add
returns-in_default-checked_add c =
    let rest = c.loop-rest.rest.now in
    let some : 0 < length rest = search rules in
    (ended-far _ _ _ rest some c.in_default-checked_add.ensures c.args.self.now.sorted (rw c.if-not-within.false at c.loop-rest.invariant)).1

pub loop-rest-preserved-then-reaches : goal.loop-rest-preserved-then-reaches
loop-rest-preserved-then-reaches c =
    let rest = c.loop-rest.rest.now in
    let some : 0 < length rest = search rules in
    let r = rw (take_rest rest 1, c.in-Some.ensures.1) at (sym c.reaches.ensures ∙ c.if-reaches.true) in
    rw (take_rest rest 1, c.if-not-within.false) (rw (take_rest _ 1) (joined _ _ _ rest some r (rw c.if-not-within.false at c.loop-rest.invariant)))

pub loop-rest-preserved : goal.loop-rest-preserved
loop-rest-preserved c =
    let rest = c.loop-rest.rest.now in
    let some : 0 < length rest = search rules in
    let r = rw (take_rest rest 1, c.in-Some.ensures.1) at (sym c.reaches.ensures ∙ c.if-reaches.false) in
    rw (c.in_ok-push-2.ensures.items, take_rest rest 1, c.in-Some.ensures.1) (closed _ _ _ rest some r (rw c.if-not-within.false at c.loop-rest.invariant))

pub invariant_of-result-2 : goal.invariant_of-result-2
invariant_of-result-2 c =
    let none : length c.loop-rest.rest.now ≡ 0 = search rules in
    record { sorted = (ended-all _ _ _ _ c.args.self.now.sorted (rw (nil_from_length c.loop-rest.rest.now none) at c.loop-rest.invariant)).0 }

pub returns : goal.returns
returns c =
    let none : length c.loop-rest.rest.now ≡ 0 = search rules in
    (ended-all _ _ _ _ c.args.self.now.sorted (rw (nil_from_length c.loop-rest.rest.now none) at c.loop-rest.invariant)).1
