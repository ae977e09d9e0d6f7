use Rattle.std.proofs.Common.{◌≡◌, ◌<◌, length, get_or, inl, inr, arith, rules}
use Rattle.std.proofs.lemmas.List.{take_rest, nil_from_length}
use Rattle.scanline.specs.Spans.{no_span}
use Rattle.scanline.proofs.Advances.{pick-live, by_first}
use Rattle.scanline.proofs.live.leftmost.Goals as goal

pub returns-in-empty-empty : goal.returns-in-empty-empty
returns-in-empty-empty c =
    let a : length c.args.live.now ≡ 0 = search rules in
    let b : length c.args.new.now ≡ 0 = search rules in
    (nil_from_length _ a, nil_from_length _ b)

pub returns-in-empty-len1-up : goal.returns-in-empty-len1-up
returns-in-empty-len1-up c =
    let live = c.args.live.now in
    let new = c.args.new.now in
    let a : length live ≡ 0 = search rules in
    let b : 0 < length new = search rules in
    rw (take_rest new 1) (inr (pick-live new live b (rw (nil_from_length live a) tt)))

pub returns-in-len1-up-empty : goal.returns-in-len1-up-empty
returns-in-len1-up-empty c =
    let live = c.args.live.now in
    let new = c.args.new.now in
    let a : length new ≡ 0 = search rules in
    let b : 0 < length live = search rules in
    rw (take_rest live 1) (inl (pick-live live new b (rw (nil_from_length new a) tt)))

pub returns-then-s-t : goal.returns-then-s-t
returns-then-s-t c =
    let live = c.args.live.now in
    let b : 0 < length live = search rules in
    rw (take_rest live 1) (inl (pick-live live c.args.new.now b (by_first (get_or live 0 no_span) c.args.new.now c.if-s-t.true)))

pub returns-else-s-t : goal.returns-else-s-t
returns-else-s-t c =
    let new = c.args.new.now in
    let b : 0 < length new = search rules in
    rw (take_rest new 1) (inr (pick-live new c.args.live.now b (by_first (get_or new 0 no_span) c.args.live.now (omega (arith, c.if-s-t.false)))))
