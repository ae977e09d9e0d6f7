-- What `count` needs beyond what the search finds.
use Rattle.std.proofs.Common.{◌≡◌, ℕ, ◌+◌, ◌-◌, get_or, subst, arith}
use Rattle.layout.specs.Numbers.{sixes, boxes}
use Rattle.layout.specs.Pieces.{piece}
use Rattle.layout.proofs.Checks.{sound_of, few-of}
use Rattle.layout.proofs.layout.Layout.count.Goals as goal

pub returns : goal.returns
returns c =
    let d = c.args.self.now in
    let xs = d.nodes.numbers.now in
    let s = d.nodes.sound in
    let p = c.len.result - 1 in
    let last : p + 1 ≡ sixes xs = omega (arith, s.some) in
    let known = d.counted.1 p (omega arith) in
    let few = few-of xs s p last (sound_of xs d.taken).1 in
    record {
      few = omega arith;
      same = λ q e. let same : p ≡ q = omega arith in subst (λ (u : ℕ). get_or d.counts p 0 ≡ boxes (λ k. 0) (piece xs u)) same (omega arith);
    }
