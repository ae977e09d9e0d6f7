-- Why read_pins does what its contract says.
use Rattle.std.proofs.Common.{◌≡◌, ℕ, ◌+◌, true, false, List, length, drop, is_some, Some, Ok, Err, vec_items, Result, sym, refl, ap, ◌∙◌}
use Rattle.words.specs.Places.{place_of}
use Rattle.circuit_text.specs.Circuits.{Circuit, circuit_of, spelled}
use Rattle.circuit_text.specs.Statements.{new_names}
use Rattle.circuit_text.proofs.Statements.{names-next, names-known, names-done, pinned-as, spelled-long}
use Rattle.circuit_text.proofs.circuit.CircuitText.read_pins.Goals as goal

pub returns-then-is_some-2 : goal.returns-then-is_some-2
returns-then-is_some-2 c =
    let ns = c.loop-word.self.names in
    let k : is_some (place_of ns _) ≡ true = sym (c.if-is_some-2.ensures ∙ ap is_some c.find.ensures) in (
      refl,
      pinned-as c.args.line (circuit_of c.args.self.now) (spelled c.args.words.now) (Err c.args.line) (sym c.if-is_some.ensures)
          (sym c.loop-word.invariant.0 ∙ names-known c.args.line ns c.args.words.now c.loop-word.word-index _ c.loop-word-test.true k),
    )

pub loop-word-preserved : goal.loop-word-preserved
loop-word-preserved c =
    let ns = c.loop-word.self.names in
    let k : is_some (place_of ns _) ≡ false = sym (c.if-is_some-2.ensures ∙ ap is_some c.find.ensures) in
    let rest = spelled (drop (c.loop-word.word-index + 1) c.args.words.now) in (
      ap (λ v. new_names c.args.line v rest) c.in_ok-add.ensures
          ∙ sym (names-next c.args.line ns c.args.words.now c.loop-word.word-index _ c.loop-word-test.true k) ∙ c.loop-word.invariant.0,
      c.loop-word.invariant.1,
      c.loop-word.invariant.2,
    )

pub returns : goal.returns
returns c =
    let ns = c.loop-word.self.names in
    let ws = spelled c.args.words.now in
    let done : new_names c.args.line c.args.self.now.names ws ≡ Ok ns =
    sym c.loop-word.invariant.0 ∙ names-done c.args.line ns c.args.words.now c.loop-word.word-index c.loop-word-test.false in
    let f : ℕ → List ℕ → Result Circuit ℕ = λ k ds. Ok (record { names = ns; pins = Some (record { many = k; line = c.args.line }); devices = ds }) in
    pinned-as c.args.line (circuit_of c.args.self.now) ws (Ok ns) (sym c.if-is_some.ensures) done
    ∙ ap (λ k. f k (vec_items c.args.self.now.devices)) (spelled-long c.args.words.now)
    ∙ ap (λ ds. f (length c.args.words.now) ds) (sym c.loop-word.invariant.2)
