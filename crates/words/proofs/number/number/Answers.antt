-- What `number` needs beyond what the search finds.
use Rattle.std.proofs.Common.{◌≡◌, ◌+◌, drop, sym, ◌∙◌, subst, arith}
use Rattle.words.specs.Numbers.{number_in}
use Rattle.words.proofs.Numbers.{number_after, bad-digit, next-digit, past-limit, last-digit}
use Rattle.words.proofs.number.number.Goals as goal

pub returns-then-not-is_ascii_digit : goal.returns-then-not-is_ascii_digit
returns-then-not-is_ascii_digit c = bad-digit c.args.word.now c.loop-b.value c.loop-b.b-index c.loop-b.invariant.1 (omega arith) (sym c.is_ascii_digit.ensures.value ∙ c.if-not-is_ascii_digit.true)

pub returns-in_err-checked_mul : goal.returns-in_err-checked_mul
returns-in_err-checked_mul c =
    c.from_residual.ensures ∙ past-limit c.args.word.now c.loop-b.value c.loop-b.b-index c.loop-b.invariant.1 (omega arith) (sym c.is_ascii_digit.ensures.value ∙ c.if-not-is_ascii_digit.false) (λ h. c.in_err-checked_mul.ensures (omega arith))

pub returns-in_err-value : goal.returns-in_err-value
returns-in_err-value c =
    c.from_residual-in_err-value.ensures ∙ past-limit c.args.word.now c.loop-b.value c.loop-b.b-index c.loop-b.invariant.1 (omega arith) (sym c.is_ascii_digit.ensures.value ∙ c.if-not-is_ascii_digit.false)
    (λ h. c.in_err-value.ensures (omega (arith, c.in_ok-checked_mul.ensures.1, c.from.ensures)))

pub loop-b-preserved : goal.loop-b-preserved
loop-b-preserved c = (
  omega (arith, c.in_ok-value.ensures.0, c.in_ok-value.ensures.1),
  subst (λ n. number_after n (drop (c.loop-b.b-index + 1) c.args.word.now) ≡ number_in c.args.word.now)
      (omega (arith, c.in_ok-checked_mul.ensures.1, c.from.ensures, c.in_ok-value.ensures.1))
      (next-digit c.args.word.now c.loop-b.value c.loop-b.b-index c.loop-b.invariant.1 (omega arith) (sym c.is_ascii_digit.ensures.value ∙ c.if-not-is_ascii_digit.false)),
)

pub returns : goal.returns
returns c = last-digit c.args.word.now c.loop-b.value c.loop-b.b-index c.loop-b.invariant.1 (omega arith) c.loop-b.invariant.0
