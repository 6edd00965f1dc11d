use Rattle.std.proofs.Common.{◌≤◌, ◌^◌, ◌∙◌, ◌+◌, ◌-◌, ◌*◌, sym, arith}
use Rattle.risch_expression.proofs.Taking.{more_digits_stop, more_digits_large}
use Rattle.risch_expression.proofs.words.more_digits.Goals as goal

pub returns-then-not-is_digit-clause-value : goal.returns-then-not-is_digit-clause-value
returns-then-not-is_digit-clause-value c =
    let stop = more_digits_stop c.loop-byte.value c.loop-byte.rest.now c.in-Some.byte.now c.in-Some.after.now c.in-Some.ensures.cases.0 (sym c.is_digit.ensures ∙ c.if-not-is_digit.true) in
    rw c.past_blanks.ensures.value (sym c.loop-byte.invariant.0 ∙ stop)

pub returns-in_err-value-clause-value : goal.returns-in_err-value-clause-value
returns-in_err-value-clause-value c =
    let large : 2 ^ 128 ≤ c.loop-byte.value * 10 + (c.in-Some.byte.now - 48) = omega (arith, c.in_err-value.ensures) in
    rw (c.from_residual.ensures, ← c.loop-byte.invariant.0)
    (more_digits_large (2 ^ 128) c.loop-byte.value c.loop-byte.rest.now c.in-Some.byte.now c.in-Some.after.now c.in-Some.ensures.cases.0 (sym c.is_digit.ensures ∙ c.if-not-is_digit.false) large)
