use Rattle.std.proofs.Common.{◌+◌, ◌*◌, drop, get_or, arith}
use Rattle.std.specs.Char.{digit_value}
use Rattle.bind_name.proofs.Digits.{digits_value_after-le, digits_value_after-more}
use Rattle.bind_name.proofs.numerals.magnitude.Goals as goal

pub returns-in_err-checked_mul : goal.returns-in_err-checked_mul
returns-in_err-checked_mul c =
    let r = c.args.radix in
    let numeral = c.args.numeral.now in
    let i = c.loop-digit.digit-index in
    let n = c.loop-digit.magnitude in
    let more = digits_value_after-more r n numeral i c.loop-digit-test.true in
    let le = digits_value_after-le r (n * r + digit_value (get_or numeral i 0)) (drop (i + 1) numeral) c.requires in
    rw c.from_residual.ensures (λ small. c.in_err-checked_mul.ensures (omega (arith, c.loop-digit.invariant.left, more, le, small)))

pub returns-in_err-magnitude : goal.returns-in_err-magnitude
returns-in_err-magnitude c =
    let r = c.args.radix in
    let numeral = c.args.numeral.now in
    let i = c.loop-digit.digit-index in
    let n = c.loop-digit.magnitude in
    let more = digits_value_after-more r n numeral i c.loop-digit-test.true in
    let le = digits_value_after-le r (n * r + digit_value (get_or numeral i 0)) (drop (i + 1) numeral) c.requires in
    rw c.from_residual-in_err-magnitude.ensures
    (λ small. c.in_err-magnitude.ensures (omega (arith, c.in_ok-checked_mul.ensures.1, c.from.ensures, c.digit_value.ensures.value, c.loop-digit.invariant.left, more, le, small)))
