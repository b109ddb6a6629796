use Rattle.std.proofs.Common.{◌≡◌, ◌+◌, ◌-◌, ◌*◌, drop, get_or, sym, ap, ◌∙◌, arith}
use Rattle.std.specs.Str.Parse.{digits_value, digits_value_after}
use Rattle.std.proofs.lemmas.List.{at_drop_all}
use Rattle.eng_number.proofs.Spelled.{digit_at, digits_value_after-le, digits_value_after-more}
use Rattle.eng_number.proofs.numbers.magnitude.Goals as goal

pub returns-in_err-checked_mul : goal.returns-in_err-checked_mul
returns-in_err-checked_mul c =
    let numeral = c.args.numeral.now in
    let i = c.loop-digit.digit-index in
    let n = c.loop-digit.magnitude in
    let more = digits_value_after-more n numeral i c.requires c.loop-digit-test.true in
    let le = digits_value_after-le (n * 10 + (get_or numeral i 0 - 48)) (drop (i + 1) numeral) in
    rw c.from_residual.ensures (λ small. c.in_err-checked_mul.ensures (omega (arith, c.loop-digit.invariant.1, more, le, small)))

pub overflow_sub-digit : goal.overflow_sub-digit
overflow_sub-digit c = (digit_at c.args.numeral.now c.loop-digit.digit-index c.requires c.loop-digit-test.true).0

pub returns-in_err-magnitude : goal.returns-in_err-magnitude
returns-in_err-magnitude c =
    let numeral = c.args.numeral.now in
    let i = c.loop-digit.digit-index in
    let n = c.loop-digit.magnitude in
    let more = digits_value_after-more n numeral i c.requires c.loop-digit-test.true in
    let le = digits_value_after-le (n * 10 + (get_or numeral i 0 - 48)) (drop (i + 1) numeral) in
    rw c.from_residual-in_err-magnitude.ensures
    (λ small. c.in_err-magnitude.ensures (omega (arith, c.in_ok-checked_mul.ensures.1, c.from.ensures, c.loop-digit.invariant.1, more, le, small)))

pub loop-digit-preserved : goal.loop-digit-preserved
loop-digit-preserved c =
    let numeral = c.args.numeral.now in
    let i = c.loop-digit.digit-index in
    let n = c.loop-digit.magnitude in
    let is : c.in_ok-magnitude.magnitude ≡ n * 10 + (get_or numeral i 0 - 48) = omega (arith, c.in_ok-magnitude.ensures.1, c.in_ok-checked_mul.ensures.1, c.from.ensures) in (
      omega (arith, c.in_ok-magnitude.ensures),
      ap (λ m. digits_value_after 10 m (drop (i + 1) numeral)) is
          ∙ sym (digits_value_after-more n numeral i c.requires c.loop-digit-test.true)
          ∙ c.loop-digit.invariant.1,
    )

pub returns : goal.returns
returns c =
    let numeral = c.args.numeral.now in
    let n = c.loop-digit.magnitude in
    let whole : n ≡ digits_value 10 numeral = sym (at_drop_all (digits_value_after 10 n) numeral c.loop-digit.digit-index c.loop-digit-test.false) ∙ c.loop-digit.invariant.1 in
    (omega (arith, whole, c.loop-digit.invariant.0), whole)
