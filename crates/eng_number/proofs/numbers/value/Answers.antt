use Rattle.std.proofs.Common.{◌≡◌, ◌∙◌, drop, true, false, ap, subst, ◌<◌, ◌^◌}
use Rattle.std.specs.Str.Parse.{digits_value}
use Rattle.std.proofs.lemmas.List.{take_rest}
use Rattle.eng_number.specs.Forms.{digits}
use Rattle.eng_number.proofs.Spelled.{digits_behind_sign, integer_of-is, integer_of-large}
use Rattle.eng_number.proofs.numbers.value.Goals as goal

pub magnitude-requires : goal.magnitude-requires
magnitude-requires c =
    let bytes = c.args.number.now in
    ap digits (take_rest bytes c.sign_len.result) ∙ digits_behind_sign bytes c.sign_len.result c.sign_len.ensures c.requires

pub returns-in_err-magnitude : goal.returns-in_err-magnitude
returns-in_err-magnitude c =
    let bytes = c.args.number.now in
    let n = c.sign_len.result in
    let large = subst (λ ds. digits_value 10 ds < 2 ^ 64 → ⊥) (take_rest bytes n) c.in_err-magnitude.ensures in
    c.from_residual.ensures ∙ integer_of-large bytes n c.sign_len.ensures c.requires large

pub returns-then-is_negative : goal.returns-then-is_negative
returns-then-is_negative c =
    let bytes = c.args.number.now in
    let n = c.sign_len.result in
    let v : c.in_ok-magnitude.magnitude ≡ digits_value 10 (drop n bytes) = c.in_ok-magnitude.ensures.1 ∙ ap (digits_value 10) (take_rest bytes n) in
    integer_of-is bytes n c.sign_len.ensures c.requires c.checked_sub_unsigned.result true c.in_ok-magnitude.magnitude c.if-is_negative.ensures v c.checked_sub_unsigned.ensures

pub returns-else-is_negative : goal.returns-else-is_negative
returns-else-is_negative c =
    let bytes = c.args.number.now in
    let n = c.sign_len.result in
    let v : c.in_ok-magnitude.magnitude ≡ digits_value 10 (drop n bytes) = c.in_ok-magnitude.ensures.1 ∙ ap (digits_value 10) (take_rest bytes n) in
    integer_of-is bytes n c.sign_len.ensures c.requires c.checked_add_unsigned.result false c.in_ok-magnitude.magnitude c.if-is_negative.ensures v c.checked_add_unsigned.ensures
