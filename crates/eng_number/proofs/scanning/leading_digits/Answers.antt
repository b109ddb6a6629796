use Rattle.std.proofs.Common.{◌≡◌, ◌+◌, suc, cond, get_or, length, drop, Some, sym, ap, ◌∙◌, subst, arith}
use Rattle.std.proofs.lemmas.List.{at_drop_more, at_drop_all}
use Rattle.eng_number.specs.Forms.{digits, optional, is_digit, IsLongest}
use Rattle.eng_number.proofs.Lengths.{digit_run, IsLongest-digits}
use Rattle.eng_number.proofs.scanning.leading_digits.Goals as goal

pub returns-then-not-is_ascii_digit : goal.returns-then-not-is_ascii_digit
returns-then-not-is_ascii_digit c =
    let bytes = c.args.bytes.now in
    let no : is_digit (get_or bytes c.loop-i.i 0) ≡ c.is_ascii_digit.result = sym c.is_ascii_digit.ensures.value in
    let rest : digit_run (drop c.loop-i.i bytes) ≡ 0 =
    at_drop_more digit_run bytes c.loop-i.i 0 c.loop-i-test.true
    ∙ ap (λ t. cond t (suc (digit_run (drop (c.loop-i.i + 1) bytes))) 0) (no ∙ c.if-not-is_ascii_digit.true) in
    let n : digit_run bytes ≡ c.loop-i.i = omega (arith, c.loop-i.invariant, rest) in
    subst (λ k. IsLongest (optional digits) bytes (Some k)) n (IsLongest-digits bytes)

pub returns : goal.returns
returns c =
    let bytes = c.args.bytes.now in
    let n : digit_run bytes ≡ length bytes = omega (arith, c.loop-i.invariant, at_drop_all digit_run bytes c.loop-i.i c.loop-i-test.false) in
    subst (λ k. IsLongest (optional digits) bytes (Some k)) n (IsLongest-digits bytes)
