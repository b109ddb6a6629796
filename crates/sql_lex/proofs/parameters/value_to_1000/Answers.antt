use Rattle.std.proofs.Common.{◌≡◌, ◌+◌, ◌-◌, ◌*◌, min, drop, get_or, sym, ap, ◌∙◌, arith}
use Rattle.std.specs.Str.Parse.{digits_value_after}
use Rattle.sql_lex.proofs.Numbering.{capped, value_more}
use Rattle.sql_lex.proofs.parameters.value_to_1000.Goals as goal

pub loop-digit-preserved : goal.loop-digit-preserved
loop-digit-preserved c =
    let digits = c.args.digits.now in
    let i = c.loop-digit.digit-index in
    let n = c.loop-digit.value in
    let next : c.min-value.result ≡ min (n * 10 + (get_or digits i 0 - 48)) 1000 = c.min-value.ensures ∙ ap (λ d. min (n * 10 + d) 1000) c.from.ensures in record {
      value =
          ap (λ m. min 1000 (digits_value_after 10 m (drop (i + 1) digits))) next
          ∙ capped (n * 10 + (get_or digits i 0 - 48)) (drop (i + 1) digits)
          ∙ ap (λ m. min 1000 m) (sym (value_more n digits i c.requires c.loop-digit-test.true))
          ∙ c.loop-digit.invariant.value;
      small = omega (arith, c.min-value.ensures);
    }
