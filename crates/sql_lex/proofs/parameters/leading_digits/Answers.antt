use Rattle.std.proofs.Common.{List, ℕ, sym, subst}
use Rattle.std.specs.Char.{is_ascii_digit}
use Rattle.std.specs.List.{AllPass}
use Rattle.sql_lex.proofs.Widths.{take_length_take_while, AllPass-take_while}
use Rattle.sql_lex.proofs.parameters.leading_digits.Goals as goal

pub returns-clause-value : goal.returns-clause-value
returns-clause-value c = rw c.digits_width.ensures.value (take_length_take_while is_ascii_digit c.args.bytes.now)

pub returns-clause-digits : goal.returns-clause-digits
returns-clause-digits c =
    let P : List ℕ → Type 0 = λ xs. AllPass is_ascii_digit xs in
    subst P (sym (returns-clause-value c)) (AllPass-take_while is_ascii_digit c.args.bytes.now)
