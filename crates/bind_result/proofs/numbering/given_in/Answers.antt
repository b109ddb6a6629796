use Rattle.std.proofs.Common.{◌≡◌, ◌∙◌, length, ap, sym}
use Rattle.bind_column.specs.Stars.{those_of}
use Rattle.sql_bound.specs.Orders.{place_given}
use Rattle.bind_result.specs.Numbers.{further, or_nothing}
use Rattle.bind_result.proofs.NumberLaws.{given-AllOf}
use Rattle.bind_result.proofs.numbering.given_in.Goals as goal

pub returns-in_ok-columns_of_table-in-AllOf-clause-ok : goal.returns-in_ok-columns_of_table-in-AllOf-clause-ok
returns-in_ok-columns_of_table-in-AllOf-clause-ok c rest =
    let table = c.as_str.ensures ∙ c.in_ok-table-in-AllOf.ensures in
    let columns = c.in_ok-columns_of_table-in-AllOf.ensures.ok ∙ ap (λ name. or_nothing (those_of name c.args.own.now)) table in
    let count = c.len-in-AllOf-2.ensures ∙ ap length columns in
    rw c.in-AllOf.is (given-AllOf c.args.wanted.now c.args.text.now c.args.own.now rest c.in-AllOf.token ∙ ap (λ n. further n (place_given c.args.wanted.now rest)) (sym count))
