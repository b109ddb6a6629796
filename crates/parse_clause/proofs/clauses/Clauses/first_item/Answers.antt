use Rattle.std.proofs.Common.{arith}
use Rattle.parse_clause.proofs.Joins.{first_item_is}
use Rattle.parse_clause.proofs.clauses.Clauses.first_item.Goals as goal

pub returns-in-Err : goal.returns-in-Err
returns-in-Err g c = grind (arith, first_item_is)

pub returns-in_err-alias : goal.returns-in_err-alias
returns-in_err-alias g c = grind (arith, first_item_is)

pub returns : goal.returns
returns g c = grind (arith, first_item_is)
