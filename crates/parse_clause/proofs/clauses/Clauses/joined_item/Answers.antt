use Rattle.std.proofs.Common.{arith}
use Rattle.parse_clause.proofs.Joins.{joined_item_is}
use Rattle.parse_clause.proofs.clauses.Clauses.joined_item.Goals as goal

pub returns-in_err-join : goal.returns-in_err-join
returns-in_err-join g c = grind (arith, joined_item_is)

pub returns-in-Err : goal.returns-in-Err
returns-in-Err g c = grind (arith, joined_item_is)

pub returns-in_err-alias : goal.returns-in_err-alias
returns-in_err-alias g c = grind (arith, joined_item_is)

pub returns-in-Err-join_constraint : goal.returns-in-Err-join_constraint
returns-in-Err-join_constraint g c = grind (arith, joined_item_is)

pub returns-in-Ok-join_constraint : goal.returns-in-Ok-join_constraint
returns-in-Ok-join_constraint g c = grind (arith, joined_item_is)
