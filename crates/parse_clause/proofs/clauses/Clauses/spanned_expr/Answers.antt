use Rattle.std.proofs.Common.{arith}
use Rattle.sql_grammar.specs.Queries.{spanned_expr}
use Rattle.parse_clause.proofs.clauses.Clauses.spanned_expr.Goals as goal

pub returns-in-Err : goal.returns-in-Err
unfolding spanned_expr
returns-in-Err g c = grind arith

pub returns-in-Ok : goal.returns-in-Ok
unfolding spanned_expr
returns-in-Ok g c = grind arith
