use Rattle.sql_bound.proofs.TreeLaws.{of_expr-Binary, of_expr-In, of_expr-Subquery}
use Rattle.sql_bound.proofs.laws.trees_come_to_their_parts.Goals as goal

pub returns-clause-binary : goal.returns-clause-binary
returns-clause-binary c o a b = of_expr-Binary o a b

pub returns-clause-members : goal.returns-clause-members
returns-clause-members c a others = of_expr-In a others

pub returns-clause-query : goal.returns-clause-query
returns-clause-query c q = of_expr-Subquery q
