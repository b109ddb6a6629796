use Rattle.std.proofs.Common.{arith}
use Rattle.bind_stmt.proofs.BuiltLaws.{built-Literal, built-Parameter, built-Column, built-TableColumn, built-Unary, built-Binary, built-Between, built-Like, built-In, built-Collate, built-Cast, built-Case, built-InQuery, built-Subquery, built-Exists, built-RaiseIgnore, built-RaiseAbort}
use Rattle.bind_stmt.proofs.built_expressions.+built.Goals as goal

pub is_built-returns-in-Literal : goal.is_built-returns-in-Literal
is_built-returns-in-Literal t c = grind (arith, built-Literal)

pub is_built-returns-in-Parameter : goal.is_built-returns-in-Parameter
is_built-returns-in-Parameter t c = grind (arith, built-Parameter)

pub is_built-returns-in-Column : goal.is_built-returns-in-Column
is_built-returns-in-Column t c = grind (arith, built-Column)

pub is_built-returns-in-TableColumn : goal.is_built-returns-in-TableColumn
is_built-returns-in-TableColumn t c = grind (arith, built-TableColumn)

pub is_built-returns-in-Unary : goal.is_built-returns-in-Unary
is_built-returns-in-Unary t c = grind (arith, built-Unary)

pub is_built-returns-in-Collate : goal.is_built-returns-in-Collate
is_built-returns-in-Collate t c = grind (arith, built-Collate)

pub is_built-returns-in-Cast : goal.is_built-returns-in-Cast
is_built-returns-in-Cast t c = grind (arith, built-Cast)

pub is_built-returns-in-InQuery : goal.is_built-returns-in-InQuery
is_built-returns-in-InQuery t c = grind (arith, built-InQuery)

pub is_built-returns-in-Subquery : goal.is_built-returns-in-Subquery
is_built-returns-in-Subquery t c = grind (arith, built-Subquery)

pub is_built-returns-in-Exists : goal.is_built-returns-in-Exists
is_built-returns-in-Exists t c = grind (arith, built-Exists)

pub is_built-returns-in-RaiseIgnore : goal.is_built-returns-in-RaiseIgnore
is_built-returns-in-RaiseIgnore t c = grind (arith, built-RaiseIgnore)

pub is_built-returns-in-RaiseAbort : goal.is_built-returns-in-RaiseAbort
is_built-returns-in-RaiseAbort t c = grind (arith, built-RaiseAbort)

pub is_built-returns-then-is_built : goal.is_built-returns-then-is_built
is_built-returns-then-is_built t c = grind (arith, built-Binary)

pub is_built-returns-else-is_built : goal.is_built-returns-else-is_built
is_built-returns-else-is_built t c = grind (arith, built-Binary)

pub is_built-returns-then-is_built-3 : goal.is_built-returns-then-is_built-3
is_built-returns-then-is_built-3 t c = grind (arith, built-Between)

pub is_built-returns-else-is_built-3 : goal.is_built-returns-else-is_built-3
is_built-returns-else-is_built-3 t c = grind (arith, built-Between)

pub is_built-returns-else-is_built-5 : goal.is_built-returns-else-is_built-5
is_built-returns-else-is_built-5 t c = grind (arith, built-Like)

pub is_built-returns-then-is_built-6 : goal.is_built-returns-then-is_built-6
is_built-returns-then-is_built-6 t c = grind (arith, built-In)

pub is_built-returns-else-is_built-6 : goal.is_built-returns-else-is_built-6
is_built-returns-else-is_built-6 t c = grind (arith, built-In)

pub is_built-returns-else-are_arms_built : goal.is_built-returns-else-are_arms_built
is_built-returns-else-are_arms_built t c = grind (arith, built-Case)
