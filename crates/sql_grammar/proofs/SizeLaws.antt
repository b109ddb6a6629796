-- No tree is larger than its text.
use Rattle.std.proofs.Common.{◌≤◌, List, length}
use Rattle.sql_tree.specs.Sizes.{size_of, size_of_statement}
use Rattle.sql_tree.specs.declared.expr.Expr.{Expr}
use Rattle.sql_tree.specs.declared.statement.Statement.{Statement}
use Rattle.sql_tree.specs.declared.token.Token.{Token}
use Rattle.sql_grammar.specs.Expressions as expressions
use Rattle.sql_grammar.specs.Grammar.{Name}
use Rattle.sql_grammar.specs.Bodies.{rules}
use Rattle.sql_grammar.specs.Rules.{nested}
use Rattle.sql_grammar.specs.StatementTexts as statements
use Rattle.sql_grammar.proofs.Weights.{plain_keeps_length, weighs_nested}
use Rattle.sql_grammar.proofs.ExpressionSizes.{Enclosed, expr_keeps}
use Rattle.sql_grammar.proofs.StatementSizes.{enclosed_within, statement_keeps}

pub expression_within : (tokens : List Token) (tree : Expr) → expressions.HasTree tokens tree → size_of tree ≤ length tokens
expression_within tokens tree t =
    let keeps = expr_keeps (nested Name rules t.0) (weighs_nested Name rules Enclosed enclosed_within t.0) in
    rw (t.2, plain_keeps_length t.1) (keeps.by t.1 tree t.3)

pub statement_within : (tokens : List Token) (tree : Statement) → statements.HasTree tokens tree → size_of_statement tree ≤ length tokens
statement_within tokens tree t =
    let keeps = statement_keeps (nested Name rules t.0) (weighs_nested Name rules Enclosed enclosed_within t.0) in
    rw (t.2, plain_keeps_length t.1) (keeps.by t.1 tree t.3)
