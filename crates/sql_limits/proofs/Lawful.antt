-- What the laws say, of the grammar of SQL.
use Rattle.std.proofs.Common.{◌≡◌, ℕ, ◌↔◌, List}
use Rattle.sql_tree.specs.declared.expr.Expr.{Expr}
use Rattle.sql_tree.specs.declared.statement.Statement.{Statement}
use Rattle.sql_tree.specs.declared.token.Token.{Token}
use Rattle.sql_grammar.specs.declared.counts.TheConstants.{MAX_NESTINGS}
use Rattle.sql_grammar.specs.Answers.{Answer, Within}
use Rattle.sql_grammar.specs.Expressions as expressions
use Rattle.sql_grammar.specs.Expressions.{Expression}
use Rattle.sql_grammar.specs.Marks.{Marked, start}
use Rattle.sql_grammar.specs.StatementTexts as statements
use Rattle.sql_grammar.specs.StatementTexts.{IsStatement}
use Rattle.sql_limits.specs.Answers.{IsAnswer}
use Rattle.sql_limits.specs.Limits.{KeepsAll}
use Rattle.sql_limits.specs.Nestings.{Nested, flat}
use Rattle.sql_limits.proofs.Answered.{fits, answers}
use Rattle.sql_limits.proofs.Nests.{IsNested, expression_nested, statement_nested}

is_nested : (depth : ℕ) (w : List Marked) (tree : Expr) → Expression depth w tree → IsNested w
is_nested depth w tree d = let n = expression_nested depth w tree d in (n.0, n.1)

pub expression_fits : (depth : ℕ) (w : List Marked) (tree : Expr) → Expression depth w tree → (n : Nested) × (w ≡ flat n) × (Within MAX_NESTINGS start w ↔ KeepsAll n)
expression_fits = fits Expression is_nested

pub statement_fits : (depth : ℕ) (w : List Marked) (tree : Statement) → IsStatement depth w tree → (n : Nested) × (w ≡ flat n) × (Within MAX_NESTINGS start w ↔ KeepsAll n)
statement_fits = fits IsStatement statement_nested

pub expression_answers : (tokens : List Token) (x : Answer Expr) → expressions.AnswersAs tokens x ↔ IsAnswer Expression tokens x
expression_answers = answers Expression is_nested

pub statement_answers : (tokens : List Token) (x : Answer Statement) → statements.AnswersAs tokens x ↔ IsAnswer IsStatement tokens x
statement_answers = answers IsStatement statement_nested
