-- Words of the examples: small texts of tokens, each one byte long, and short names of what stands in their trees.
use Rattle.std.specs.Prelude.{◌≡◌, ℕ, suc, drop, false, List, [], ◌∷◌, Option, None}
use Rattle.sql_tree.specs.declared.expr.Expr.{Expr}
use Rattle.sql_tree.specs.declared.expr.Expr.TheVariants as e
use Rattle.sql_tree.specs.declared.query.FromItem.{FromItem, roll-FromItem}
use Rattle.sql_tree.specs.declared.query.JoinConstraint.TheVariants as constraint
use Rattle.sql_tree.specs.declared.query.Query.{Query, roll-Query}
use Rattle.sql_tree.specs.declared.query.QueryPart.{QueryPart}
use Rattle.sql_tree.specs.declared.query.QueryPart.TheVariants as part_is
use Rattle.sql_tree.specs.declared.query.ResultColumn.{ResultColumn}
use Rattle.sql_tree.specs.declared.query.ResultColumn.TheVariants as result_is
use Rattle.sql_tree.specs.declared.query.SelectCore.{roll-SelectCore}
use Rattle.sql_tree.specs.declared.query.Source.{Source}
use Rattle.sql_tree.specs.declared.query.Source.TheVariants as source_is
use Rattle.sql_tree.specs.declared.query.SpannedExpr.{SpannedExpr, roll-SpannedExpr}
use Rattle.sql_tree.specs.declared.statement.Command.{Command}
use Rattle.sql_tree.specs.declared.statement.Command.TheVariants as command_is
use Rattle.sql_tree.specs.declared.statement.RowCommand.{RowCommand}
use Rattle.sql_tree.specs.declared.statement.RowCommand.TheVariants as rows_by
use Rattle.sql_tree.specs.declared.statement.Statement.{Statement}
use Rattle.sql_tree.specs.declared.token.Token.{Token}
use Rattle.sql_tree.specs.declared.token.TokenKind.{TokenKind}
use Rattle.sql_tree.specs.declared.token.TokenKind.TheVariants as kind
use Rattle.sql_grammar.specs.Answers.{Answer, Tree, Syntax, whole}
use Rattle.sql_grammar.specs.Bodies.{rules}
use Rattle.sql_grammar.specs.Grammar.{Name, expr}
use Rattle.sql_grammar.specs.Marks.{start}
use Rattle.sql_grammar.specs.Rules.{reads}
use Rattle.sql_grammar.specs.Queries.{plain_join}
use Rattle.sql_grammar.specs.Statements.{statement}

-- ---- texts

-- a token of this kind in the n-th place
abbrev pub t : TokenKind → ℕ → Token
t k n = record { kind = k; span = record { start = n; end = suc n }; parameter = None }

abbrev pub tokens_from : ℕ → List TokenKind → List Token
tokens_from n [] = []
tokens_from n (k ∷ ks) = t k n ∷ tokens_from (suc n) ks

-- what tokens of these kinds are read as
abbrev pub expression_of : List TokenKind → Answer Expr
expression_of ks = whole (reads Name rules 100 expr start (tokens_from 0 ks))

abbrev pub statement_of : List TokenKind → Answer Statement
statement_of ks = whole (reads Name rules 100 statement start (tokens_from 0 ks))

-- the n-th token is the first that cannot stand there
abbrev pub NoExpressionAt : ℕ → List TokenKind → Type 0
NoExpressionAt n ks = expression_of ks ≡ Syntax (drop n (tokens_from 0 ks))

abbrev pub WrongAt : ℕ → List TokenKind → Type 0
WrongAt n ks = statement_of ks ≡ Syntax (drop n (tokens_from 0 ks))

-- ---- trees

-- the name in the n-th place
abbrev pub word : ℕ → Token
word n = t kind.Word n

-- the column that it names
abbrev pub a : ℕ → Expr
a n = e.Column (word n)

abbrev pub number : ℕ → Expr
number n = e.Literal (t kind.Number n)

-- with the tokens from the m-th to in front of the n-th
abbrev pub text : ℕ → ℕ → Expr → SpannedExpr
text m n x = roll-SpannedExpr (record { expr = x; text = record { start = m; end = n } })

abbrev pub result : ℕ → ℕ → Expr → ResultColumn
result m n x = result_is.Expression (text m n x) None

-- the column in the n-th place
abbrev pub one : ℕ → ResultColumn
one n = result n (suc n) (a n)

-- an item that is joined with none
abbrev pub item : Source → Option Token → FromItem
item source alias = roll-FromItem (record { join = plain_join; source = source; alias = alias; constraint = constraint.Unconstrained })

-- a table by the name in the n-th place
abbrev pub table : ℕ → FromItem
table n = item (source_is.Table (word n) None) None

-- SELECT of some results FROM some items
abbrev pub select : List ResultColumn → List FromItem → QueryPart
select results items = part_is.Select (roll-SelectCore (record { distinct = false; results = results; from = items; filter = None; group_by = []; having = None }))

-- a query of one part
abbrev pub query : QueryPart → Query
query part = roll-Query (record { with = []; first = part; others = []; order_by = []; limit = None })

-- `SELECT a` with its name in the n-th place
abbrev pub select_one : ℕ → Query
select_one n = query (select (one n ∷ []) [])

-- a statement without EXPLAIN
abbrev pub plain_tree : Command → Answer Statement
plain_tree c = Tree (record { explain = None; command = c })

abbrev pub rows : RowCommand → Answer Statement
rows r = plain_tree (command_is.Rows r)

abbrev pub asks : Query → Answer Statement
asks q = rows (rows_by.Query q)
