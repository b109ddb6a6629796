-- The grammar as it is written in the documents of SQL, where more than one token would be needed to tell what to do. Each of these rules derives the same trees from the same marked tokens as the rule of its name in the grammar, which one token tells.
use Rattle.std.specs.Prelude.{Bool, true, false, List, [], ◌∷◌, Option, Some, None}
use Rattle.sql_tree.specs.declared.expr.Arguments.{Arguments}
use Rattle.sql_tree.specs.declared.expr.Arguments.TheVariants as arguments_are
use Rattle.sql_tree.specs.declared.expr.BinaryOp.{BinaryOp}
use Rattle.sql_tree.specs.declared.expr.BinaryOp.TheVariants as binary
use Rattle.sql_tree.specs.declared.expr.Expr.{Expr}
use Rattle.sql_tree.specs.declared.expr.Expr.TheVariants as e
use Rattle.sql_tree.specs.declared.expr.UnaryOp.TheVariants as unary
use Rattle.sql_tree.specs.declared.query.CompoundOp.{CompoundOp}
use Rattle.sql_tree.specs.declared.query.CompoundPart.{CompoundPart, roll-CompoundPart}
use Rattle.sql_tree.specs.declared.query.Query.{Query, roll-Query}
use Rattle.sql_tree.specs.declared.query.QueryPart.{QueryPart}
use Rattle.sql_tree.specs.declared.query.QueryPart.TheVariants as part_is
use Rattle.sql_tree.specs.declared.query.ResultColumn.{ResultColumn}
use Rattle.sql_tree.specs.declared.query.ResultColumn.TheVariants as result_is
use Rattle.sql_tree.specs.declared.query.RowLimit.{RowLimit, roll-RowLimit}
use Rattle.sql_tree.specs.declared.statement.Create.{Create}
use Rattle.sql_tree.specs.declared.statement.Explain.{Explain}
use Rattle.sql_tree.specs.declared.statement.Explain.TheVariants as explain_by
use Rattle.sql_tree.specs.declared.statement.TableConstraint.{TableConstraint}
use Rattle.sql_tree.specs.declared.statement.TableConstraint.TheVariants as table_rule
use Rattle.sql_tree.specs.declared.statement.TableDefinition.{TableDefinition}
use Rattle.sql_tree.specs.declared.statement.Transaction.{Transaction}
use Rattle.sql_tree.specs.declared.statement.Transaction.TheVariants as transaction_is
use Rattle.sql_tree.specs.declared.token.Token.{Token}
use Rattle.sql_tree.specs.declared.token.TokenKind.TheVariants as kind
use Rattle.sql_grammar.specs.declared.counts.Role.{Role}
use Rattle.sql_grammar.specs.declared.counts.Role.TheVariants as role
use Rattle.sql_grammar.specs.Rules.{tok, pure, seq, alt, many, to, over}
use Rattle.sql_grammar.specs.Grammar.{Of, maybe, after, list_of, in_parentheses, name, expression, subquery, sign_op, equality_op, relation, between, like, glob, member_of, equality, expr, exprs, arms, otherwise, literal, parameter, filter, existing, casting, choosing, raising}
use Rattle.sql_grammar.specs.Grammar as grammar
use Rattle.sql_grammar.specs.Queries.{given, spanned_expr, select, values, compound_op, common_tables, Ordering, ordering}
use Rattle.sql_grammar.specs.Queries as queries
use Rattle.sql_grammar.specs.Definitions.{column, table_constraint, primary_key, in_key, check, created, create_table, create_index, create_view, create_trigger, create_virtual_table}
use Rattle.sql_grammar.specs.Statements.{transaction_word, savepoint_name, begin, savepoint, release}

-- ---- operands

abbrev pub column_of : Token → Option Token → Expr
column_of c None = e.Column c
column_of t (Some c) = e.TableColumn t c

-- name ["." name]
unfoldable pub column_operand : Of Expr
column_operand = to (λ p. column_of p.0 p.1) (seq name (maybe (after role.Quiet kind.Dot name)))

-- name "(" .. ")" [FILTER "(" WHERE expr ")"]
unfoldable pub call_operand : Of Expr
call_operand = to (λ p. e.Call p.0 p.1.0.0 p.1.0.1 p.1.1) (seq name (seq (in_parentheses grammar.arguments) filter))

-- literal | parameter | name ["." name] | call | "(" expr ")" | "(" query ")" | EXISTS .. | CAST .. | CASE .. END | RAISE ..
unfoldable pub primary : Of Expr
primary = alt literal (alt parameter (alt column_operand (alt call_operand (alt (in_parentheses expression) (alt (to e.Subquery (in_parentheses subquery)) (alt existing (alt casting (alt choosing raising))))))))

abbrev pub arguments_by : Bool → Arguments
arguments_by true = arguments_are.Distinct
arguments_by false = arguments_are.All

-- "*" | [DISTINCT] expr {"," expr}
unfoldable pub some_arguments : Of (Arguments × List Expr)
some_arguments = alt (to (λ t. (arguments_are.Star, [])) (tok role.Quiet (kind.Star ∷ []))) (to (λ p. (arguments_by p.0, p.1)) (seq (given (tok role.Quiet (kind.Distinct ∷ []))) exprs))

-- [expr {"," expr} | query]
unfoldable pub members : Of (Expr → Expr)
members = alt (alt (to (λ es x. e.In x es) exprs) (to (λ q x. e.InQuery x q) queries.query)) (pure (λ x. e.In x []))

-- [expr] WHEN .. [ELSE expr]
unfoldable pub case : Of Expr
case = to (λ p. e.Case p.0 p.1.0 p.1.1) (seq (maybe expr) (seq arms otherwise))

-- ---- operators

-- un = (- + ~) un | prim
unfoldable pub signed_primary : Of Expr
signed_primary = alt (to (λ p. e.Unary (sign_op p.0.kind) p.1) (seq (tok role.Operator (kind.Minus ∷ kind.Plus ∷ kind.Tilde ∷ [])) grammar.signed_primary)) grammar.primary

-- not = NOT not | eq
unfoldable pub negation : Of Expr
negation = alt (to (λ p. e.Unary unary.Not p.1) (seq (tok role.Operator (kind.Not ∷ [])) grammar.negation)) equality

-- the second with NOT
abbrev pub by_not : Option Token → BinaryOp → BinaryOp → BinaryOp
by_not None a b = a
by_not (Some t) a b = b

-- IS [NOT]
unfoldable pub is_words : Of (Option Token)
is_words = after role.Operator kind.Is (maybe (tok role.Quiet (kind.Not ∷ [])))

-- DISTINCT FROM
unfoldable pub distinct_words : Of Token
distinct_words = after role.Quiet kind.Distinct (tok role.Quiet (kind.From ∷ []))

-- "=" | "==" | "<>" | "!=" | IS [NOT] | IS [NOT] DISTINCT FROM
unfoldable pub equality_word : Of BinaryOp
equality_word =
    alt (to (λ t. equality_op t.kind) (tok role.Operator (kind.Equal ∷ kind.DoubleEqual ∷ kind.LessGreater ∷ kind.BangEqual ∷ [])))
    (alt (to (λ n. by_not n binary.Is binary.IsNot) is_words) (to (λ p. by_not p.0 binary.IsNot binary.Is) (seq is_words distinct_words)))

-- [NOT] test. The operator is counted at the first word
abbrev pub perhaps_not : (Role → Of (Expr → Expr)) → Of (Expr → Expr)
perhaps_not r = alt (r role.Operator) (to (λ f l. e.Unary unary.Not (f l)) (after role.Operator kind.Not (r role.Quiet)))

-- ISNULL | NOTNULL | NOT NULL
unfoldable pub null_words : Of (Expr → Expr)
null_words =
    alt (to (λ t l. e.Unary unary.IsNull l) (tok role.Operator (kind.IsNull ∷ [])))
    (alt (to (λ t l. e.Unary unary.NotNull l) (tok role.Operator (kind.NotNull ∷ []))) (to (λ t l. e.Unary unary.NotNull l) (after role.Operator kind.Not (tok role.Quiet (kind.Null ∷ [])))))

-- eqop rel | [NOT] BETWEEN .. | [NOT] LIKE .. | [NOT] GLOB .. | [NOT] IN .. | ISNULL | NOTNULL | NOT NULL
unfoldable pub test : Of (Expr → Expr)
test = alt (to (λ p l. e.Binary p.0 l p.1) (seq equality_word relation)) (alt (perhaps_not between) (alt (perhaps_not like) (alt (perhaps_not glob) (alt (perhaps_not member_of) null_words))))

-- ---- queries

-- [[AS] name]
unfoldable pub alias : Of (Option Token)
alias = maybe (to (λ p. p.1) (seq (given (tok role.Outside (kind.As ∷ []))) name))

-- "*" | name "." "*" | expr [[AS] name]
unfoldable pub result : Of ResultColumn
result =
    alt (to (λ t. result_is.All) (tok role.Outside (kind.Star ∷ [])))
    (alt (to (λ p. result_is.AllOf p.0) (seq name (after role.Quiet kind.Dot (tok role.Outside (kind.Star ∷ []))))) (to (λ p. result_is.Expression p.0 p.1) (seq spanned_expr queries.alias)))

-- expr | expr OFFSET expr | expr "," expr
unfoldable pub row_limit : Of RowLimit
row_limit =
    alt (to (λ a. roll-RowLimit (record { count = a; offset = None })) expr)
    (alt (to (λ p. roll-RowLimit (record { count = p.0; offset = Some p.1 })) (seq expr (after role.Outside kind.Offset expr))) (to (λ p. roll-RowLimit (record { count = p.1; offset = Some p.0 })) (seq expr (after role.Outside kind.Comma expr))))

-- select | values
unfoldable pub core : Of QueryPart
core = alt (to part_is.Select select) (to part_is.Values values)

-- values | select [ORDER BY ..] [LIMIT ..]
unfoldable pub last_core : Of (QueryPart × Ordering)
last_core = alt (to (λ v. (part_is.Values v, ([], None))) values) (to (λ p. (part_is.Select p.0, p.1)) (seq select ordering))

-- the first part, and each of the others with the operator in front of it
abbrev pub in_turn : List (QueryPart × CompoundOp) → QueryPart → QueryPart × List CompoundPart
in_turn [] last = (last, [])
in_turn (p ∷ more) last = (p.0, roll-CompoundPart (record { op = p.1; part = (in_turn more last).0 }) ∷ (in_turn more last).1)

-- {core comp} (values | select [ORDER BY ..] [LIMIT ..])
unfoldable pub ordered_parts : Of ((QueryPart × List CompoundPart) × Ordering)
ordered_parts = to (λ p. (in_turn p.0 p.1.0, p.1.1)) (seq (many (seq core compound_op)) last_core)

-- [WITH ..] {core comp} (values | select [ORDER BY ..] [LIMIT ..])
unfoldable pub query : Of Query
query = to (λ p. roll-Query (record { with = p.0; first = p.1.0.0; others = p.1.0.1; order_by = p.1.1.0; limit = p.1.1.1 })) (seq common_tables ordered_parts)

-- ---- definitions

-- (PRIMARY KEY | UNIQUE) "(" .. ")" | CHECK "(" expr ")"
unfoldable pub table_rule_of : Of TableConstraint
table_rule_of = alt (to (λ p. p.0 p.1) (seq (alt (to (λ t. table_rule.PrimaryKey) primary_key) (to (λ t. table_rule.Unique) (tok role.Outside (kind.Unique ∷ [])))) in_key)) (to table_rule.Check check)

-- column {"," column} {"," table constraint}
unfoldable pub all_columns : Of TableDefinition
all_columns = to (λ p. record { columns = p.0; constraints = p.1 }) (seq (list_of column) (many (after role.Outside kind.Comma table_constraint)))

-- CREATE TABLE .. | CREATE [UNIQUE] INDEX .. | CREATE VIEW .. | CREATE TRIGGER .. | CREATE VIRTUAL TABLE ..
unfoldable pub create : Of Create
create = over created (alt (after role.Outside kind.Create create_table) (alt (after role.Outside kind.Create create_index) (alt (after role.Outside kind.Create create_view) (alt (after role.Outside kind.Create create_trigger) (after role.Outside kind.Create create_virtual_table)))))

-- ---- statements

abbrev pub explain_of : Option Token → Explain
explain_of None = explain_by.Instructions
explain_of (Some t) = explain_by.QueryPlan

-- [EXPLAIN [QUERY PLAN]]
unfoldable pub explain : Of (Option Explain)
explain = maybe (to explain_of (after role.Outside kind.Explain (maybe (after role.Outside kind.Query (tok role.Outside (kind.Plan ∷ []))))))

-- BEGIN .. | COMMIT [TRANSACTION] | END [TRANSACTION] | ROLLBACK [TRANSACTION] | ROLLBACK [TRANSACTION] TO [SAVEPOINT] name | SAVEPOINT name | RELEASE ..
unfoldable pub transaction : Of Transaction
transaction =
    alt begin
    (alt (to (λ w. transaction_is.Commit) (after role.Outside kind.Commit transaction_word))
    (alt (to (λ w. transaction_is.Commit) (after role.Outside kind.End transaction_word))
    (alt (to (λ w. transaction_is.Rollback) (after role.Outside kind.Rollback transaction_word))
    (alt (to (λ p. transaction_is.RollbackTo p.1) (after role.Outside kind.Rollback (seq transaction_word (after role.Outside kind.To savepoint_name)))) (alt savepoint release)))))
