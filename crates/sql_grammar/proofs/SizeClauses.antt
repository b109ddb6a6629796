-- How large each kind of expression and of query is, said of the trees that it has.
use Rattle.std.proofs.Common.{◌≡◌, ◌+◌, Bool, List, map, Option, Some, None, rules}
use Rattle.sql_tree.specs.Layers.{of_part}
use Rattle.sql_tree.specs.Sizes.{total, size_of, size_of_arm, size_of_filter, size_of_from, size_of_query, size_of_result, size_of_row, part_size}
use Rattle.sql_tree.specs.declared.expr.Arguments.{Arguments}
use Rattle.sql_tree.specs.declared.expr.Arm.{Arm, roll-Arm}
use Rattle.sql_tree.specs.declared.expr.BinaryOp.{BinaryOp}
use Rattle.sql_tree.specs.declared.expr.Expr.{Expr, the_lemmas}
use Rattle.sql_tree.specs.declared.expr.Expr.TheVariants as e
use Rattle.sql_tree.specs.declared.expr.TypeName.{TypeName}
use Rattle.sql_tree.specs.declared.expr.UnaryOp.{UnaryOp}
use Rattle.sql_tree.specs.declared.query.CommonTable.{CommonTable}
use Rattle.sql_tree.specs.declared.query.CompoundPart.{CompoundPart}
use Rattle.sql_tree.specs.declared.query.FromItem.{FromItem}
use Rattle.sql_tree.specs.declared.query.OrderingTerm.{OrderingTerm}
use Rattle.sql_tree.specs.declared.query.Query.{Query, roll-Query}
use Rattle.sql_tree.specs.declared.query.QueryPart.{QueryPart}
use Rattle.sql_tree.specs.declared.query.QueryPart.TheVariants as part_is
use Rattle.sql_tree.specs.declared.query.ResultColumn.{ResultColumn}
use Rattle.sql_tree.specs.declared.query.ResultColumn.TheVariants as result_is
use Rattle.sql_tree.specs.declared.query.RowLimit.{RowLimit}
use Rattle.sql_tree.specs.declared.query.SelectCore.{roll-SelectCore}
use Rattle.sql_tree.specs.declared.query.SpannedExpr.{SpannedExpr, roll-SpannedExpr}
use Rattle.sql_tree.specs.declared.token.Span.{Span}
use Rattle.sql_tree.specs.declared.token.Token.{Token}

pub size_of-Literal : (t : Token) → size_of (e.Literal t) ≡ 1
size_of-Literal t = search (rules, the_lemmas)

pub size_of-Parameter : (t : Token) → size_of (e.Parameter t) ≡ 1
size_of-Parameter t = search (rules, the_lemmas)

pub size_of-Column : (t : Token) → size_of (e.Column t) ≡ 1
size_of-Column t = search (rules, the_lemmas)

pub size_of-TableColumn : (t c : Token) → size_of (e.TableColumn t c) ≡ 1
size_of-TableColumn t c = search (rules, the_lemmas)

pub size_of-Unary : (op : UnaryOp) (a : Expr) → size_of (e.Unary op a) ≡ 1 + size_of a
size_of-Unary op a = search (rules, the_lemmas)

pub size_of-Binary : (op : BinaryOp) (a b : Expr) → size_of (e.Binary op a b) ≡ 1 + size_of a + size_of b
size_of-Binary op a b = search (rules, the_lemmas)

pub size_of-Between : (a b c : Expr) → size_of (e.Between a b c) ≡ 1 + size_of a + size_of b + size_of c
size_of-Between a b c = search (rules, the_lemmas)

pub size_of-Like : (a b : Expr) (c : Option Expr) → size_of (e.Like a b c) ≡ 1 + size_of a + size_of b + size_of_filter c
size_of-Like a b None = search (rules, the_lemmas)
size_of-Like a b (Some c) = search (rules, the_lemmas)

pub size_of-In : (a : Expr) (others : List Expr) → size_of (e.In a others) ≡ 1 + size_of a + total (map size_of others)
size_of-In a others = search (rules, the_lemmas)

pub size_of-InQuery : (a : Expr) (q : Query) → size_of (e.InQuery a q) ≡ 1 + size_of a
size_of-InQuery a q = search (rules, the_lemmas)

pub size_of-Subquery : (q : Query) → size_of (e.Subquery q) ≡ 1
size_of-Subquery q = search (rules, the_lemmas)

pub size_of-Exists : (q : Query) → size_of (e.Exists q) ≡ 1
size_of-Exists q = search (rules, the_lemmas)

pub size_of-Collate : (a : Expr) (t : Token) → size_of (e.Collate a t) ≡ 1 + size_of a
size_of-Collate a t = search (rules, the_lemmas)

pub size_of-Cast : (a : Expr) (t : TypeName) → size_of (e.Cast a t) ≡ 1 + size_of a
size_of-Cast a t = search (rules, the_lemmas)

pub size_of-Call : (t : Token) (how : Arguments) (args : List Expr) (filter : Option Expr) → size_of (e.Call t how args filter) ≡ 1 + total (map size_of args) + size_of_filter filter
size_of-Call t how args None = search (rules, the_lemmas)
size_of-Call t how args (Some c) = search (rules, the_lemmas)

pub size_of-Case : (a : Option Expr) (arms : List Arm) (otherwise : Option Expr) → size_of (e.Case a arms otherwise) ≡ 2 + size_of_filter a + total (map size_of_arm arms) + size_of_filter otherwise
size_of-Case None arms None = search (rules, the_lemmas)
size_of-Case None arms (Some c) = search (rules, the_lemmas)
size_of-Case (Some a) arms None = search (rules, the_lemmas)
size_of-Case (Some a) arms (Some c) = search (rules, the_lemmas)

pub size_of-RaiseIgnore : size_of e.RaiseIgnore ≡ 1
size_of-RaiseIgnore = search (rules, the_lemmas)

pub size_of-RaiseAbort : (t : Token) → size_of (e.RaiseAbort t) ≡ 1
size_of-RaiseAbort t = search (rules, the_lemmas)

pub size_of_arm-is : (condition shown : Expr) → size_of_arm (roll-Arm (record { condition = condition; value = shown })) ≡ 1 + size_of condition + size_of shown
size_of_arm-is condition shown = search (rules, the_lemmas)

-- ---- queries

pub size_of_result-All : size_of_result result_is.All ≡ 1
size_of_result-All = search (rules, the_lemmas)

pub size_of_result-AllOf : (t : Token) → size_of_result (result_is.AllOf t) ≡ 1
size_of_result-AllOf t = search (rules, the_lemmas)

pub size_of_result-Expression : (x : Expr) (text : Span) (alias : Option Token) → size_of_result (result_is.Expression (roll-SpannedExpr (record { expr = x; text = text })) alias) ≡ size_of x
size_of_result-Expression x text alias = search (rules, the_lemmas)

pub size_of-Select : (distinct : Bool) (results : List ResultColumn) (from : List FromItem) (filter : Option Expr) (group_by : List SpannedExpr) (having : Option Expr)
    → part_size (of_part (part_is.Select (roll-SelectCore (record { distinct = distinct; results = results; from = from; filter = filter; group_by = group_by; having = having })))) ≡ 1 + total (map size_of_result results) + size_of_from from + size_of_filter filter
size_of-Select distinct results from filter group_by having = search (rules, the_lemmas)

pub size_of-Values : (rows : List (List Expr)) → part_size (of_part (part_is.Values rows)) ≡ total (map size_of_row rows)
size_of-Values rows = search (rules, the_lemmas)

pub size_of_query-is : (tables : List CommonTable) (first : QueryPart) (others : List CompoundPart) (order_by : List OrderingTerm) (limit : Option RowLimit)
    → size_of_query (roll-Query (record { with = tables; first = first; others = others; order_by = order_by; limit = limit })) ≡ part_size (of_part first)
size_of_query-is tables first others order_by limit = search (rules, the_lemmas)
