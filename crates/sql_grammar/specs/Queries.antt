-- The grammar of queries (SELECT), as rules with the trees that they make.
use Rattle.std.specs.Prelude.{Bool, true, false, if◌then◌else◌, List, [], ◌∷◌, map, Option, Some, None}
use Rattle.sql_tree.specs.Kinds.{same_kind}
use Rattle.sql_tree.specs.declared.expr.Expr.{Expr}
use Rattle.sql_tree.specs.declared.expr.Expr.TheVariants as e
use Rattle.sql_tree.specs.declared.query.CommonTable.{CommonTable, roll-CommonTable}
use Rattle.sql_tree.specs.declared.query.CompoundOp.{CompoundOp}
use Rattle.sql_tree.specs.declared.query.CompoundOp.TheVariants as compound
use Rattle.sql_tree.specs.declared.query.CompoundPart.{CompoundPart, roll-CompoundPart}
use Rattle.sql_tree.specs.declared.query.FromItem.{FromItem, roll-FromItem}
use Rattle.sql_tree.specs.declared.query.Join.{Join}
use Rattle.sql_tree.specs.declared.query.JoinConstraint.{JoinConstraint}
use Rattle.sql_tree.specs.declared.query.JoinConstraint.TheVariants as constraint
use Rattle.sql_tree.specs.declared.query.NullsOrder.{NullsOrder}
use Rattle.sql_tree.specs.declared.query.NullsOrder.TheVariants as nulls_order
use Rattle.sql_tree.specs.declared.query.OrderingTerm.{OrderingTerm, roll-OrderingTerm}
use Rattle.sql_tree.specs.declared.query.Query.{Query, roll-Query}
use Rattle.sql_tree.specs.declared.query.QueryPart.{QueryPart}
use Rattle.sql_tree.specs.declared.query.QueryPart.TheVariants as part_is
use Rattle.sql_tree.specs.declared.query.ResultColumn.{ResultColumn}
use Rattle.sql_tree.specs.declared.query.ResultColumn.TheVariants as result_is
use Rattle.sql_tree.specs.declared.query.RowLimit.{RowLimit, roll-RowLimit}
use Rattle.sql_tree.specs.declared.query.SelectCore.{SelectCore, roll-SelectCore}
use Rattle.sql_tree.specs.declared.query.Source.{Source}
use Rattle.sql_tree.specs.declared.query.Source.TheVariants as source_is
use Rattle.sql_tree.specs.declared.query.SpannedExpr.{SpannedExpr, roll-SpannedExpr}
use Rattle.sql_tree.specs.declared.token.Token.{Token}
use Rattle.sql_tree.specs.declared.token.TokenKind.TheVariants as kind
use Rattle.sql_grammar.specs.declared.counts.Role.TheVariants as role
use Rattle.sql_grammar.specs.Rules.{tok, pure, seq, alt, fork, many, to, over}
use Rattle.sql_grammar.specs.Grammar.{Of, maybe, after, list_of, in_brackets, or_none, span_of, name, subquery, row, table_arguments, name_list, expr, call, tails, other_expr, all_rules}

-- ---- words of queries

-- [word], as whether it stands there
abbrev pub given : {A : Type 0} → Of A → Of Bool
given r = alt (to (λ a. true) r) (pure false)

-- ["(" name {"," name} ")"]
unfoldable pub column_names : Of (List Token)
column_names = to or_none (maybe (in_brackets name_list))

-- [[AS] name]
unfoldable pub alias : Of (Option Token)
alias = maybe (alt (after role.Outside kind.As name) name)

-- an expression, with its tokens
abbrev pub spanned : Expr → List Token → SpannedExpr
spanned x ts = roll-SpannedExpr (record { expr = x; text = span_of ts })

unfoldable pub spanned_expr : Of SpannedExpr
spanned_expr = over spanned expr

-- [WHERE expr]
unfoldable pub filter_by : Of (Option Expr)
filter_by = maybe (after role.Outside kind.Where expr)

-- ---- result columns: "*" | name "." "*" | expr [[AS] name]. After a name, what comes next tells which

-- what goes on behind an operand that these tokens begin, and its name
abbrev pub shown : Expr → List Token → Option Token → ResultColumn
shown x ts a = result_is.Expression (spanned x ts) a

-- with its tokens
abbrev pub with_tokens : {A : Type 0} → Of A → Of (A × List Token)
with_tokens r = over (λ a ts. (a, ts)) r

unfoldable pub spanned_tails : Of ((Expr → Expr) × List Token)
spanned_tails = with_tokens tails

-- behind `name . name`
unfoldable pub column_of_table : Of (Token → ResultColumn)
column_of_table = to (λ p t. shown (p.1.0.0 (e.TableColumn t p.0)) (t ∷ p.0 ∷ p.1.0.1) p.1.1) (seq name (seq spanned_tails alias))

-- behind `name .`
unfoldable pub behind_dot : Of (Token → ResultColumn)
behind_dot = alt (to (λ s t. result_is.AllOf t) (tok role.Outside (kind.Star ∷ []))) column_of_table

unfoldable pub spanned_call : Of ((Token → Expr) × List Token)
spanned_call = with_tokens (to (λ p t. p.1 (p.0 t)) (seq call tails))

-- behind a name
unfoldable pub behind_first_name : Of (Token → ResultColumn)
behind_first_name =
    alt (after role.Quiet kind.Dot behind_dot)
    (alt (to (λ p t. shown (p.0.0 t) (t ∷ p.0.1) p.1) (seq spanned_call alias))
    (to (λ p t. shown (p.0.0 (e.Column t)) (t ∷ p.0.1) p.1) (seq spanned_tails alias)))

unfoldable pub named_result : Of ResultColumn
named_result = to (λ p. p.1 p.0) (seq name behind_first_name)

unfoldable pub other_result : Of ResultColumn
other_result = to (λ p. result_is.Expression p.0 p.1) (seq (over spanned other_expr) alias)

unfoldable pub result : Of ResultColumn
result = alt (to (λ t. result_is.All) (tok role.Outside (kind.Star ∷ []))) (alt named_result other_result)

-- result {"," result}
unfoldable pub results : Of (List ResultColumn)
results = list_of result

-- ---- FROM

-- name ["(" [expr {"," expr}] ")"]
unfoldable pub table_source : Of Source
table_source = to (λ p. source_is.Table p.0 p.1) (seq name (maybe (in_brackets table_arguments)))

-- "(" query ")"
unfoldable pub derived_source : Of Source
derived_source = to source_is.Derived (in_brackets subquery)

unfoldable pub source : Of Source
source = alt table_source derived_source

-- LEFT [OUTER]
unfoldable pub left_word : Of Bool
left_word = to (λ p. true) (seq (tok role.Outside (kind.Left ∷ [])) (maybe (tok role.Outside (kind.Outer ∷ []))))

-- [INNER | CROSS | LEFT [OUTER]], as whether it is LEFT
unfoldable pub join_side : Of Bool
join_side = alt (to (λ t. false) (tok role.Outside (kind.Inner ∷ kind.Cross ∷ []))) (alt left_word (pure false))

-- [NATURAL] [INNER | CROSS | LEFT [OUTER]] JOIN
unfoldable pub join_words : Of Join
join_words = to (λ p. record { natural = p.0; left = p.1.0 }) (seq (given (tok role.Outside (kind.Natural ∷ []))) (seq join_side (tok role.Outside (kind.Join ∷ []))))

abbrev pub plain_join : Join
plain_join = record { natural = false; left = false }

-- "," | [NATURAL] [INNER | CROSS | LEFT [OUTER]] JOIN
unfoldable pub join : Of Join
join = alt (to (λ t. plain_join) (tok role.Outside (kind.Comma ∷ []))) join_words

-- [ON expr | USING "(" name {"," name} ")"]
unfoldable pub join_constraint : Of JoinConstraint
join_constraint = alt (to constraint.On (after role.Outside kind.On expr)) (alt (to constraint.Using (after role.Outside kind.Using (in_brackets name_list))) (pure constraint.Unconstrained))

unfoldable pub first_item : Of FromItem
first_item = to (λ p. roll-FromItem (record { join = plain_join; source = p.0; alias = p.1; constraint = constraint.Unconstrained })) (seq source alias)

unfoldable pub joined_item : Of FromItem
joined_item = to (λ p. roll-FromItem (record { join = p.0; source = p.1.0; alias = p.1.1.0; constraint = p.1.1.1 })) (seq join (seq source (seq alias join_constraint)))

-- item {join item [on]}
unfoldable pub items : Of (List FromItem)
items = to (λ p. p.0 ∷ p.1) (seq first_item (many joined_item))

-- [FROM item {join item [on]}]
unfoldable pub from : Of (List FromItem)
from = to or_none (maybe (after role.Outside kind.From items))

-- ---- SELECT and VALUES

-- [DISTINCT | ALL], as whether it is DISTINCT
unfoldable pub distinct : Of Bool
distinct = alt (to (λ t. true) (tok role.Outside (kind.Distinct ∷ []))) (alt (to (λ t. false) (tok role.Outside (kind.All ∷ []))) (pure false))

-- [GROUP BY expr {"," expr}]
unfoldable pub group_by : Of (List SpannedExpr)
group_by = to or_none (maybe (after role.Outside kind.Group (after role.Outside kind.By (list_of spanned_expr))))

-- [HAVING expr]
unfoldable pub having : Of (Option Expr)
having = maybe (after role.Outside kind.Having expr)

unfoldable pub select_core : Of SelectCore
select_core = to (λ p. roll-SelectCore (record { distinct = p.0; results = p.1.0; from = p.1.1.0; filter = p.1.1.1.0; group_by = p.1.1.1.1.0; having = p.1.1.1.1.1 }))
    (seq distinct (seq results (seq from (seq filter_by (seq group_by having)))))

-- SELECT [DISTINCT | ALL] result {"," result} [FROM ..] [WHERE ..] [GROUP BY ..] [HAVING ..]
unfoldable pub select : Of SelectCore
select = after role.Part kind.Select select_core

-- "(" expr {"," expr} ")"
unfoldable pub one_row : Of (List Expr)
one_row = in_brackets row

-- VALUES row {"," row}
unfoldable pub values : Of (List (List Expr))
values = after role.Part kind.Values (list_of one_row)

-- select | values, with whether it is SELECT
unfoldable pub core : Of (Bool × QueryPart)
core = alt (to (λ s. (true, part_is.Select s)) select) (to (λ v. (false, part_is.Values v)) values)

-- ---- compounds

-- UNION [ALL]
unfoldable pub union : Of CompoundOp
union = to (λ p. if p.1 then compound.UnionAll else compound.Union) (seq (tok role.Outside (kind.Union ∷ [])) (given (tok role.Outside (kind.All ∷ []))))

-- UNION [ALL] | INTERSECT | EXCEPT
unfoldable pub compound_op : Of CompoundOp
compound_op = alt union (alt (to (λ t. compound.Intersect) (tok role.Outside (kind.Intersect ∷ []))) (to (λ t. compound.Except) (tok role.Outside (kind.Except ∷ []))))

unfoldable pub compound_part : Of (Bool × CompoundPart)
compound_part = to (λ p. (p.1.0, roll-CompoundPart (record { op = p.0; part = p.1.1 }))) (seq compound_op core)

abbrev pub Parts : Type 0
Parts = (Bool × QueryPart) × List (Bool × CompoundPart)

-- core {comp core}
unfoldable pub parts : Of Parts
parts = seq core (many compound_part)

abbrev pub last_of : Bool → List (Bool × CompoundPart) → Bool
last_of b [] = b
last_of b (p ∷ ps) = last_of p.0 ps

-- the last part is a SELECT
abbrev pub ends_in_select : Parts → Bool
ends_in_select p = last_of p.0.0 p.1

-- ---- ORDER BY and LIMIT, behind a SELECT alone

-- [ASC | DESC], as whether it is DESC
unfoldable pub direction : Of Bool
direction = alt (to (λ t. true) (tok role.Outside (kind.Desc ∷ []))) (alt (to (λ t. false) (tok role.Outside (kind.Asc ∷ []))) (pure false))

-- FIRST | LAST
unfoldable pub first_or_last : Of NullsOrder
first_or_last = alt (to (λ t. nulls_order.First) (tok role.Outside (kind.First ∷ []))) (to (λ t. nulls_order.Last) (tok role.Outside (kind.Last ∷ [])))

-- [NULLS (FIRST | LAST)]
unfoldable pub nulls : Of (Option NullsOrder)
nulls = maybe (after role.Outside kind.Nulls first_or_last)

-- expr [ASC | DESC] [NULLS (FIRST | LAST)]
unfoldable pub term : Of OrderingTerm
term = to (λ p. roll-OrderingTerm (record { key = p.0; descending = p.1.0; nulls = p.1.1 })) (seq spanned_expr (seq direction nulls))

-- [ORDER BY term {"," term}]
unfoldable pub order_by : Of (List OrderingTerm)
order_by = to or_none (maybe (after role.Outside kind.Order (after role.Outside kind.By (list_of term))))

-- `LIMIT a, b` skips a rows
abbrev pub limit_of : Expr → Option (Token × Expr) → RowLimit
limit_of a None = roll-RowLimit (record { count = a; offset = None })
limit_of a (Some p) = if same_kind p.0.kind kind.Comma then roll-RowLimit (record { count = p.1; offset = Some a }) else roll-RowLimit (record { count = a; offset = Some p.1 })

-- [(OFFSET | ",") expr]
unfoldable pub second_limit : Of (Option (Token × Expr))
second_limit = maybe (seq (tok role.Outside (kind.Offset ∷ kind.Comma ∷ [])) expr)

-- expr [(OFFSET | ",") expr]
unfoldable pub row_limit : Of RowLimit
row_limit = to (λ p. limit_of p.0 p.1) (seq expr second_limit)

-- [LIMIT expr [(OFFSET | ",") expr]]
unfoldable pub limit : Of (Option RowLimit)
limit = maybe (after role.Outside kind.Limit row_limit)

abbrev pub Ordering : Type 0
Ordering = List OrderingTerm × Option RowLimit

unfoldable pub ordering : Of Ordering
ordering = seq order_by limit

-- ---- queries

-- name ["(" name {"," name} ")"] AS "(" query ")"
unfoldable pub common_table : Of CommonTable
common_table = to (λ p. roll-CommonTable (record { name = p.0; columns = p.1.0; query = p.1.1 })) (seq name (seq column_names (after role.Outside kind.As (in_brackets subquery))))

-- [RECURSIVE] cte {"," cte}
unfoldable pub tables : Of (List CommonTable)
tables = to (λ p. p.1) (seq (given (tok role.Outside (kind.Recursive ∷ []))) (list_of common_table))

-- [WITH [RECURSIVE] cte {"," cte}]
unfoldable pub common_tables : Of (List CommonTable)
common_tables = to or_none (maybe (after role.Outside kind.With tables))

-- {core comp} (values | select [ORDER BY ..] [LIMIT ..])
unfoldable pub ordered_parts : Of (Parts × Ordering)
ordered_parts = fork parts ends_in_select ordering (pure ([], None))

abbrev pub query_of : List CommonTable → Parts × Ordering → Query
query_of tables p = roll-Query (record { with = tables; first = p.0.0.1; others = map (λ x. x.1) p.0.1; order_by = p.1.0; limit = p.1.1 })

unfoldable pub query : Of Query
query = to (λ p. query_of p.0 p.1) (seq common_tables ordered_parts)

-- opens every rule of queries where a proof computes with them
unfoldable pub all_query_rules : Unit {0}
unfolding all_rules column_names alias spanned_expr filter_by spanned_tails column_of_table behind_dot spanned_call behind_first_name named_result other_result result results table_source derived_source source left_word join_side join_words join join_constraint first_item joined_item items from distinct group_by having select_core select one_row values core union compound_op compound_part parts direction first_or_last nulls term order_by second_limit row_limit limit ordering common_table tables common_tables ordered_parts query
all_query_rules = tt
