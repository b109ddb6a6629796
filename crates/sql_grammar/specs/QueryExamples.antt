-- How queries are read, by the trees of small texts.
use Rattle.std.specs.Prelude.{◌≡◌, true, false, [], ◌∷◌, Some, None, refl}
use Rattle.sql_tree.specs.declared.token.TokenKind.TheVariants as kind
use Rattle.sql_tree.specs.declared.expr.Arguments.TheVariants as arguments_are
use Rattle.sql_tree.specs.declared.expr.BinaryOp.TheVariants as binary
use Rattle.sql_tree.specs.declared.expr.Expr.TheVariants as e
use Rattle.sql_tree.specs.declared.expr.UnaryOp.TheVariants as unary
use Rattle.sql_tree.specs.declared.query.CommonTable.{roll-CommonTable}
use Rattle.sql_tree.specs.declared.query.CompoundOp.TheVariants as compound
use Rattle.sql_tree.specs.declared.query.CompoundPart.{roll-CompoundPart}
use Rattle.sql_tree.specs.declared.query.FromItem.{roll-FromItem}
use Rattle.sql_tree.specs.declared.query.JoinConstraint.TheVariants as constraint
use Rattle.sql_tree.specs.declared.query.NullsOrder.TheVariants as nulls_order
use Rattle.sql_tree.specs.declared.query.OrderingTerm.{roll-OrderingTerm}
use Rattle.sql_tree.specs.declared.query.Query.{roll-Query}
use Rattle.sql_tree.specs.declared.query.QueryPart.TheVariants as part_is
use Rattle.sql_tree.specs.declared.query.ResultColumn.TheVariants as result_is
use Rattle.sql_tree.specs.declared.query.RowLimit.{roll-RowLimit}
use Rattle.sql_tree.specs.declared.query.SelectCore.{roll-SelectCore}
use Rattle.sql_tree.specs.declared.query.Source.TheVariants as source_is
use Rattle.sql_grammar.specs.Marks.{count}
use Rattle.sql_grammar.specs.ExampleWords.{word, a, number, text, result, one, item, table, select, query, select_one, asks, statement_of, WrongAt}
use Rattle.sql_grammar.specs.Statements.{all_statement_rules}

-- ---- result columns

-- SELECT *
all : statement_of (kind.Select ∷ kind.Star ∷ []) ≡ asks (query (select (result_is.All ∷ []) []))
unfolding all_statement_rules count
all = refl

-- SELECT a.*
all_of : statement_of (kind.Select ∷ kind.Word ∷ kind.Dot ∷ kind.Star ∷ []) ≡ asks (query (select (result_is.AllOf (word 1) ∷ []) []))
unfolding all_statement_rules count
all_of = refl

-- SELECT a, b.*, *
some_results : statement_of (kind.Select ∷ kind.Word ∷ kind.Comma ∷ kind.Word ∷ kind.Dot ∷ kind.Star ∷ kind.Comma ∷ kind.Star ∷ []) ≡ asks (query (select (one 1 ∷ result_is.AllOf (word 3) ∷ result_is.All ∷ []) []))
unfolding all_statement_rules count
some_results = refl

-- SELECT a b
a_name : statement_of (kind.Select ∷ kind.Word ∷ kind.Word ∷ []) ≡ asks (query (select (result_is.Expression (text 1 2 (a 1)) (Some (word 2)) ∷ []) []))
unfolding all_statement_rules count
a_name = refl

-- SELECT a AS b
a_name_behind_as : statement_of (kind.Select ∷ kind.Word ∷ kind.As ∷ kind.Word ∷ []) ≡ asks (query (select (result_is.Expression (text 1 2 (a 1)) (Some (word 3)) ∷ []) []))
unfolding all_statement_rules count
a_name_behind_as = refl

-- SELECT a.b + 1 c
a_column_of_a_table : statement_of (kind.Select ∷ kind.Word ∷ kind.Dot ∷ kind.Word ∷ kind.Plus ∷ kind.Number ∷ kind.Word ∷ [])
    ≡ asks (query (select (result_is.Expression (text 1 6 (e.Binary binary.Add (e.TableColumn (word 1) (word 3)) (number 5))) (Some (word 6)) ∷ []) []))
unfolding all_statement_rules count
a_column_of_a_table = refl

-- SELECT a (b) || c AS d
a_call : statement_of (kind.Select ∷ kind.Word ∷ kind.LeftParen ∷ kind.Word ∷ kind.RightParen ∷ kind.DoubleBar ∷ kind.Word ∷ kind.As ∷ kind.Word ∷ [])
    ≡ asks (query (select (result_is.Expression (text 1 7 (e.Binary binary.Concatenate (e.Call (word 1) arguments_are.All (a 3 ∷ []) None) (a 6))) (Some (word 8)) ∷ []) []))
unfolding all_statement_rules count
a_call = refl

-- SELECT - a b
a_sign_first : statement_of (kind.Select ∷ kind.Minus ∷ kind.Word ∷ kind.Word ∷ []) ≡ asks (query (select (result_is.Expression (text 1 3 (e.Unary unary.Negative (a 2))) (Some (word 3)) ∷ []) []))
unfolding all_statement_rules count
a_sign_first = refl

-- SELECT NOT a AND b OR c d
not_first : statement_of (kind.Select ∷ kind.Not ∷ kind.Word ∷ kind.And ∷ kind.Word ∷ kind.Or ∷ kind.Word ∷ kind.Word ∷ [])
    ≡ asks (query (select (result_is.Expression (text 1 7 (e.Binary binary.Or (e.Binary binary.And (e.Unary unary.Not (a 2)) (a 4)) (a 6))) (Some (word 7)) ∷ []) []))
unfolding all_statement_rules count
not_first = refl

-- SELECT (a) AS b
in_parentheses : statement_of (kind.Select ∷ kind.LeftParen ∷ kind.Word ∷ kind.RightParen ∷ kind.As ∷ kind.Word ∷ []) ≡ asks (query (select (result_is.Expression (text 1 4 (a 2)) (Some (word 5)) ∷ []) []))
unfolding all_statement_rules count
in_parentheses = refl

-- SELECT a COLLATE b || c * d + f & g < h = i AND j OR k
every_operator_behind_a_name : statement_of (kind.Select ∷ kind.Word ∷ kind.Collate ∷ kind.Word ∷ kind.DoubleBar ∷ kind.Word ∷ kind.Star ∷ kind.Word ∷ kind.Plus ∷ kind.Word ∷ kind.Ampersand ∷ kind.Word ∷ kind.Less ∷ kind.Word ∷ kind.Equal ∷ kind.Word ∷ kind.And ∷ kind.Word ∷ kind.Or ∷ kind.Word ∷ [])
    ≡ asks (query (select (result 1 20 (e.Binary binary.Or (e.Binary binary.And (e.Binary binary.Equal (e.Binary binary.Less (e.Binary binary.BitAnd (e.Binary binary.Add (e.Binary binary.Multiply (e.Binary binary.Concatenate (e.Collate (a 1) (word 3)) (a 5)) (a 7)) (a 9)) (a 11)) (a 13)) (a 15)) (a 17)) (a 19)) ∷ []) []))
unfolding all_statement_rules count
every_operator_behind_a_name = refl

-- ---- FROM

-- SELECT * FROM a
of_a_table : statement_of (kind.Select ∷ kind.Star ∷ kind.From ∷ kind.Word ∷ []) ≡ asks (query (select (result_is.All ∷ []) (table 3 ∷ [])))
unfolding all_statement_rules count
of_a_table = refl

-- SELECT * FROM a AS b, c d
other_names : statement_of (kind.Select ∷ kind.Star ∷ kind.From ∷ kind.Word ∷ kind.As ∷ kind.Word ∷ kind.Comma ∷ kind.Word ∷ kind.Word ∷ [])
    ≡ asks (query (select (result_is.All ∷ []) (item (source_is.Table (word 3) None) (Some (word 5)) ∷ roll-FromItem (record { join = record { natural = false; left = false }; source = source_is.Table (word 7) None; alias = Some (word 8); constraint = constraint.Unconstrained }) ∷ [])))
unfolding all_statement_rules count
other_names = refl

-- SELECT * FROM a JOIN b ON c INNER JOIN d USING (f, g) CROSS JOIN h
joins : statement_of (kind.Select ∷ kind.Star ∷ kind.From ∷ kind.Word ∷ kind.Join ∷ kind.Word ∷ kind.On ∷ kind.Word ∷ kind.Inner ∷ kind.Join ∷ kind.Word ∷ kind.Using ∷ kind.LeftParen ∷ kind.Word ∷ kind.Comma ∷ kind.Word ∷ kind.RightParen ∷ kind.Cross ∷ kind.Join ∷ kind.Word ∷ [])
    ≡ asks (query (select (result_is.All ∷ []) (table 3 ∷ roll-FromItem (record { join = record { natural = false; left = false }; source = source_is.Table (word 5) None; alias = None; constraint = constraint.On (a 7) }) ∷ roll-FromItem (record { join = record { natural = false; left = false }; source = source_is.Table (word 10) None; alias = None; constraint = constraint.Using (word 13 ∷ word 15 ∷ []) }) ∷ roll-FromItem (record { join = record { natural = false; left = false }; source = source_is.Table (word 19) None; alias = None; constraint = constraint.Unconstrained }) ∷ [])))
unfolding all_statement_rules count
joins = refl

-- SELECT * FROM a LEFT JOIN b NATURAL LEFT OUTER JOIN c NATURAL JOIN d
left_joins : statement_of (kind.Select ∷ kind.Star ∷ kind.From ∷ kind.Word ∷ kind.Left ∷ kind.Join ∷ kind.Word ∷ kind.Natural ∷ kind.Left ∷ kind.Outer ∷ kind.Join ∷ kind.Word ∷ kind.Natural ∷ kind.Join ∷ kind.Word ∷ [])
    ≡ asks (query (select (result_is.All ∷ []) (table 3 ∷ roll-FromItem (record { join = record { natural = false; left = true }; source = source_is.Table (word 6) None; alias = None; constraint = constraint.Unconstrained }) ∷ roll-FromItem (record { join = record { natural = true; left = true }; source = source_is.Table (word 11) None; alias = None; constraint = constraint.Unconstrained }) ∷ roll-FromItem (record { join = record { natural = true; left = false }; source = source_is.Table (word 14) None; alias = None; constraint = constraint.Unconstrained }) ∷ [])))
unfolding all_statement_rules count
left_joins = refl

-- SELECT * FROM a, b ON c
a_comma_with_a_constraint : statement_of (kind.Select ∷ kind.Star ∷ kind.From ∷ kind.Word ∷ kind.Comma ∷ kind.Word ∷ kind.On ∷ kind.Word ∷ [])
    ≡ asks (query (select (result_is.All ∷ []) (table 3 ∷ roll-FromItem (record { join = record { natural = false; left = false }; source = source_is.Table (word 5) None; alias = None; constraint = constraint.On (a 7) }) ∷ [])))
unfolding all_statement_rules count
a_comma_with_a_constraint = refl

-- SELECT * FROM a (), b (1, c) d
table_arguments : statement_of (kind.Select ∷ kind.Star ∷ kind.From ∷ kind.Word ∷ kind.LeftParen ∷ kind.RightParen ∷ kind.Comma ∷ kind.Word ∷ kind.LeftParen ∷ kind.Number ∷ kind.Comma ∷ kind.Word ∷ kind.RightParen ∷ kind.Word ∷ [])
    ≡ asks (query (select (result_is.All ∷ []) (item (source_is.Table (word 3) (Some [])) None ∷ roll-FromItem (record { join = record { natural = false; left = false }; source = source_is.Table (word 7) (Some (number 9 ∷ a 11 ∷ [])); alias = Some (word 13); constraint = constraint.Unconstrained }) ∷ [])))
unfolding all_statement_rules count
table_arguments = refl

-- SELECT * FROM (SELECT a) AS b
a_query_in_from : statement_of (kind.Select ∷ kind.Star ∷ kind.From ∷ kind.LeftParen ∷ kind.Select ∷ kind.Word ∷ kind.RightParen ∷ kind.As ∷ kind.Word ∷ [])
    ≡ asks (query (select (result_is.All ∷ []) (item (source_is.Derived (select_one 5)) (Some (word 8)) ∷ [])))
unfolding all_statement_rules count
a_query_in_from = refl

-- ---- SELECT and VALUES

-- SELECT DISTINCT a
distinct : statement_of (kind.Select ∷ kind.Distinct ∷ kind.Word ∷ [])
    ≡ asks (roll-Query (record { with = []; first = (part_is.Select (roll-SelectCore (record { distinct = true; results = one 2 ∷ []; from = []; filter = None; group_by = []; having = None }))); others = []; order_by = []; limit = None }))
unfolding all_statement_rules count
distinct = refl

-- SELECT ALL a
not_distinct : statement_of (kind.Select ∷ kind.All ∷ kind.Word ∷ [])
    ≡ asks (roll-Query (record { with = []; first = (part_is.Select (roll-SelectCore (record { distinct = false; results = one 2 ∷ []; from = []; filter = None; group_by = []; having = None }))); others = []; order_by = []; limit = None }))
unfolding all_statement_rules count
not_distinct = refl

-- SELECT a FROM b WHERE c GROUP BY d, f.g HAVING h
every_clause : statement_of (kind.Select ∷ kind.Word ∷ kind.From ∷ kind.Word ∷ kind.Where ∷ kind.Word ∷ kind.Group ∷ kind.By ∷ kind.Word ∷ kind.Comma ∷ kind.Word ∷ kind.Dot ∷ kind.Word ∷ kind.Having ∷ kind.Word ∷ [])
    ≡ asks (roll-Query (record { with = []; first = (part_is.Select (roll-SelectCore (record { distinct = false; results = one 1 ∷ []; from = table 3 ∷ []; filter = Some (a 5); group_by = text 8 9 (a 8) ∷ text 10 13 (e.TableColumn (word 10) (word 12)) ∷ []; having = Some (a 14) }))); others = []; order_by = []; limit = None }))
unfolding all_statement_rules count
every_clause = refl

-- SELECT a HAVING b
having_alone : statement_of (kind.Select ∷ kind.Word ∷ kind.Having ∷ kind.Word ∷ [])
    ≡ asks (roll-Query (record { with = []; first = (part_is.Select (roll-SelectCore (record { distinct = false; results = one 1 ∷ []; from = []; filter = None; group_by = []; having = Some (a 3) }))); others = []; order_by = []; limit = None }))
unfolding all_statement_rules count
having_alone = refl

-- VALUES (1, 2), (a)
rows_of_values : statement_of (kind.Values ∷ kind.LeftParen ∷ kind.Number ∷ kind.Comma ∷ kind.Number ∷ kind.RightParen ∷ kind.Comma ∷ kind.LeftParen ∷ kind.Word ∷ kind.RightParen ∷ [])
    ≡ asks (query (part_is.Values ((number 2 ∷ number 4 ∷ []) ∷ (a 8 ∷ []) ∷ [])))
unfolding all_statement_rules count
rows_of_values = refl

-- ---- compounds

-- SELECT a UNION SELECT b UNION ALL SELECT c INTERSECT SELECT d EXCEPT VALUES (1)
compounds : statement_of (kind.Select ∷ kind.Word ∷ kind.Union ∷ kind.Select ∷ kind.Word ∷ kind.Union ∷ kind.All ∷ kind.Select ∷ kind.Word ∷ kind.Intersect ∷ kind.Select ∷ kind.Word ∷ kind.Except ∷ kind.Values ∷ kind.LeftParen ∷ kind.Number ∷ kind.RightParen ∷ [])
    ≡ asks (roll-Query (record { with = []; first = (select (one 1 ∷ []) []); others = roll-CompoundPart (record { op = compound.Union; part = select (one 4 ∷ []) [] }) ∷ roll-CompoundPart (record { op = compound.UnionAll; part = select (one 8 ∷ []) [] }) ∷ roll-CompoundPart (record { op = compound.Intersect; part = select (one 11 ∷ []) [] }) ∷ roll-CompoundPart (record { op = compound.Except; part = part_is.Values ((number 15 ∷ []) ∷ []) }) ∷ []; order_by = []; limit = None }))
unfolding all_statement_rules count
compounds = refl

-- VALUES (1) UNION SELECT a ORDER BY b LIMIT 1
values_first : statement_of (kind.Values ∷ kind.LeftParen ∷ kind.Number ∷ kind.RightParen ∷ kind.Union ∷ kind.Select ∷ kind.Word ∷ kind.Order ∷ kind.By ∷ kind.Word ∷ kind.Limit ∷ kind.Number ∷ [])
    ≡ asks (roll-Query (record { with = []; first = (part_is.Values ((number 2 ∷ []) ∷ [])); others = roll-CompoundPart (record { op = compound.Union; part = select (one 6 ∷ []) [] }) ∷ []; order_by = roll-OrderingTerm (record { key = text 9 10 (a 9); descending = false; nulls = None }) ∷ []; limit = Some (roll-RowLimit (record { count = number 11; offset = None })) }))
unfolding all_statement_rules count
values_first = refl

-- ---- ORDER BY and LIMIT

-- SELECT a ORDER BY b, c ASC, d DESC NULLS FIRST, f NULLS LAST
terms : statement_of (kind.Select ∷ kind.Word ∷ kind.Order ∷ kind.By ∷ kind.Word ∷ kind.Comma ∷ kind.Word ∷ kind.Asc ∷ kind.Comma ∷ kind.Word ∷ kind.Desc ∷ kind.Nulls ∷ kind.First ∷ kind.Comma ∷ kind.Word ∷ kind.Nulls ∷ kind.Last ∷ [])
    ≡ asks (roll-Query (record { with = []; first = (select (one 1 ∷ []) []); others = []; order_by = roll-OrderingTerm (record { key = text 4 5 (a 4); descending = false; nulls = None }) ∷ roll-OrderingTerm (record { key = text 6 7 (a 6); descending = false; nulls = None }) ∷ roll-OrderingTerm (record { key = text 9 10 (a 9); descending = true; nulls = Some nulls_order.First }) ∷ roll-OrderingTerm (record { key = text 14 15 (a 14); descending = false; nulls = Some nulls_order.Last }) ∷ []; limit = None }))
unfolding all_statement_rules count
terms = refl

-- SELECT a LIMIT 1
a_limit : statement_of (kind.Select ∷ kind.Word ∷ kind.Limit ∷ kind.Number ∷ [])
    ≡ asks (roll-Query (record { with = []; first = (select (one 1 ∷ []) []); others = []; order_by = []; limit = Some (roll-RowLimit (record { count = number 3; offset = None })) }))
unfolding all_statement_rules count
a_limit = refl

-- SELECT a LIMIT 1 OFFSET 2
an_offset : statement_of (kind.Select ∷ kind.Word ∷ kind.Limit ∷ kind.Number ∷ kind.Offset ∷ kind.Number ∷ [])
    ≡ asks (roll-Query (record { with = []; first = (select (one 1 ∷ []) []); others = []; order_by = []; limit = Some (roll-RowLimit (record { count = number 3; offset = Some (number 5) })) }))
unfolding all_statement_rules count
an_offset = refl

-- SELECT a LIMIT 1, 2
the_offset_first : statement_of (kind.Select ∷ kind.Word ∷ kind.Limit ∷ kind.Number ∷ kind.Comma ∷ kind.Number ∷ [])
    ≡ asks (roll-Query (record { with = []; first = (select (one 1 ∷ []) []); others = []; order_by = []; limit = Some (roll-RowLimit (record { count = number 5; offset = Some (number 3) })) }))
unfolding all_statement_rules count
the_offset_first = refl

-- ---- WITH

-- WITH a AS (SELECT b) SELECT c
with : statement_of (kind.With ∷ kind.Word ∷ kind.As ∷ kind.LeftParen ∷ kind.Select ∷ kind.Word ∷ kind.RightParen ∷ kind.Select ∷ kind.Word ∷ [])
    ≡ asks (roll-Query (record { with = roll-CommonTable (record { name = word 1; columns = []; query = select_one 5 }) ∷ []; first = (select (one 8 ∷ []) []); others = []; order_by = []; limit = None }))
unfolding all_statement_rules count
with = refl

-- WITH RECURSIVE a (b, c) AS (VALUES (1)), d AS (SELECT f) SELECT g
with_recursive : statement_of (kind.With ∷ kind.Recursive ∷ kind.Word ∷ kind.LeftParen ∷ kind.Word ∷ kind.Comma ∷ kind.Word ∷ kind.RightParen ∷ kind.As ∷ kind.LeftParen ∷ kind.Values ∷ kind.LeftParen ∷ kind.Number ∷ kind.RightParen ∷ kind.RightParen ∷ kind.Comma ∷ kind.Word ∷ kind.As ∷ kind.LeftParen ∷ kind.Select ∷ kind.Word ∷ kind.RightParen ∷ kind.Select ∷ kind.Word ∷ [])
    ≡ asks (roll-Query (record { with = roll-CommonTable (record { name = word 2; columns = word 4 ∷ word 6 ∷ []; query = query (part_is.Values ((number 12 ∷ []) ∷ [])) }) ∷ roll-CommonTable (record { name = word 16; columns = []; query = select_one 20 }) ∷ []; first = (select (one 23 ∷ []) []); others = []; order_by = []; limit = None }))
unfolding all_statement_rules count
with_recursive = refl

-- ---- what is refused

-- SELECT FROM a
no_result : WrongAt 1 (kind.Select ∷ kind.From ∷ kind.Word ∷ [])
unfolding all_statement_rules count
no_result = refl

-- SELECT a, FROM b
no_result_behind_a_comma : WrongAt 3 (kind.Select ∷ kind.Word ∷ kind.Comma ∷ kind.From ∷ kind.Word ∷ [])
unfolding all_statement_rules count
no_result_behind_a_comma = refl

-- SELECT * a
all_with_a_name : WrongAt 2 (kind.Select ∷ kind.Star ∷ kind.Word ∷ [])
unfolding all_statement_rules count
all_with_a_name = refl

-- SELECT a.b.*
all_of_a_column : WrongAt 4 (kind.Select ∷ kind.Word ∷ kind.Dot ∷ kind.Word ∷ kind.Dot ∷ kind.Star ∷ [])
unfolding all_statement_rules count
all_of_a_column = refl

-- SELECT * WHERE a FROM b
from_last : WrongAt 4 (kind.Select ∷ kind.Star ∷ kind.Where ∷ kind.Word ∷ kind.From ∷ kind.Word ∷ [])
unfolding all_statement_rules count
from_last = refl

-- SELECT a GROUP BY b WHERE c
where_behind_group : WrongAt 5 (kind.Select ∷ kind.Word ∷ kind.Group ∷ kind.By ∷ kind.Word ∷ kind.Where ∷ kind.Word ∷ [])
unfolding all_statement_rules count
where_behind_group = refl

-- SELECT DISTINCT ALL a
two_distincts : WrongAt 2 (kind.Select ∷ kind.Distinct ∷ kind.All ∷ kind.Word ∷ [])
unfolding all_statement_rules count
two_distincts = refl

-- SELECT * FROM a RIGHT JOIN b
a_right_join : WrongAt 4 (kind.Select ∷ kind.Star ∷ kind.From ∷ kind.Word ∷ kind.Right ∷ kind.Join ∷ kind.Word ∷ [])
unfolding all_statement_rules count
a_right_join = refl

-- SELECT * FROM a OUTER JOIN b
outer_without_left : WrongAt 4 (kind.Select ∷ kind.Star ∷ kind.From ∷ kind.Word ∷ kind.Outer ∷ kind.Join ∷ kind.Word ∷ [])
unfolding all_statement_rules count
outer_without_left = refl

-- SELECT * FROM a NATURAL b
natural_alone : WrongAt 5 (kind.Select ∷ kind.Star ∷ kind.From ∷ kind.Word ∷ kind.Natural ∷ kind.Word ∷ [])
unfolding all_statement_rules count
natural_alone = refl

-- SELECT * FROM a ON b
on_behind_the_first_item : WrongAt 4 (kind.Select ∷ kind.Star ∷ kind.From ∷ kind.Word ∷ kind.On ∷ kind.Word ∷ [])
unfolding all_statement_rules count
on_behind_the_first_item = refl

-- SELECT * FROM a JOIN b ON c USING (d)
two_constraints : WrongAt 8 (kind.Select ∷ kind.Star ∷ kind.From ∷ kind.Word ∷ kind.Join ∷ kind.Word ∷ kind.On ∷ kind.Word ∷ kind.Using ∷ kind.LeftParen ∷ kind.Word ∷ kind.RightParen ∷ [])
unfolding all_statement_rules count
two_constraints = refl

-- SELECT * FROM a JOIN b USING ()
using_nothing : WrongAt 8 (kind.Select ∷ kind.Star ∷ kind.From ∷ kind.Word ∷ kind.Join ∷ kind.Word ∷ kind.Using ∷ kind.LeftParen ∷ kind.RightParen ∷ [])
unfolding all_statement_rules count
using_nothing = refl

-- SELECT * FROM (a)
a_table_in_parentheses : WrongAt 4 (kind.Select ∷ kind.Star ∷ kind.From ∷ kind.LeftParen ∷ kind.Word ∷ kind.RightParen ∷ [])
unfolding all_statement_rules count
a_table_in_parentheses = refl

-- VALUES ()
no_value : WrongAt 2 (kind.Values ∷ kind.LeftParen ∷ kind.RightParen ∷ [])
unfolding all_statement_rules count
no_value = refl

-- VALUES 1
values_without_parentheses : WrongAt 1 (kind.Values ∷ kind.Number ∷ [])
unfolding all_statement_rules count
values_without_parentheses = refl

-- VALUES (1) ORDER BY a
order_behind_values : WrongAt 4 (kind.Values ∷ kind.LeftParen ∷ kind.Number ∷ kind.RightParen ∷ kind.Order ∷ kind.By ∷ kind.Word ∷ [])
unfolding all_statement_rules count
order_behind_values = refl

-- SELECT a UNION VALUES (1) LIMIT 1
limit_behind_values : WrongAt 7 (kind.Select ∷ kind.Word ∷ kind.Union ∷ kind.Values ∷ kind.LeftParen ∷ kind.Number ∷ kind.RightParen ∷ kind.Limit ∷ kind.Number ∷ [])
unfolding all_statement_rules count
limit_behind_values = refl

-- SELECT a ORDER BY b UNION SELECT c
order_within_a_compound : WrongAt 5 (kind.Select ∷ kind.Word ∷ kind.Order ∷ kind.By ∷ kind.Word ∷ kind.Union ∷ kind.Select ∷ kind.Word ∷ [])
unfolding all_statement_rules count
order_within_a_compound = refl

-- SELECT a INTERSECT ALL SELECT b
intersect_all : WrongAt 3 (kind.Select ∷ kind.Word ∷ kind.Intersect ∷ kind.All ∷ kind.Select ∷ kind.Word ∷ [])
unfolding all_statement_rules count
intersect_all = refl

-- (SELECT a) UNION SELECT b
a_compound_in_parentheses : WrongAt 0 (kind.LeftParen ∷ kind.Select ∷ kind.Word ∷ kind.RightParen ∷ kind.Union ∷ kind.Select ∷ kind.Word ∷ [])
unfolding all_statement_rules count
a_compound_in_parentheses = refl

-- SELECT a ORDER b
order_without_by : WrongAt 3 (kind.Select ∷ kind.Word ∷ kind.Order ∷ kind.Word ∷ [])
unfolding all_statement_rules count
order_without_by = refl

-- SELECT a ORDER BY b ASC DESC
two_directions : WrongAt 6 (kind.Select ∷ kind.Word ∷ kind.Order ∷ kind.By ∷ kind.Word ∷ kind.Asc ∷ kind.Desc ∷ [])
unfolding all_statement_rules count
two_directions = refl

-- SELECT a ORDER BY b NULLS
nulls_alone : WrongAt 6 (kind.Select ∷ kind.Word ∷ kind.Order ∷ kind.By ∷ kind.Word ∷ kind.Nulls ∷ [])
unfolding all_statement_rules count
nulls_alone = refl

-- SELECT a LIMIT 1 ORDER BY b
limit_before_order : WrongAt 4 (kind.Select ∷ kind.Word ∷ kind.Limit ∷ kind.Number ∷ kind.Order ∷ kind.By ∷ kind.Word ∷ [])
unfolding all_statement_rules count
limit_before_order = refl

-- SELECT a LIMIT 1, 2, 3
three_limits : WrongAt 6 (kind.Select ∷ kind.Word ∷ kind.Limit ∷ kind.Number ∷ kind.Comma ∷ kind.Number ∷ kind.Comma ∷ kind.Number ∷ [])
unfolding all_statement_rules count
three_limits = refl

-- WITH a AS (SELECT b)
with_alone : WrongAt 7 (kind.With ∷ kind.Word ∷ kind.As ∷ kind.LeftParen ∷ kind.Select ∷ kind.Word ∷ kind.RightParen ∷ [])
unfolding all_statement_rules count
with_alone = refl

-- WITH a AS (b) SELECT c
a_common_table_of_an_expression : WrongAt 4 (kind.With ∷ kind.Word ∷ kind.As ∷ kind.LeftParen ∷ kind.Word ∷ kind.RightParen ∷ kind.Select ∷ kind.Word ∷ [])
unfolding all_statement_rules count
a_common_table_of_an_expression = refl
