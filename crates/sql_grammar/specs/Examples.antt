-- How expressions are read, by the trees of small texts.
use Rattle.std.specs.Prelude.{◌≡◌, [], ◌∷◌, Some, None, refl}
use Rattle.sql_tree.specs.declared.token.TokenKind.TheVariants as kind
use Rattle.sql_tree.specs.declared.expr.Arguments.TheVariants as arguments_are
use Rattle.sql_tree.specs.declared.expr.Arm.{roll-Arm}
use Rattle.sql_tree.specs.declared.expr.BinaryOp.TheVariants as binary
use Rattle.sql_tree.specs.declared.expr.Expr.TheVariants as e
use Rattle.sql_tree.specs.declared.expr.UnaryOp.TheVariants as unary
use Rattle.sql_tree.specs.declared.query.QueryPart.TheVariants as part_is
use Rattle.sql_grammar.specs.Marks.{count}
use Rattle.sql_grammar.specs.Answers.{Tree}
use Rattle.sql_grammar.specs.ExampleWords.{t, word, a, number, query, select_one, expression_of, NoExpressionAt}
use Rattle.sql_grammar.specs.Statements.{all_statement_rules}

-- ---- how operators bind

-- a OR b AND c
and_first : expression_of (kind.Word ∷ kind.Or ∷ kind.Word ∷ kind.And ∷ kind.Word ∷ []) ≡ Tree (e.Binary binary.Or (a 0) (e.Binary binary.And (a 2) (a 4)))
unfolding all_statement_rules count
and_first = refl

-- NOT a = b
not_equal : expression_of (kind.Not ∷ kind.Word ∷ kind.Equal ∷ kind.Word ∷ []) ≡ Tree (e.Unary unary.Not (e.Binary binary.Equal (a 1) (a 3)))
unfolding all_statement_rules count
not_equal = refl

-- NOT NOT a
two_nots : expression_of (kind.Not ∷ kind.Not ∷ kind.Word ∷ []) ≡ Tree (e.Unary unary.Not (e.Unary unary.Not (a 2)))
unfolding all_statement_rules count
two_nots = refl

-- a == b < c
equal_over_less : expression_of (kind.Word ∷ kind.DoubleEqual ∷ kind.Word ∷ kind.Less ∷ kind.Word ∷ []) ≡ Tree (e.Binary binary.Equal (a 0) (e.Binary binary.Less (a 2) (a 4)))
unfolding all_statement_rules count
equal_over_less = refl

-- a <= b & c
less_over_bits : expression_of (kind.Word ∷ kind.LessEqual ∷ kind.Word ∷ kind.Ampersand ∷ kind.Word ∷ []) ≡ Tree (e.Binary binary.LessEqual (a 0) (e.Binary binary.BitAnd (a 2) (a 4)))
unfolding all_statement_rules count
less_over_bits = refl

-- a | b + c
bits_over_sum : expression_of (kind.Word ∷ kind.Bar ∷ kind.Word ∷ kind.Plus ∷ kind.Word ∷ []) ≡ Tree (e.Binary binary.BitOr (a 0) (e.Binary binary.Add (a 2) (a 4)))
unfolding all_statement_rules count
bits_over_sum = refl

-- a - b * c
sum_over_product : expression_of (kind.Word ∷ kind.Minus ∷ kind.Word ∷ kind.Star ∷ kind.Word ∷ []) ≡ Tree (e.Binary binary.Subtract (a 0) (e.Binary binary.Multiply (a 2) (a 4)))
unfolding all_statement_rules count
sum_over_product = refl

-- a / b || c
product_over_concatenation : expression_of (kind.Word ∷ kind.Slash ∷ kind.Word ∷ kind.DoubleBar ∷ kind.Word ∷ []) ≡ Tree (e.Binary binary.Divide (a 0) (e.Binary binary.Concatenate (a 2) (a 4)))
unfolding all_statement_rules count
product_over_concatenation = refl

-- a COLLATE b || c
collated_first : expression_of (kind.Word ∷ kind.Collate ∷ kind.Word ∷ kind.DoubleBar ∷ kind.Word ∷ []) ≡ Tree (e.Binary binary.Concatenate (e.Collate (a 0) (word 2)) (a 4))
unfolding all_statement_rules count
collated_first = refl

-- - a || b
negative_joined : expression_of (kind.Minus ∷ kind.Word ∷ kind.DoubleBar ∷ kind.Word ∷ []) ≡ Tree (e.Binary binary.Concatenate (e.Unary unary.Negative (a 1)) (a 3))
unfolding all_statement_rules count
negative_joined = refl

-- - + ~ a
three_signs : expression_of (kind.Minus ∷ kind.Plus ∷ kind.Tilde ∷ kind.Word ∷ []) ≡ Tree (e.Unary unary.Negative (e.Unary unary.Positive (e.Unary unary.BitNot (a 3))))
unfolding all_statement_rules count
three_signs = refl

-- a - b - c
left_first : expression_of (kind.Word ∷ kind.Minus ∷ kind.Word ∷ kind.Minus ∷ kind.Word ∷ []) ≡ Tree (e.Binary binary.Subtract (e.Binary binary.Subtract (a 0) (a 2)) (a 4))
unfolding all_statement_rules count
left_first = refl

-- a << b >> c
shifts : expression_of (kind.Word ∷ kind.ShiftLeft ∷ kind.Word ∷ kind.ShiftRight ∷ kind.Word ∷ []) ≡ Tree (e.Binary binary.ShiftRight (e.Binary binary.ShiftLeft (a 0) (a 2)) (a 4))
unfolding all_statement_rules count
shifts = refl

-- a > b >= c
relations : expression_of (kind.Word ∷ kind.Greater ∷ kind.Word ∷ kind.GreaterEqual ∷ kind.Word ∷ []) ≡ Tree (e.Binary binary.GreaterEqual (e.Binary binary.Greater (a 0) (a 2)) (a 4))
unfolding all_statement_rules count
relations = refl

-- a % b
remainder : expression_of (kind.Word ∷ kind.Percent ∷ kind.Word ∷ []) ≡ Tree (e.Binary binary.Remainder (a 0) (a 2))
unfolding all_statement_rules count
remainder = refl

-- (a + b) * c
grouped : expression_of (kind.LeftParen ∷ kind.Word ∷ kind.Plus ∷ kind.Word ∷ kind.RightParen ∷ kind.Star ∷ kind.Word ∷ []) ≡ Tree (e.Binary binary.Multiply (e.Binary binary.Add (a 1) (a 3)) (a 6))
unfolding all_statement_rules count
grouped = refl

-- ---- tests

-- a <> b != c
unequal : expression_of (kind.Word ∷ kind.LessGreater ∷ kind.Word ∷ kind.BangEqual ∷ kind.Word ∷ []) ≡ Tree (e.Binary binary.NotEqual (e.Binary binary.NotEqual (a 0) (a 2)) (a 4))
unfolding all_statement_rules count
unequal = refl

-- a IS NULL
is_null : expression_of (kind.Word ∷ kind.Is ∷ kind.Null ∷ []) ≡ Tree (e.Binary binary.Is (a 0) (e.Literal (t kind.Null 2)))
unfolding all_statement_rules count
is_null = refl

-- a IS NOT NULL
is_not_null : expression_of (kind.Word ∷ kind.Is ∷ kind.Not ∷ kind.Null ∷ []) ≡ Tree (e.Binary binary.IsNot (a 0) (e.Literal (t kind.Null 3)))
unfolding all_statement_rules count
is_not_null = refl

-- a IS DISTINCT FROM b
is_distinct : expression_of (kind.Word ∷ kind.Is ∷ kind.Distinct ∷ kind.From ∷ kind.Word ∷ []) ≡ Tree (e.Binary binary.IsNot (a 0) (a 4))
unfolding all_statement_rules count
is_distinct = refl

-- a IS NOT DISTINCT FROM b
is_not_distinct : expression_of (kind.Word ∷ kind.Is ∷ kind.Not ∷ kind.Distinct ∷ kind.From ∷ kind.Word ∷ []) ≡ Tree (e.Binary binary.Is (a 0) (a 5))
unfolding all_statement_rules count
is_not_distinct = refl

-- a BETWEEN b AND c AND d
between_and : expression_of (kind.Word ∷ kind.Between ∷ kind.Word ∷ kind.And ∷ kind.Word ∷ kind.And ∷ kind.Word ∷ []) ≡ Tree (e.Binary binary.And (e.Between (a 0) (a 2) (a 4)) (a 6))
unfolding all_statement_rules count
between_and = refl

-- a NOT BETWEEN b AND c
not_between : expression_of (kind.Word ∷ kind.Not ∷ kind.Between ∷ kind.Word ∷ kind.And ∷ kind.Word ∷ []) ≡ Tree (e.Unary unary.Not (e.Between (a 0) (a 3) (a 5)))
unfolding all_statement_rules count
not_between = refl

-- a LIKE b ESCAPE c
like_escaped : expression_of (kind.Word ∷ kind.Like ∷ kind.Word ∷ kind.Escape ∷ kind.Word ∷ []) ≡ Tree (e.Like (a 0) (a 2) (Some (a 4)))
unfolding all_statement_rules count
like_escaped = refl

-- a NOT LIKE b
not_like : expression_of (kind.Word ∷ kind.Not ∷ kind.Like ∷ kind.Word ∷ []) ≡ Tree (e.Unary unary.Not (e.Like (a 0) (a 3) None))
unfolding all_statement_rules count
not_like = refl

-- a GLOB b
glob : expression_of (kind.Word ∷ kind.Glob ∷ kind.Word ∷ []) ≡ Tree (e.Binary binary.Glob (a 0) (a 2))
unfolding all_statement_rules count
glob = refl

-- a NOT GLOB b
not_glob : expression_of (kind.Word ∷ kind.Not ∷ kind.Glob ∷ kind.Word ∷ []) ≡ Tree (e.Unary unary.Not (e.Binary binary.Glob (a 0) (a 3)))
unfolding all_statement_rules count
not_glob = refl

-- a IN ()
in_nothing : expression_of (kind.Word ∷ kind.In ∷ kind.LeftParen ∷ kind.RightParen ∷ []) ≡ Tree (e.In (a 0) [])
unfolding all_statement_rules count
in_nothing = refl

-- a IN (b, c)
in_list : expression_of (kind.Word ∷ kind.In ∷ kind.LeftParen ∷ kind.Word ∷ kind.Comma ∷ kind.Word ∷ kind.RightParen ∷ []) ≡ Tree (e.In (a 0) (a 3 ∷ a 5 ∷ []))
unfolding all_statement_rules count
in_list = refl

-- a NOT IN (b)
not_in : expression_of (kind.Word ∷ kind.Not ∷ kind.In ∷ kind.LeftParen ∷ kind.Word ∷ kind.RightParen ∷ []) ≡ Tree (e.Unary unary.Not (e.In (a 0) (a 4 ∷ [])))
unfolding all_statement_rules count
not_in = refl

-- a IN (SELECT b)
in_query : expression_of (kind.Word ∷ kind.In ∷ kind.LeftParen ∷ kind.Select ∷ kind.Word ∷ kind.RightParen ∷ []) ≡ Tree (e.InQuery (a 0) (select_one 4))
unfolding all_statement_rules count
in_query = refl

-- a ISNULL NOTNULL NOT NULL
null_tests : expression_of (kind.Word ∷ kind.IsNull ∷ kind.NotNull ∷ kind.Not ∷ kind.Null ∷ []) ≡ Tree (e.Unary unary.NotNull (e.Unary unary.NotNull (e.Unary unary.IsNull (a 0))))
unfolding all_statement_rules count
null_tests = refl

-- a = b IS c
tests_in_turn : expression_of (kind.Word ∷ kind.Equal ∷ kind.Word ∷ kind.Is ∷ kind.Word ∷ []) ≡ Tree (e.Binary binary.Is (e.Binary binary.Equal (a 0) (a 2)) (a 4))
unfolding all_statement_rules count
tests_in_turn = refl

-- ---- operands

-- 1
a_number : expression_of (kind.Number ∷ []) ≡ Tree (e.Literal (t kind.Number 0))
unfolding all_statement_rules count
a_number = refl

-- 'a'
a_text : expression_of (kind.Text ∷ []) ≡ Tree (e.Literal (t kind.Text 0))
unfolding all_statement_rules count
a_text = refl

-- x'00'
a_blob : expression_of (kind.Blob ∷ []) ≡ Tree (e.Literal (t kind.Blob 0))
unfolding all_statement_rules count
a_blob = refl

-- NULL
null : expression_of (kind.Null ∷ []) ≡ Tree (e.Literal (t kind.Null 0))
unfolding all_statement_rules count
null = refl

-- TRUE
truth : expression_of (kind.True ∷ []) ≡ Tree (e.Literal (t kind.True 0))
unfolding all_statement_rules count
truth = refl

-- FALSE
untruth : expression_of (kind.False ∷ []) ≡ Tree (e.Literal (t kind.False 0))
unfolding all_statement_rules count
untruth = refl

-- ?1
a_parameter : expression_of (kind.Parameter ∷ []) ≡ Tree (e.Parameter (t kind.Parameter 0))
unfolding all_statement_rules count
a_parameter = refl

-- "a"
a_quoted_name : expression_of (kind.QuotedName ∷ []) ≡ Tree (e.Column (t kind.QuotedName 0))
unfolding all_statement_rules count
a_quoted_name = refl

-- KEY
a_word_that_is_no_keyword_here : expression_of (kind.Key ∷ []) ≡ Tree (e.Column (t kind.Key 0))
unfolding all_statement_rules count
a_word_that_is_no_keyword_here = refl

-- a.b
of_a_table : expression_of (kind.Word ∷ kind.Dot ∷ kind.Word ∷ []) ≡ Tree (e.TableColumn (word 0) (word 2))
unfolding all_statement_rules count
of_a_table = refl

-- a ()
no_arguments : expression_of (kind.Word ∷ kind.LeftParen ∷ kind.RightParen ∷ []) ≡ Tree (e.Call (word 0) arguments_are.All [] None)
unfolding all_statement_rules count
no_arguments = refl

-- a (*)
star : expression_of (kind.Word ∷ kind.LeftParen ∷ kind.Star ∷ kind.RightParen ∷ []) ≡ Tree (e.Call (word 0) arguments_are.Star [] None)
unfolding all_statement_rules count
star = refl

-- a (b, c)
two_arguments : expression_of (kind.Word ∷ kind.LeftParen ∷ kind.Word ∷ kind.Comma ∷ kind.Word ∷ kind.RightParen ∷ []) ≡ Tree (e.Call (word 0) arguments_are.All (a 2 ∷ a 4 ∷ []) None)
unfolding all_statement_rules count
two_arguments = refl

-- a (DISTINCT b) FILTER (WHERE c)
distinct_filtered : expression_of (kind.Word ∷ kind.LeftParen ∷ kind.Distinct ∷ kind.Word ∷ kind.RightParen ∷ kind.Filter ∷ kind.LeftParen ∷ kind.Where ∷ kind.Word ∷ kind.RightParen ∷ [])
    ≡ Tree (e.Call (word 0) arguments_are.Distinct (a 3 ∷ []) (Some (a 8)))
unfolding all_statement_rules count
distinct_filtered = refl

-- (SELECT a)
subquery : expression_of (kind.LeftParen ∷ kind.Select ∷ kind.Word ∷ kind.RightParen ∷ []) ≡ Tree (e.Subquery (select_one 2))
unfolding all_statement_rules count
subquery = refl

-- (VALUES (1))
subquery_of_rows : expression_of (kind.LeftParen ∷ kind.Values ∷ kind.LeftParen ∷ kind.Number ∷ kind.RightParen ∷ kind.RightParen ∷ []) ≡ Tree (e.Subquery (query (part_is.Values ((number 3 ∷ []) ∷ []))))
unfolding all_statement_rules count
subquery_of_rows = refl

-- EXISTS (SELECT a)
exists : expression_of (kind.Exists ∷ kind.LeftParen ∷ kind.Select ∷ kind.Word ∷ kind.RightParen ∷ []) ≡ Tree (e.Exists (select_one 3))
unfolding all_statement_rules count
exists = refl

-- CAST (a AS b c (1, - 2))
cast : expression_of (kind.Cast ∷ kind.LeftParen ∷ kind.Word ∷ kind.As ∷ kind.Word ∷ kind.Word ∷ kind.LeftParen ∷ kind.Number ∷ kind.Comma ∷ kind.Minus ∷ kind.Number ∷ kind.RightParen ∷ kind.RightParen ∷ [])
    ≡ Tree (e.Cast (a 2) (record { words = word 4 ∷ word 5 ∷ []; sizes = record { sign = None; number = t kind.Number 7 } ∷ record { sign = Some (t kind.Minus 9); number = t kind.Number 10 } ∷ [] }))
unfolding all_statement_rules count
cast = refl

-- CASE a WHEN b THEN c END
case_of : expression_of (kind.Case ∷ kind.Word ∷ kind.When ∷ kind.Word ∷ kind.Then ∷ kind.Word ∷ kind.End ∷ []) ≡ Tree (e.Case (Some (a 1)) (roll-Arm (record { condition = a 3; value = a 5 }) ∷ []) None)
unfolding all_statement_rules count
case_of = refl

-- CASE WHEN a THEN b WHEN c THEN d ELSE f END
case_when : expression_of (kind.Case ∷ kind.When ∷ kind.Word ∷ kind.Then ∷ kind.Word ∷ kind.When ∷ kind.Word ∷ kind.Then ∷ kind.Word ∷ kind.Else ∷ kind.Word ∷ kind.End ∷ [])
    ≡ Tree (e.Case None (roll-Arm (record { condition = a 2; value = a 4 }) ∷ roll-Arm (record { condition = a 6; value = a 8 }) ∷ []) (Some (a 10)))
unfolding all_statement_rules count
case_when = refl

-- RAISE (IGNORE)
raise_ignore : expression_of (kind.Raise ∷ kind.LeftParen ∷ kind.Ignore ∷ kind.RightParen ∷ []) ≡ Tree (e.RaiseIgnore)
unfolding all_statement_rules count
raise_ignore = refl

-- RAISE (ABORT, 'a')
raise_abort : expression_of (kind.Raise ∷ kind.LeftParen ∷ kind.Abort ∷ kind.Comma ∷ kind.Text ∷ kind.RightParen ∷ []) ≡ Tree (e.RaiseAbort (t kind.Text 4))
unfolding all_statement_rules count
raise_abort = refl

-- ---- what is refused

-- no tokens
no_expression : NoExpressionAt 0 []
unfolding all_statement_rules count
no_expression = refl

-- a + NOT b
nothing_behind_not : NoExpressionAt 2 (kind.Word ∷ kind.Plus ∷ kind.Not ∷ kind.Word ∷ [])
unfolding all_statement_rules count
nothing_behind_not = refl

-- a =
an_end : NoExpressionAt 2 (kind.Word ∷ kind.Equal ∷ [])
unfolding all_statement_rules count
an_end = refl

-- a NOT = b
not_before_equal : NoExpressionAt 2 (kind.Word ∷ kind.Not ∷ kind.Equal ∷ kind.Word ∷ [])
unfolding all_statement_rules count
not_before_equal = refl

-- a BETWEEN b
half_between : NoExpressionAt 3 (kind.Word ∷ kind.Between ∷ kind.Word ∷ [])
unfolding all_statement_rules count
half_between = refl

-- SELECT
reserved : NoExpressionAt 0 (kind.Select ∷ [])
unfolding all_statement_rules count
reserved = refl

-- a.*
no_name_behind_dot : NoExpressionAt 2 (kind.Word ∷ kind.Dot ∷ kind.Star ∷ [])
unfolding all_statement_rules count
no_name_behind_dot = refl

-- a (*, b)
star_with_more : NoExpressionAt 3 (kind.Word ∷ kind.LeftParen ∷ kind.Star ∷ kind.Comma ∷ kind.Word ∷ kind.RightParen ∷ [])
unfolding all_statement_rules count
star_with_more = refl

-- a (DISTINCT)
distinct_nothing : NoExpressionAt 3 (kind.Word ∷ kind.LeftParen ∷ kind.Distinct ∷ kind.RightParen ∷ [])
unfolding all_statement_rules count
distinct_nothing = refl

-- a () FILTER (b)
filter_without_where : NoExpressionAt 5 (kind.Word ∷ kind.LeftParen ∷ kind.RightParen ∷ kind.Filter ∷ kind.LeftParen ∷ kind.Word ∷ kind.RightParen ∷ [])
unfolding all_statement_rules count
filter_without_where = refl

-- CASE a END
no_arm : NoExpressionAt 2 (kind.Case ∷ kind.Word ∷ kind.End ∷ [])
unfolding all_statement_rules count
no_arm = refl

-- CASE WHEN a THEN b
case_without_end : NoExpressionAt 5 (kind.Case ∷ kind.When ∷ kind.Word ∷ kind.Then ∷ kind.Word ∷ [])
unfolding all_statement_rules count
case_without_end = refl

-- CAST (a AS b (1, 2, 3))
three_sizes : NoExpressionAt 9 (kind.Cast ∷ kind.LeftParen ∷ kind.Word ∷ kind.As ∷ kind.Word ∷ kind.LeftParen ∷ kind.Number ∷ kind.Comma ∷ kind.Number ∷ kind.Comma ∷ kind.Number ∷ kind.RightParen ∷ kind.RightParen ∷ [])
unfolding all_statement_rules count
three_sizes = refl

-- RAISE (REPLACE)
raise_otherwise : NoExpressionAt 2 (kind.Raise ∷ kind.LeftParen ∷ kind.Replace ∷ kind.RightParen ∷ [])
unfolding all_statement_rules count
raise_otherwise = refl

-- RAISE (ABORT, a)
raise_a_name : NoExpressionAt 4 (kind.Raise ∷ kind.LeftParen ∷ kind.Abort ∷ kind.Comma ∷ kind.Word ∷ kind.RightParen ∷ [])
unfolding all_statement_rules count
raise_a_name = refl

-- EXISTS (a)
exists_an_expression : NoExpressionAt 2 (kind.Exists ∷ kind.LeftParen ∷ kind.Word ∷ kind.RightParen ∷ [])
unfolding all_statement_rules count
exists_an_expression = refl

-- (a
not_closed : NoExpressionAt 2 (kind.LeftParen ∷ kind.Word ∷ [])
unfolding all_statement_rules count
not_closed = refl

-- (a, b)
comma_in_parentheses : NoExpressionAt 2 (kind.LeftParen ∷ kind.Word ∷ kind.Comma ∷ kind.Word ∷ kind.RightParen ∷ [])
unfolding all_statement_rules count
comma_in_parentheses = refl
