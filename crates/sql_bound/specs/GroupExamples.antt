-- Groups, ORDER BY and compounds.
use Rattle.std.specs.Prelude.{pos, ◌≡◌, List, [], ◌∷◌, Option, Some, None, codes, refl}
use Rattle.eng_value.specs.declared.cause.Cause.TheVariants.{Arity, BareColumn, Misuse, Unknown}
use Rattle.eng_value.specs.declared.cause.NameKind.TheVariants as kind
use Rattle.eng_value.specs.declared.operators.ArithmeticOp.TheVariants as arithmetic
use Rattle.eng_value.specs.declared.operators.BinaryOperator.TheVariants as binary
use Rattle.eng_value.specs.declared.value.Value.TheVariants as value
use Rattle.sql_grammar.specs.Marks.{count}
use Rattle.sql_grammar.specs.Statements.{all_statement_rules}
use Rattle.sql_lex.specs.Pieces.{word_kind}
use Rattle.sql_lex.specs.Tokens.{tokens_of}
use Rattle.sql_tree.specs.declared.expr.BinaryOp.TheVariants as op
use Rattle.sql_tree.specs.declared.query.CompoundOp.TheVariants as compound_op
use Rattle.sql_words.specs.Spelled.{the_text_test}
use Rattle.sql_words.specs.declared.literal.Literal.TheVariants as literal
use Rattle.bound_tree.specs.Exprs as e
use Rattle.sql_bound.specs.Carriers.{CoreParts, Expression, SpannedExpression}
use Rattle.sql_bound.specs.Samples.{both, bound, by, call, col, compound, core, dot, lit, named, named_as, ordered, query, refused, res, res_as, results_at, scalar, span, starred}

-- grouped by the first, with HAVING if any
abbrev grouped : CoreParts → List SpannedExpression → Option Expression → CoreParts
grouped c keys having = record c { group_by = keys; having = having }

-- a column beside an aggregate
a_bare_column : refused (codes "SELECT count(*), a FROM t") (λ t. query (core (res t (starred t 1) 1 4 ∷ res t (col t 6) 6 6 ∷ []) (named t 8 ∷ []) None)) ≡ Some (BareColumn (codes "a"))
unfolding all_statement_rules count tokens_of word_kind the_text_test
a_bare_column = refl

-- an aggregate behind a column makes it bare, and what is bare comes before what is unknown behind it
an_aggregate_behind : refused (codes "SELECT a, nosuch, sum(a) FROM t") (λ t. query (core (res t (col t 1) 1 1 ∷ res t (col t 3) 3 3 ∷ res t (call t 5 (col t 7 ∷ [])) 5 8 ∷ []) (named t 10 ∷ []) None)) ≡ Some (BareColumn (codes "a"))
unfolding all_statement_rules count tokens_of word_kind the_text_test
an_aggregate_behind = refl

-- a part that as bound is a group expression is none, in a larger one, too
a_group_expression : results_at 0 (bound (codes "SELECT t.a + 1 FROM t GROUP BY a") (λ t. query (grouped (core (res t (both op.Add (dot t 1 3) (lit t 5)) 1 5 ∷ []) (named t 7 ∷ []) None) (span t (col t 10) 10 10 ∷ []) None))) ≡ e.Binary (binary.Arithmetic arithmetic.Add) (e.Column 0 0) (e.Literal (literal.Value (value.Integer (pos 1)))) ∷ []
unfolding all_statement_rules count tokens_of word_kind the_text_test
a_group_expression = refl

another_expression : refused (codes "SELECT a FROM t GROUP BY a + 1") (λ t. query (grouped (core (res t (col t 1) 1 1 ∷ []) (named t 3 ∷ []) None) (span t (both op.Add (col t 6) (lit t 8)) 6 8 ∷ []) None)) ≡ Some (BareColumn (codes "a"))
unfolding all_statement_rules count tokens_of word_kind the_text_test
another_expression = refl

-- what a query is handed is a part of its own
handed_to_a_query : refused (codes "SELECT (SELECT b) FROM t GROUP BY a") (λ t. query (grouped (core (res t (scalar (query (core (res t (col t 3) 3 3 ∷ []) [] None))) 1 4 ∷ []) (named t 6 ∷ []) None) (span t (col t 9) 9 9 ∷ []) None)) ≡ Some (BareColumn (codes "B"))
unfolding all_statement_rules count tokens_of word_kind the_text_test
handed_to_a_query = refl

-- a query in another case of its names is the same
in_another_case : refused (codes "SELECT (SELECT a AS N FROM u x) FROM t GROUP BY (SELECT A AS n FROM u X)") (λ t. query (grouped (core (res t (scalar (query (core (res_as t (col t 3) 3 3 5 ∷ []) (named_as t 7 8 ∷ []) None))) 1 9 ∷ []) (named t 11 ∷ []) None) (span t (scalar (query (core (res_as t (col t 16) 16 16 18 ∷ []) (named_as t 20 21 ∷ []) None))) 14 22 ∷ []) None)) ≡ None
unfolding all_statement_rules count tokens_of word_kind the_text_test
in_another_case = refl

-- HAVING groups
having_alone : refused (codes "SELECT 1 FROM t HAVING a") (λ t. query (grouped (core (res t (lit t 1) 1 1 ∷ []) (named t 3 ∷ []) None) [] (Some (col t 5)))) ≡ Some (BareColumn (codes "a"))
unfolding all_statement_rules count tokens_of word_kind the_text_test
having_alone = refl

-- a condition that is a group expression is none that is split
a_whole_condition : refused (codes "SELECT 1 FROM t GROUP BY a AND b HAVING a AND b") (λ t. query (grouped (core (res t (lit t 1) 1 1 ∷ []) (named t 3 ∷ []) None) (span t (both op.And (col t 6) (col t 8)) 6 8 ∷ []) (Some (both op.And (col t 10) (col t 12))))) ≡ None
unfolding all_statement_rules count tokens_of word_kind the_text_test
a_whole_condition = refl

-- by the number of a result, and by none
a_number : refused (codes "SELECT b FROM t GROUP BY 1") (λ t. query (grouped (core (res t (col t 1) 1 1 ∷ []) (named t 3 ∷ []) None) (span t (lit t 6) 6 6 ∷ []) None)) ≡ None
unfolding all_statement_rules count tokens_of word_kind the_text_test
a_number = refl

no_such_number : refused (codes "SELECT b FROM t GROUP BY 2") (λ t. query (grouped (core (res t (col t 1) 1 1 ∷ []) (named t 3 ∷ []) None) (span t (lit t 6) 6 6 ∷ []) None)) ≡ Some (Unknown kind.Column (codes "2"))
unfolding all_statement_rules count tokens_of word_kind the_text_test
no_such_number = refl

-- by a name of a result
a_name : refused (codes "SELECT a + 1 AS x FROM t GROUP BY x") (λ t. query (grouped (core (res_as t (both op.Add (col t 1) (lit t 3)) 1 3 5 ∷ []) (named t 7 ∷ []) None) (span t (col t 10) 10 10 ∷ []) None)) ≡ None
unfolding all_statement_rules count tokens_of word_kind the_text_test
a_name = refl

-- ---- aggregates where none may stand

in_where : refused (codes "SELECT count(*) AS n FROM t WHERE n") (λ t. query (core (res_as t (starred t 1) 1 4 6 ∷ []) (named t 8 ∷ []) (Some (col t 10)))) ≡ Some (Misuse (codes "count"))
unfolding all_statement_rules count tokens_of word_kind the_text_test
in_where = refl

in_an_aggregate : refused (codes "SELECT count(*) AS n FROM t HAVING sum(n)") (λ t. query (grouped (core (res_as t (starred t 1) 1 4 6 ∷ []) (named t 8 ∷ []) None) [] (Some (call t 10 (col t 12 ∷ []))))) ≡ Some (Misuse (codes "count"))
unfolding all_statement_rules count tokens_of word_kind the_text_test
in_an_aggregate = refl

nested : refused (codes "SELECT sum(max(a)) FROM t") (λ t. query (core (res t (call t 1 (call t 3 (col t 5 ∷ []) ∷ [])) 1 7 ∷ []) (named t 9 ∷ []) None)) ≡ Some (Misuse (codes "max"))
unfolding all_statement_rules count tokens_of word_kind the_text_test
nested = refl

-- an aggregate belongs to the query in which it is written
of_the_inner_query : refused (codes "SELECT (SELECT sum(a)), b FROM t") (λ t. query (core (res t (scalar (query (core (res t (call t 3 (col t 5 ∷ [])) 3 6 ∷ []) [] None))) 1 7 ∷ res t (col t 9) 9 9 ∷ []) (named t 11 ∷ []) None)) ≡ None
unfolding all_statement_rules count tokens_of word_kind the_text_test
of_the_inner_query = refl

-- ---- ORDER BY: a name of a result counts as the whole term

a_whole_term : refused (codes "SELECT a AS x FROM t ORDER BY x") (λ t. ordered (core (res_as t (col t 1) 1 1 3 ∷ []) (named t 5 ∷ []) None) (by t (span t (col t 8) 8 8) ∷ [])) ≡ None
unfolding all_statement_rules count tokens_of word_kind the_text_test
a_whole_term = refl

a_part_of_a_term : refused (codes "SELECT a AS x FROM t ORDER BY x + 1") (λ t. ordered (core (res_as t (col t 1) 1 1 3 ∷ []) (named t 5 ∷ []) None) (by t (span t (both op.Add (col t 8) (lit t 10)) 8 10) ∷ [])) ≡ Some (Unknown kind.Column (codes "x"))
unfolding all_statement_rules count tokens_of word_kind the_text_test
a_part_of_a_term = refl

-- ---- compounds

other_widths : refused (codes "SELECT a FROM t UNION SELECT b, c FROM u") (λ t. compound (core (res t (col t 1) 1 1 ∷ []) (named t 3 ∷ []) None) compound_op.Union (core (res t (col t 6) 6 6 ∷ res t (col t 8) 8 8 ∷ []) (named t 10 ∷ []) None) []) ≡ Some (Arity (codes "SELECT"))
unfolding all_statement_rules count tokens_of word_kind the_text_test
other_widths = refl

-- only a number or a name of the first part
no_expression : refused (codes "SELECT a FROM t UNION SELECT 1 ORDER BY a + 1") (λ t. compound (core (res t (col t 1) 1 1 ∷ []) (named t 3 ∷ []) None) compound_op.Union (core (res t (lit t 6) 6 6 ∷ []) [] None) (by t (span t (both op.Add (col t 9) (lit t 11)) 9 11) ∷ [])) ≡ Some (Unknown kind.Column (codes "a + 1"))
unfolding all_statement_rules count tokens_of word_kind the_text_test
no_expression = refl

a_name_of_the_second_part : refused (codes "SELECT a FROM t UNION SELECT c FROM u ORDER BY c") (λ t. compound (core (res t (col t 1) 1 1 ∷ []) (named t 3 ∷ []) None) compound_op.Union (core (res t (col t 6) 6 6 ∷ []) (named t 8 ∷ []) None) (by t (span t (col t 11) 11 11) ∷ [])) ≡ Some (Unknown kind.Column (codes "c"))
unfolding all_statement_rules count tokens_of word_kind the_text_test
a_name_of_the_second_part = refl
