-- Names in queries: which column each stands for, and which refusal comes first.
use Rattle.std.specs.Prelude.{ℕ, zero, suc, true, pos, replicate, ◌++◌, ◌≡◌, [], ◌∷◌, Some, None, codes, refl}
use Rattle.eng_value.specs.declared.cause.Cause.TheVariants.{Ambiguous, Arity, Limit, Unknown}
use Rattle.eng_value.specs.declared.cause.LimitKind.TheVariants as limit
use Rattle.eng_value.specs.declared.cause.NameKind.TheVariants as kind
use Rattle.eng_value.specs.declared.operators.BinaryOperator.TheVariants as binary
use Rattle.eng_value.specs.declared.operators.UnaryOperator.TheVariants as unary
use Rattle.eng_value.specs.declared.value.Value.TheVariants as value
use Rattle.sql_grammar.specs.Marks.{count}
use Rattle.sql_grammar.specs.Statements.{all_statement_rules}
use Rattle.sql_lex.specs.Pieces.{word_kind}
use Rattle.sql_lex.specs.Tokens.{tokens_of}
use Rattle.sql_tree.specs.declared.expr.BinaryOp.TheVariants as op
use Rattle.sql_words.specs.Spelled.{the_text_test}
use Rattle.sql_words.specs.declared.literal.Literal.TheVariants as literal
use Rattle.bound_tree.specs.Exprs as e
use Rattle.bound_tree.specs.Exprs.{BoundExpr}
use Rattle.sql_bound.specs.Carriers.{QueryParts}
use Rattle.sql_bound.specs.Samples.{asked_in, both, bound, refused, tables, col, conjuncts_at, core, dot, in_query, lit, named, named_as, names_of, nested, query, refusal_of, res, res_as, results_at, scalar}

-- ---- the order of work

from_comes_first : refused (codes "SELECT nosuch FROM nosuch2") (λ t. query (core (res t (col t 1) 1 1 ∷ []) (named t 3 ∷ []) None)) ≡ Some (Unknown kind.Table (codes "nosuch2"))
unfolding all_statement_rules count tokens_of word_kind the_text_test
from_comes_first = refl

where_comes_before_results : refused (codes "SELECT x FROM t WHERE y") (λ t. query (core (res t (col t 1) 1 1 ∷ []) (named t 3 ∷ []) (Some (col t 5)))) ≡ Some (Unknown kind.Column (codes "y"))
unfolding all_statement_rules count tokens_of word_kind the_text_test
where_comes_before_results = refl

-- ---- columns

two_columns : refused (codes "SELECT b FROM t, u") (λ t. query (core (res t (col t 1) 1 1 ∷ []) (named t 3 ∷ named t 5 ∷ []) None)) ≡ Some (Ambiguous (codes "B"))
unfolding all_statement_rules count tokens_of word_kind the_text_test
two_columns = refl

by_its_table : results_at 0 (bound (codes "SELECT u.b FROM t, u") (λ t. query (core (res t (dot t 1 3) 1 3 ∷ []) (named t 5 ∷ named t 7 ∷ []) None))) ≡ e.Column 1 0 ∷ []
unfolding all_statement_rules count tokens_of word_kind the_text_test
by_its_table = refl

not_by_its_own_name : refused (codes "SELECT u.b FROM u x") (λ t. query (core (res t (dot t 1 3) 1 3 ∷ []) (named_as t 5 6 ∷ []) None)) ≡ Some (Unknown kind.Column (codes "u.b"))
unfolding all_statement_rules count tokens_of word_kind the_text_test
not_by_its_own_name = refl

a_rowid : results_at 0 (bound (codes "SELECT oid FROM u") (λ t. query (core (res t (col t 1) 1 1 ∷ []) (named t 3 ∷ []) None))) ≡ e.Rowid 0 ∷ []
unfolding all_statement_rules count tokens_of word_kind the_text_test
a_rowid = refl

two_rowids : refused (codes "SELECT OID FROM u, t") (λ t. query (core (res t (col t 1) 1 1 ∷ []) (named t 3 ∷ named t 5 ∷ []) None)) ≡ Some (Ambiguous (codes "oid"))
unfolding all_statement_rules count tokens_of word_kind the_text_test
two_rowids = refl

-- by the alias, the column, and the text
names : names_of (bound (codes "SELECT a AS x, b, a = 1 FROM t") (λ t. query (core (res_as t (col t 1) 1 1 3 ∷ res t (col t 5) 5 5 ∷ res t (both op.Equal (col t 7) (lit t 9)) 7 9 ∷ []) (named t 11 ∷ []) None))) ≡ codes "x" ∷ codes "B" ∷ codes "a = 1" ∷ []
unfolding all_statement_rules count tokens_of word_kind the_text_test
names = refl

-- ---- names of results in WHERE

-- `a AND b` by its name is one condition, and a column comes before a result of its name
one_condition : conjuncts_at 0 (bound (codes "SELECT a AND b AS x, b AS a FROM t WHERE x AND a") (λ t. query (core (res_as t (both op.And (col t 1) (col t 3)) 1 3 5 ∷ res_as t (col t 7) 7 7 9 ∷ []) (named t 11 ∷ []) (Some (both op.And (col t 13) (col t 15))))))
    ≡ e.Binary binary.And (e.Column 0 0) (e.Column 0 1) ∷ e.Column 0 0 ∷ []
unfolding all_statement_rules count tokens_of word_kind the_text_test
one_condition = refl

-- a name of TRUE asks for the truth, as TRUE does
the_form_of_a_result : conjuncts_at 0 (bound (codes "SELECT TRUE AS y FROM t WHERE b IS y") (λ t. query (core (res_as t (lit t 1) 1 1 3 ∷ []) (named t 5 ∷ []) (Some (both op.Is (col t 7) (col t 9)))))) ≡ e.Unary (unary.IsTruth true) (e.Column 0 1) ∷ []
unfolding all_statement_rules count tokens_of word_kind the_text_test
the_form_of_a_result = refl

-- ---- queries in expressions

-- the inner name first, then the outer one, which is handed over
nearest_first : results_at 0 (bound (codes "SELECT (SELECT a FROM u WHERE b) FROM t") (λ t. query (core (res t (scalar (query (core (res t (col t 3) 3 3 ∷ []) (named t 5 ∷ []) (Some (col t 7))))) 1 8 ∷ []) (named t 10 ∷ []) None))) ≡ e.Argument 0 ∷ []
unfolding all_statement_rules count tokens_of word_kind the_text_test
nearest_first = refl

handed_over : results_at 1 (bound (codes "SELECT (SELECT a FROM u WHERE b) FROM t") (λ t. query (core (res t (scalar (query (core (res t (col t 3) 3 3 ∷ []) (named t 5 ∷ []) (Some (col t 7))))) 1 8 ∷ []) (named t 10 ∷ []) None))) ≡ e.Scalar 0 (e.Column 0 0 ∷ []) ∷ []
unfolding all_statement_rules count tokens_of word_kind the_text_test
handed_over = refl

-- a subquery in FROM sees nothing of the FROM that it stands in
alone_in_from : refused (codes "SELECT 1 FROM t, (SELECT a)") (λ t. query (core (res t (lit t 1) 1 1 ∷ []) (named t 3 ∷ nested t (query (core (res t (col t 7) 7 7 ∷ []) [] None)) ∷ []) None)) ≡ Some (Unknown kind.Column (codes "a"))
unfolding all_statement_rules count tokens_of word_kind the_text_test
alone_in_from = refl

one_column : refused (codes "SELECT 1 IN (SELECT a, b FROM t)") (λ t. query (core (res t (in_query (lit t 1) (query (core (res t (col t 5) 5 5 ∷ res t (col t 7) 7 7 ∷ []) (named t 9 ∷ []) None))) 1 10 ∷ []) [] None)) ≡ Some (Arity (codes "SELECT"))
unfolding all_statement_rules count tokens_of word_kind the_text_test
one_column = refl

-- where one query may be open a second one may not
too_deep : refusal_of (asked_in tables 1 (codes "SELECT (SELECT 1)") (query (core (res [] (scalar (query (core (res [] (lit [] 0) 0 0 ∷ []) [] None))) 0 0 ∷ []) [] None))) ≡ Some (Limit limit.Queries)
unfolding all_statement_rules count tokens_of word_kind the_text_test
too_deep = refl

-- twenty queries in one another, and no more
abbrev nest : ℕ → QueryParts
nest zero = query (core (res [] (lit [] 0) 0 0 ∷ []) [] None)
nest (suc n) = query (core (res [] (scalar (nest n)) 0 0 ∷ []) [] None)

twenty_queries : (refusal_of (asked_in tables 20 [] (nest 19)) ≡ None) × (refusal_of (asked_in tables 20 [] (nest 20)) ≡ Some (Limit limit.Queries))
unfolding all_statement_rules count tokens_of word_kind the_text_test
twenty_queries = (refl, refl)

-- a hundred results, and the next is refused before it is bound
a_hundred_results : (refused (codes "1") (λ t. query (core (replicate 100 (res t (lit t 0) 0 0)) [] None)) ≡ None) × (refused (codes "1 x") (λ t. query (core (replicate 100 (res t (lit t 0) 0 0) ++ res t (col t 1) 1 1 ∷ []) [] None)) ≡ Some (Limit limit.Columns))
unfolding all_statement_rules count tokens_of word_kind the_text_test
a_hundred_results = (refl, refl)

-- a name of a result comes before a column further out, and an inner query does not see the outer query's names
before_outer_columns : conjuncts_at 0 (bound (codes "SELECT (SELECT 1 AS a WHERE a) FROM t") (λ t. query (core (res t (scalar (query (core (res_as t (lit t 3) 3 3 5 ∷ []) [] (Some (col t 7))))) 1 8 ∷ []) (named t 10 ∷ []) None))) ≡ e.Literal (literal.Value (value.Integer (pos 1))) ∷ []
unfolding all_statement_rules count tokens_of word_kind the_text_test
before_outer_columns = refl

not_from_within : refused (codes "SELECT 1 AS z WHERE (SELECT z)") (λ t. query (core (res_as t (lit t 1) 1 1 3 ∷ []) [] (Some (scalar (query (core (res t (col t 7) 7 7 ∷ []) [] None)))))) ≡ Some (Unknown kind.Column (codes "z"))
unfolding all_statement_rules count tokens_of word_kind the_text_test
not_from_within = refl

-- what is asked twice is one unit
one_unit : results_at 1 (bound (codes "SELECT (SELECT c FROM u), (SELECT c FROM u)") (λ t. query (core (res t (scalar (query (core (res t (col t 3) 3 3 ∷ []) (named t 5 ∷ []) None))) 1 6 ∷ res t (scalar (query (core (res t (col t 10) 10 10 ∷ []) (named t 12 ∷ []) None))) 8 13 ∷ []) [] None))) ≡ e.Scalar 0 [] ∷ e.Scalar 0 [] ∷ []
unfolding all_statement_rules count tokens_of word_kind the_text_test
one_unit = refl
