-- WITH: tables and recursive tables.
use Rattle.std.specs.Prelude.{◌≡◌, List, [], ◌∷◌, Some, None, codes, refl}
use Rattle.eng_value.specs.declared.cause.Cause.TheVariants.{Arity, Misuse, Unknown}
use Rattle.eng_value.specs.declared.cause.NameKind.TheVariants as kind
use Rattle.sql_grammar.specs.Marks.{count}
use Rattle.sql_grammar.specs.Statements.{all_statement_rules}
use Rattle.sql_lex.specs.Pieces.{word_kind}
use Rattle.sql_lex.specs.Tokens.{tokens_of}
use Rattle.sql_tree.specs.declared.expr.BinaryOp.TheVariants as op
use Rattle.sql_tree.specs.declared.query.CompoundOp.TheVariants as compound_op
use Rattle.sql_tree.specs.declared.token.Token.{Token}
use Rattle.sql_words.specs.Spelled.{the_text_test}
use Rattle.bound_tree.specs.Exprs as e
use Rattle.bound_tree.specs.declared.units.BoundSource.TheVariants.{Queue, Recursive, With}
use Rattle.sql_bound.specs.Carriers.{All, QueryParts, Select}
use Rattle.sql_bound.specs.Recursions.{parts_of_query}
use Rattle.sql_bound.specs.Samples.{both, bound, by, col, common, compound, core, exists, lit, named, query, refused, res, res_as, results_at, scalar, sources_at, span, starred, with_tables}

-- bound where it is written, though nothing uses it
never_used : refused (codes "WITH c AS (SELECT nosuch) SELECT 1") (λ t. with_tables (common t 1 [] (query (core (res t (col t 5) 5 5 ∷ []) [] None)) ∷ []) (core (res t (lit t 8) 8 8 ∷ []) [] None)) ≡ Some (Unknown kind.Column (codes "nosuch"))
unfolding all_statement_rules count tokens_of word_kind the_text_test
never_used = refl

-- its column list does not fit
two_names : refused (codes "WITH z(a, b) AS (SELECT 1) SELECT 2") (λ t. with_tables (common t 1 (3 ∷ 5 ∷ []) (query (core (res t (lit t 10) 10 10 ∷ []) [] None)) ∷ []) (core (res t (lit t 13) 13 13 ∷ []) [] None)) ≡ Some (Arity (codes "z"))
unfolding all_statement_rules count tokens_of word_kind the_text_test
two_names = refl

-- it comes before a table of the catalog, and is one unit, however often it is used
used_twice : sources_at 1 (bound (codes "WITH t AS (SELECT 1 AS n) SELECT * FROM t, t") (λ t. with_tables (common t 1 [] (query (core (res_as t (lit t 5) 5 5 7 ∷ []) [] None)) ∷ []) (core (All ∷ []) (named t 12 ∷ named t 14 ∷ []) None))) ≡ With 0 [] ∷ With 0 [] ∷ []
unfolding all_statement_rules count tokens_of word_kind the_text_test
used_twice = refl

-- a name of its own is no table of the catalog
itself : refused (codes "WITH t AS (SELECT * FROM t) SELECT 1") (λ t. with_tables (common t 1 [] (query (core (All ∷ []) (named t 7 ∷ []) None)) ∷ []) (core (res t (lit t 10) 10 10 ∷ []) [] None)) ≡ Some (Misuse (codes "t"))
unfolding all_statement_rules count tokens_of word_kind the_text_test
itself = refl

-- WITH c(x) AS (SELECT 1 UNION ALL SELECT x+1 FROM c) ..
abbrev counting : List Token → QueryParts
counting t = compound (core (res t (lit t 8) 8 8 ∷ []) [] None) compound_op.UnionAll (core (res t (both op.Add (col t 12) (lit t 14)) 12 14 ∷ []) (named t 16 ∷ []) None) []

recursive : sources_at 1 (bound (codes "WITH c(x) AS (SELECT 1 UNION ALL SELECT x+1 FROM c) SELECT x FROM c") (λ t. with_tables (common t 1 (3 ∷ []) (counting t) ∷ []) (core (res t (col t 19) 19 19 ∷ []) (named t 21 ∷ []) None))) ≡ Recursive 0 [] ∷ []
unfolding all_statement_rules count tokens_of word_kind the_text_test
recursive = refl

its_part : sources_at 0 (bound (codes "WITH c(x) AS (SELECT 1 UNION ALL SELECT x+1 FROM c) SELECT x FROM c") (λ t. with_tables (common t 1 (3 ∷ []) (counting t) ∷ []) (core (res t (col t 19) 19 19 ∷ []) (named t 21 ∷ []) None))) ≡ Queue ∷ []
unfolding all_statement_rules count tokens_of word_kind the_text_test
its_part = refl

-- first may be a compound
three_parts : sources_at 0 (bound (codes "WITH c AS (SELECT 1 UNION SELECT 2 UNION SELECT 3 FROM c) SELECT 4") (λ t. with_tables (common t 1 [] (parts_of_query (record { tables = []; first = Select (core (res t (lit t 5) 5 5 ∷ []) [] None); others = record { op = compound_op.Union; part = Select (core (res t (lit t 8) 8 8 ∷ []) [] None) } ∷ record { op = compound_op.Union; part = Select (core (res t (lit t 11) 11 11 ∷ []) (named t 13 ∷ []) None) } ∷ []; order = []; limit = None })) ∷ []) (core (res t (lit t 16) 16 16 ∷ []) [] None))) ≡ Queue ∷ []
unfolding all_statement_rules count tokens_of word_kind the_text_test
three_parts = refl

-- not twice, not in a query of the part, not with ORDER BY, and no aggregate
twice : refused (codes "WITH c AS (SELECT 1 UNION SELECT 2 FROM c, c) SELECT 3") (λ t. with_tables (common t 1 [] (compound (core (res t (lit t 5) 5 5 ∷ []) [] None) compound_op.Union (core (res t (lit t 8) 8 8 ∷ []) (named t 10 ∷ named t 12 ∷ []) None) []) ∷ []) (core (res t (lit t 15) 15 15 ∷ []) [] None)) ≡ Some (Misuse (codes "c"))
unfolding all_statement_rules count tokens_of word_kind the_text_test
twice = refl

in_a_query_of_the_part : refused (codes "WITH c AS (SELECT 1 UNION SELECT EXISTS (SELECT 2 FROM c) FROM c) SELECT 3") (λ t. with_tables (common t 1 [] (compound (core (res t (lit t 5) 5 5 ∷ []) [] None) compound_op.Union (core (res t (exists (query (core (res t (lit t 11) 11 11 ∷ []) (named t 13 ∷ []) None))) 8 14 ∷ []) (named t 16 ∷ []) None) []) ∷ []) (core (res t (lit t 19) 19 19 ∷ []) [] None)) ≡ Some (Misuse (codes "c"))
unfolding all_statement_rules count tokens_of word_kind the_text_test
in_a_query_of_the_part = refl

ordered_by : refused (codes "WITH c AS (SELECT 1 UNION SELECT 2 FROM c ORDER BY 1) SELECT 3") (λ t. with_tables (common t 1 [] (compound (core (res t (lit t 5) 5 5 ∷ []) [] None) compound_op.Union (core (res t (lit t 8) 8 8 ∷ []) (named t 10 ∷ []) None) (by t (span t (lit t 13) 13 13) ∷ [])) ∷ []) (core (res t (lit t 16) 16 16 ∷ []) [] None)) ≡ Some (Misuse (codes "c"))
unfolding all_statement_rules count tokens_of word_kind the_text_test
ordered_by = refl

with_an_aggregate : refused (codes "WITH c AS (SELECT 1 UNION SELECT count(*) FROM c) SELECT 3") (λ t. with_tables (common t 1 [] (compound (core (res t (lit t 5) 5 5 ∷ []) [] None) compound_op.Union (core (res t (starred t 8) 8 11 ∷ []) (named t 13 ∷ []) None) []) ∷ []) (core (res t (lit t 16) 16 16 ∷ []) [] None)) ≡ Some (Misuse (codes "count"))
unfolding all_statement_rules count tokens_of word_kind the_text_test
with_an_aggregate = refl

-- what a WITH table needs of a FROM around is handed on from each use
handed_on : results_at 1 (bound (codes "SELECT (WITH c AS (SELECT a) SELECT a FROM c) FROM t") (λ t. query (core (res t (scalar (with_tables (common t 3 [] (query (core (res t (col t 7) 7 7 ∷ []) [] None)) ∷ []) (core (res t (col t 10) 10 10 ∷ []) (named t 12 ∷ []) None))) 1 13 ∷ []) (named t 15 ∷ []) None))) ≡ e.Column 0 0 ∷ []
unfolding all_statement_rules count tokens_of word_kind the_text_test
handed_on = refl

its_use : sources_at 1 (bound (codes "SELECT (WITH c AS (SELECT a) SELECT a FROM c) FROM t") (λ t. query (core (res t (scalar (with_tables (common t 3 [] (query (core (res t (col t 7) 7 7 ∷ []) [] None)) ∷ []) (core (res t (col t 10) 10 10 ∷ []) (named t 12 ∷ []) None))) 1 13 ∷ []) (named t 15 ∷ []) None))) ≡ With 0 (e.Argument 0 ∷ []) ∷ []
unfolding all_statement_rules count tokens_of word_kind the_text_test
its_use = refl

its_asker : results_at 2 (bound (codes "SELECT (WITH c AS (SELECT a) SELECT a FROM c) FROM t") (λ t. query (core (res t (scalar (with_tables (common t 3 [] (query (core (res t (col t 7) 7 7 ∷ []) [] None)) ∷ []) (core (res t (col t 10) 10 10 ∷ []) (named t 12 ∷ []) None))) 1 13 ∷ []) (named t 15 ∷ []) None))) ≡ e.Scalar 1 (e.Column 0 0 ∷ []) ∷ []
unfolding all_statement_rules count tokens_of word_kind the_text_test
its_asker = refl
