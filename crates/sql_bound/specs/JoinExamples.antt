-- FROM: USING, NATURAL, ON, and what `*` shows.
use Rattle.std.specs.Prelude.{◌≡◌, [], ◌∷◌, Some, None, codes, refl, true}
use Rattle.eng_value.specs.declared.cause.Cause.TheVariants.{Ambiguous, Arity, Limit, Misuse, Unknown}
use Rattle.eng_value.specs.declared.cause.LimitKind.TheVariants as limit
use Rattle.eng_value.specs.declared.cause.NameKind.TheVariants as kind
use Rattle.sql_grammar.specs.Marks.{count}
use Rattle.sql_grammar.specs.Statements.{all_statement_rules}
use Rattle.sql_lex.specs.Pieces.{word_kind}
use Rattle.sql_lex.specs.Tokens.{tokens_of}
use Rattle.sql_words.specs.Spelled.{the_text_test}
use Rattle.bound_tree.specs.Exprs as e
use Rattle.sql_bound.specs.Carriers.{All, AllOf, On}
use Rattle.sql_bound.specs.Samples.{around_of, bound, bound_over, called, col, core, dot, lit, named, named_as, natural, query, refused, refused_over, res, results_at, token_at, using}
use Rattle.sql_bound.specs.Scopes.{Around}

-- the joined column is shown once, the left one
shown_once : results_at 0 (bound (codes "SELECT * FROM t JOIN u USING (b)") (λ t. query (core (All ∷ []) (named t 3 ∷ using t 5 (8 ∷ []) ∷ []) None))) ≡ e.Column 0 0 ∷ e.Column 0 1 ∷ e.Column 1 1 ∷ []
unfolding all_statement_rules count tokens_of word_kind the_text_test
shown_once = refl

-- its bare name means the left one, and by its table the right one is still there
the_left_one : results_at 0 (bound (codes "SELECT b, u.b FROM t NATURAL JOIN u") (λ t. query (core (res t (col t 1) 1 1 ∷ res t (dot t 3 5) 3 5 ∷ []) (named t 7 ∷ natural t 10 ∷ []) None))) ≡ e.Column 0 1 ∷ e.Column 1 0 ∷ []
unfolding all_statement_rules count tokens_of word_kind the_text_test
the_left_one = refl

-- by a name that both tables have it means the left one, too
of_one_table_twice : results_at 0 (bound (codes "SELECT t.a FROM t NATURAL JOIN t") (λ t. query (core (res t (dot t 1 3) 1 3 ∷ []) (named t 5 ∷ natural t 8 ∷ []) None))) ≡ e.Column 0 0 ∷ []
unfolding all_statement_rules count tokens_of word_kind the_text_test
of_one_table_twice = refl

not_joined : refused (codes "SELECT x.b FROM t x JOIN u x USING (b), u x") (λ t. query (core (res t (dot t 1 3) 1 3 ∷ []) (named_as t 5 6 ∷ record (using t 8 (12 ∷ [])) { alias = Some (token_at t 9) } ∷ named_as t 15 16 ∷ []) None)) ≡ Some (Ambiguous (codes "B"))
unfolding all_statement_rules count tokens_of word_kind the_text_test
not_joined = refl

all_of_the_right_one : results_at 0 (bound (codes "SELECT u.* FROM t NATURAL JOIN u") (λ t. query (core (AllOf (token_at t 1) ∷ []) (named t 5 ∷ natural t 8 ∷ []) None))) ≡ e.Column 1 0 ∷ e.Column 1 1 ∷ []
unfolding all_statement_rules count tokens_of word_kind the_text_test
all_of_the_right_one = refl

-- `x NATURAL JOIN y` is the USING of their common columns
natural_is_using : bound (codes "SELECT * FROM t NATURAL JOIN u") (λ t. query (core (All ∷ []) (named t 3 ∷ natural t 6 ∷ []) None))
    ≡ bound (codes "SELECT * FROM t JOIN u USING (b)") (λ t. query (core (All ∷ []) (named t 3 ∷ using t 5 (8 ∷ []) ∷ []) None))
unfolding all_statement_rules count tokens_of word_kind the_text_test
natural_is_using = refl

not_on_both_sides : refused (codes "SELECT * FROM t JOIN u USING (a)") (λ t. query (core (All ∷ []) (named t 3 ∷ using t 5 (8 ∷ []) ∷ []) None)) ≡ Some (Unknown kind.Column (codes "a"))
unfolding all_statement_rules count tokens_of word_kind the_text_test
not_on_both_sides = refl

-- two columns on the left that are not joined
two_on_the_left : refused (codes "SELECT * FROM t, u NATURAL JOIN u x") (λ t. query (core (All ∷ []) (named t 3 ∷ named t 5 ∷ natural t 8 ∷ []) None)) ≡ Some (Ambiguous (codes "b"))
unfolding all_statement_rules count tokens_of word_kind the_text_test
two_on_the_left = refl

-- an ON may name the items up to its own
no_later_item : refused (codes "SELECT 1 FROM t JOIN t x ON c JOIN u") (λ t. query (core (res t (lit t 1) 1 1 ∷ []) (named t 3 ∷ record (named_as t 5 6) { constraint = On (col t 8) } ∷ named t 10 ∷ []) None)) ≡ Some (Unknown kind.Column (codes "c"))
unfolding all_statement_rules count tokens_of word_kind the_text_test
no_later_item = refl

both_natural_and_using : refused (codes "SELECT * FROM t NATURAL JOIN u USING (b)") (λ t. query (core (All ∷ []) (named t 3 ∷ record (using t 6 (9 ∷ [])) { join = record { natural = true; left = true } } ∷ []) None)) ≡ Some (Misuse (codes "NATURAL"))
unfolding all_statement_rules count tokens_of word_kind the_text_test
both_natural_and_using = refl

stars : (refused (codes "SELECT *") (λ t. query (core (All ∷ []) [] None)) ≡ Some (Misuse (codes "*"))) × (refused (codes "SELECT x.* FROM t") (λ t. query (core (AllOf (token_at t 1) ∷ []) (named t 5 ∷ []) None)) ≡ Some (Unknown kind.Table (codes "x")))
unfolding all_statement_rules count tokens_of word_kind the_text_test
stars = (refl, refl)

sixteen_items : refused (codes "u") (λ t. query (core (res t (lit t 1) 1 1 ∷ []) (named t 0 ∷ named t 0 ∷ named t 0 ∷ named t 0 ∷ named t 0 ∷ named t 0 ∷ named t 0 ∷ named t 0 ∷ named t 0 ∷ named t 0 ∷ named t 0 ∷ named t 0 ∷ named t 0 ∷ named t 0 ∷ named t 0 ∷ named t 0 ∷ named t 9 ∷ []) None)) ≡ Some (Limit limit.Items)
unfolding all_statement_rules count tokens_of word_kind the_text_test
sixteen_items = refl

-- the rowid of a table with an INTEGER PRIMARY KEY is that column
abbrev keyed : Around
keyed = around_of (codes "CREATE TABLE k(v, id INTEGER, PRIMARY KEY(id))" ∷ []) []

a_key : results_at 0 (bound_over keyed (codes "SELECT rowid, _rowid_ FROM k") (λ t. query (core (res t (col t 1) 1 1 ∷ res t (col t 3) 3 3 ∷ []) (named t 5 ∷ []) None))) ≡ e.Column 0 1 ∷ e.Column 0 1 ∷ []
unfolding all_statement_rules count tokens_of word_kind the_text_test
a_key = refl

-- a collation of a host that has gone since, of a column and of an index
its_collation_has_gone : (refused_over (around_of (codes "CREATE TABLE c(a COLLATE gone)" ∷ []) []) (codes "SELECT 1 FROM c") (λ t. query (core (res t (lit t 1) 1 1 ∷ []) (named t 3 ∷ []) None)) ≡ Some (Unknown kind.Collation (codes "gone")))
    × (refused_over (around_of (codes "CREATE TABLE c(a COLLATE gone COLLATE binary)" ∷ codes "CREATE INDEX i ON C(a COLLATE lost)" ∷ []) []) (codes "SELECT 1 FROM c") (λ t. query (core (res t (lit t 1) 1 1 ∷ []) (named t 3 ∷ []) None)) ≡ Some (Unknown kind.Collation (codes "lost")))
unfolding all_statement_rules count tokens_of word_kind the_text_test
its_collation_has_gone = (refl, refl)

no_arguments : refused_over keyed (codes "SELECT 1 FROM k(1)") (λ t. query (core (res t (lit t 1) 1 1 ∷ []) (called t 3 ∷ []) None)) ≡ Some (Arity (codes "k"))
unfolding all_statement_rules count tokens_of word_kind the_text_test
no_arguments = refl
