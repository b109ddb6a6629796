-- INSERT, UPDATE and DELETE.
use Rattle.std.specs.Prelude.{◌≡◌, [], ◌∷◌, Some, None, codes, refl}
use Rattle.eng_value.specs.declared.cause.Cause.TheVariants.{Arity, Misuse, Unknown}
use Rattle.eng_value.specs.declared.cause.NameKind.TheVariants as kind
use Rattle.sql_grammar.specs.Marks.{count}
use Rattle.sql_grammar.specs.Statements.{all_statement_rules}
use Rattle.sql_lex.specs.Pieces.{word_kind}
use Rattle.sql_lex.specs.Tokens.{tokens_of}
use Rattle.sql_tree.specs.declared.statement.ConflictChoice.TheVariants as choice
use Rattle.sql_words.specs.Spelled.{the_text_test}
use Rattle.bound_tree.specs.Exprs as e
use Rattle.bound_tree.specs.declared.writes.BoundChange.TheVariants.{Inserted, Updated}
use Rattle.sql_bound.specs.Samples.{around_of, change_of, col, commanded, commanded_over, core, delete, dot, insert, lit, query, refused_write, res, set, starred, update, values, why}
use Rattle.sql_bound.specs.Scopes.{Around}

-- ---- the target, the columns, and then the source

the_columns_first : refused_write (codes "INSERT INTO t(nosuch) SELECT nosuch2") (λ t. insert t choice.Abort 2 (4 ∷ []) (Some (query (core (res t (col t 7) 7 7 ∷ []) [] None)))) ≡ Some (Unknown kind.Column (codes "nosuch"))
unfolding all_statement_rules count tokens_of word_kind the_text_test
the_columns_first = refl

the_target_first : refused_write (codes "INSERT INTO nosuch(a) SELECT nosuch2") (λ t. insert t choice.Abort 2 (4 ∷ []) (Some (query (core (res t (col t 7) 7 7 ∷ []) [] None)))) ≡ Some (Unknown kind.Table (codes "nosuch"))
unfolding all_statement_rules count tokens_of word_kind the_text_test
the_target_first = refl

-- of equal names the first counts, and a rowid may be named
places : change_of (commanded (codes "INSERT INTO t(b, rowid, b) VALUES(1, 2, 3)") (λ t. insert t choice.Abort 2 (4 ∷ 6 ∷ 8 ∷ []) (Some (values ((lit t 12 ∷ lit t 14 ∷ lit t 16 ∷ []) ∷ []))))) ≡ Some (Inserted (None ∷ Some 0 ∷ []) (Some 1) 0 [])
unfolding all_statement_rules count tokens_of word_kind the_text_test
places = refl

too_few : refused_write (codes "INSERT INTO t VALUES(1)") (λ t. insert t choice.Abort 2 [] (Some (values ((lit t 5 ∷ []) ∷ [])))) ≡ Some (Arity (codes "t"))
unfolding all_statement_rules count tokens_of word_kind the_text_test
too_few = refl

rows_that_differ : refused_write (codes "INSERT INTO t VALUES(1,2),(3)") (λ t. insert t choice.Abort 2 [] (Some (values ((lit t 5 ∷ lit t 7 ∷ []) ∷ (lit t 11 ∷ []) ∷ [])))) ≡ Some (Arity (codes "VALUES"))
unfolding all_statement_rules count tokens_of word_kind the_text_test
rows_that_differ = refl

-- no column of the table stands in the source
no_row_in_a_source : refused_write (codes "INSERT INTO t VALUES(a, 2)") (λ t. insert t choice.Abort 2 [] (Some (values ((col t 5 ∷ lit t 7 ∷ []) ∷ [])))) ≡ Some (Unknown kind.Column (codes "a"))
unfolding all_statement_rules count tokens_of word_kind the_text_test
no_row_in_a_source = refl

no_aggregate : refused_write (codes "INSERT INTO t VALUES(count(*), 2)") (λ t. insert t choice.Abort 2 [] (Some (values ((starred t 5 ∷ lit t 10 ∷ []) ∷ [])))) ≡ Some (Misuse (codes "count"))
unfolding all_statement_rules count tokens_of word_kind the_text_test
no_aggregate = refl

-- ---- SET and WHERE see the row

an_update : change_of (commanded (codes "UPDATE t SET a=b, oid=t.a WHERE rowid") (λ t. update t 1 (set t 3 (col t 5) ∷ set t 7 (dot t 9 11) ∷ []) (Some (col t 13)))) ≡ Some (Updated (record { column = Some 0; value = e.Column 0 1 } ∷ record { column = None; value = e.Column 0 0 } ∷ []) (e.Rowid 0 ∷ []))
unfolding all_statement_rules count tokens_of word_kind the_text_test
an_update = refl

set_comes_before_where : refused_write (codes "UPDATE t SET x=1 WHERE y") (λ t. update t 1 (set t 3 (lit t 5) ∷ []) (Some (col t 7))) ≡ Some (Unknown kind.Column (codes "x"))
unfolding all_statement_rules count tokens_of word_kind the_text_test
set_comes_before_where = refl

a_delete : refused_write (codes "DELETE FROM t WHERE u.b") (λ t. delete t 2 (Some (dot t 4 6))) ≡ Some (Unknown kind.Column (codes "u.b"))
unfolding all_statement_rules count tokens_of word_kind the_text_test
a_delete = refl

-- an INTEGER PRIMARY KEY takes the rowid's value
abbrev keyed : Around
keyed = around_of (codes "CREATE TABLE k(v, id INTEGER PRIMARY KEY)" ∷ codes "CREATE INDEX kv ON k(v DESC)" ∷ []) []

by_the_key : change_of (commanded_over keyed (codes "INSERT INTO k VALUES(1, 2)") (λ t. insert t choice.Abort 2 [] (Some (values ((lit t 5 ∷ lit t 7 ∷ []) ∷ []))))) ≡ Some (Inserted (Some 0 ∷ Some 1 ∷ []) (Some 1) 0 [])
unfolding all_statement_rules count tokens_of word_kind the_text_test
by_the_key = refl

an_index_is_no_table : why (commanded_over keyed (codes "DELETE FROM kv") (λ t. delete t 2 None)) ≡ Some (Unknown kind.Table (codes "kv"))
unfolding all_statement_rules count tokens_of word_kind the_text_test
an_index_is_no_table = refl

-- a DELETE tests nothing, whatever the CHECKs of its table hold
abbrev checked : Around
checked = around_of (codes "CREATE TABLE c(a CHECK (a COLLATE gone > 1))" ∷ []) []

without_tests : why (commanded_over checked (codes "DELETE FROM c") (λ t. delete t 2 None)) ≡ None
unfolding all_statement_rules count tokens_of word_kind the_text_test
without_tests = refl
