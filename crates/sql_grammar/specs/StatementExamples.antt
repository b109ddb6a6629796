-- How other statements are read, by the trees of small texts.
use Rattle.std.specs.Prelude.{◌≡◌, true, false, [], ◌∷◌, Some, None, refl}
use Rattle.sql_tree.specs.declared.token.TokenKind.TheVariants as kind
use Rattle.sql_tree.specs.declared.statement.Command.TheVariants as command_is
use Rattle.sql_tree.specs.declared.statement.Explain.TheVariants as explain_by
use Rattle.sql_tree.specs.declared.statement.ObjectKind.TheVariants as object_kind
use Rattle.sql_tree.specs.declared.statement.RowCommand.TheVariants as rows_by
use Rattle.sql_tree.specs.declared.statement.Transaction.TheVariants as transaction_is
use Rattle.sql_grammar.specs.Answers.{Tree}
use Rattle.sql_grammar.specs.Marks.{count}
use Rattle.sql_grammar.specs.ExampleWords.{t, word, select_one, plain_tree, asks, statement_of, WrongAt}
use Rattle.sql_grammar.specs.Statements.{all_statement_rules}

-- ---- EXPLAIN and the end

-- SELECT a;
ended : statement_of (kind.Select ∷ kind.Word ∷ kind.Semicolon ∷ []) ≡ asks (select_one 1)
unfolding all_statement_rules count
ended = refl

-- EXPLAIN SELECT a
explain : statement_of (kind.Explain ∷ kind.Select ∷ kind.Word ∷ []) ≡ Tree (record { explain = Some explain_by.Instructions; command = command_is.Rows (rows_by.Query (select_one 2)) })
unfolding all_statement_rules count
explain = refl

-- EXPLAIN QUERY PLAN DELETE FROM a;
explain_query_plan : statement_of (kind.Explain ∷ kind.Query ∷ kind.Plan ∷ kind.Delete ∷ kind.From ∷ kind.Word ∷ kind.Semicolon ∷ [])
    ≡ Tree (record { explain = Some explain_by.QueryPlan; command = command_is.Rows (rows_by.Delete (record { table = word 5; filter = None })) })
unfolding all_statement_rules count
explain_query_plan = refl

-- ---- DROP

-- DROP TABLE a
drop_table : statement_of (kind.Drop ∷ kind.Table ∷ kind.Word ∷ []) ≡ plain_tree (command_is.Remove (record { kind = object_kind.Table; if_exists = false; name = word 2 }))
unfolding all_statement_rules count
drop_table = refl

-- DROP INDEX IF EXISTS a
drop_index : statement_of (kind.Drop ∷ kind.Index ∷ kind.If ∷ kind.Exists ∷ kind.Word ∷ []) ≡ plain_tree (command_is.Remove (record { kind = object_kind.Index; if_exists = true; name = word 4 }))
unfolding all_statement_rules count
drop_index = refl

-- DROP VIEW a
drop_view : statement_of (kind.Drop ∷ kind.View ∷ kind.Word ∷ []) ≡ plain_tree (command_is.Remove (record { kind = object_kind.View; if_exists = false; name = word 2 }))
unfolding all_statement_rules count
drop_view = refl

-- DROP TRIGGER IF EXISTS a
drop_trigger : statement_of (kind.Drop ∷ kind.Trigger ∷ kind.If ∷ kind.Exists ∷ kind.Word ∷ []) ≡ plain_tree (command_is.Remove (record { kind = object_kind.Trigger; if_exists = true; name = word 4 }))
unfolding all_statement_rules count
drop_trigger = refl

-- ---- transactions

-- BEGIN
begin : statement_of (kind.Begin ∷ []) ≡ plain_tree (command_is.Transaction transaction_is.Begin)
unfolding all_statement_rules count
begin = refl

-- BEGIN TRANSACTION
begin_transaction : statement_of (kind.Begin ∷ kind.Transaction ∷ []) ≡ plain_tree (command_is.Transaction transaction_is.Begin)
unfolding all_statement_rules count
begin_transaction = refl

-- BEGIN DEFERRED TRANSACTION
begin_deferred : statement_of (kind.Begin ∷ kind.Deferred ∷ kind.Transaction ∷ []) ≡ plain_tree (command_is.Transaction transaction_is.Begin)
unfolding all_statement_rules count
begin_deferred = refl

-- BEGIN IMMEDIATE
begin_immediate : statement_of (kind.Begin ∷ kind.Immediate ∷ []) ≡ plain_tree (command_is.Transaction transaction_is.Begin)
unfolding all_statement_rules count
begin_immediate = refl

-- BEGIN EXCLUSIVE
begin_exclusive : statement_of (kind.Begin ∷ kind.Exclusive ∷ []) ≡ plain_tree (command_is.Transaction transaction_is.Begin)
unfolding all_statement_rules count
begin_exclusive = refl

-- COMMIT
commit : statement_of (kind.Commit ∷ []) ≡ plain_tree (command_is.Transaction transaction_is.Commit)
unfolding all_statement_rules count
commit = refl

-- END TRANSACTION
end_transaction : statement_of (kind.End ∷ kind.Transaction ∷ []) ≡ plain_tree (command_is.Transaction transaction_is.Commit)
unfolding all_statement_rules count
end_transaction = refl

-- ROLLBACK TRANSACTION
rollback : statement_of (kind.Rollback ∷ kind.Transaction ∷ []) ≡ plain_tree (command_is.Transaction transaction_is.Rollback)
unfolding all_statement_rules count
rollback = refl

-- ROLLBACK TO a
rollback_to : statement_of (kind.Rollback ∷ kind.To ∷ kind.Word ∷ []) ≡ plain_tree (command_is.Transaction (transaction_is.RollbackTo (word 2)))
unfolding all_statement_rules count
rollback_to = refl

-- ROLLBACK TRANSACTION TO SAVEPOINT a
rollback_to_savepoint : statement_of (kind.Rollback ∷ kind.Transaction ∷ kind.To ∷ kind.Savepoint ∷ kind.Word ∷ []) ≡ plain_tree (command_is.Transaction (transaction_is.RollbackTo (word 4)))
unfolding all_statement_rules count
rollback_to_savepoint = refl

-- SAVEPOINT a
savepoint : statement_of (kind.Savepoint ∷ kind.Word ∷ []) ≡ plain_tree (command_is.Transaction (transaction_is.Savepoint (word 1)))
unfolding all_statement_rules count
savepoint = refl

-- RELEASE a
release : statement_of (kind.Release ∷ kind.Word ∷ []) ≡ plain_tree (command_is.Transaction (transaction_is.Release (word 1)))
unfolding all_statement_rules count
release = refl

-- RELEASE SAVEPOINT a
release_savepoint : statement_of (kind.Release ∷ kind.Savepoint ∷ kind.Word ∷ []) ≡ plain_tree (command_is.Transaction (transaction_is.Release (word 2)))
unfolding all_statement_rules count
release_savepoint = refl

-- ---- PRAGMA

-- PRAGMA a
pragma : statement_of (kind.Pragma ∷ kind.Word ∷ []) ≡ plain_tree (command_is.Pragma (record { name = word 1; value = None }))
unfolding all_statement_rules count
pragma = refl

-- PRAGMA a = ON
pragma_of_a_reserved_word : statement_of (kind.Pragma ∷ kind.Word ∷ kind.Equal ∷ kind.On ∷ []) ≡ plain_tree (command_is.Pragma (record { name = word 1; value = Some (t kind.On 3) }))
unfolding all_statement_rules count
pragma_of_a_reserved_word = refl

-- PRAGMA a (b)
pragma_in_parentheses : statement_of (kind.Pragma ∷ kind.Word ∷ kind.LeftParen ∷ kind.Word ∷ kind.RightParen ∷ []) ≡ plain_tree (command_is.Pragma (record { name = word 1; value = Some (word 3) }))
unfolding all_statement_rules count
pragma_in_parentheses = refl

-- ---- what is refused

-- no tokens
nothing : WrongAt 0 []
unfolding all_statement_rules count
nothing = refl

-- ;
only_an_end : WrongAt 0 (kind.Semicolon ∷ [])
unfolding all_statement_rules count
only_an_end = refl

-- SELECT a;;
two_ends : WrongAt 3 (kind.Select ∷ kind.Word ∷ kind.Semicolon ∷ kind.Semicolon ∷ [])
unfolding all_statement_rules count
two_ends = refl

-- SELECT a; SELECT b
two_statements : WrongAt 3 (kind.Select ∷ kind.Word ∷ kind.Semicolon ∷ kind.Select ∷ kind.Word ∷ [])
unfolding all_statement_rules count
two_statements = refl

-- a
an_expression : WrongAt 0 (kind.Word ∷ [])
unfolding all_statement_rules count
an_expression = refl

-- EXPLAIN EXPLAIN SELECT a
explain_twice : WrongAt 1 (kind.Explain ∷ kind.Explain ∷ kind.Select ∷ kind.Word ∷ [])
unfolding all_statement_rules count
explain_twice = refl

-- EXPLAIN PLAN SELECT a
explain_plan : WrongAt 1 (kind.Explain ∷ kind.Plan ∷ kind.Select ∷ kind.Word ∷ [])
unfolding all_statement_rules count
explain_plan = refl

-- EXPLAIN QUERY SELECT a
explain_query : WrongAt 2 (kind.Explain ∷ kind.Query ∷ kind.Select ∷ kind.Word ∷ [])
unfolding all_statement_rules count
explain_query = refl

-- DROP a
drop_a_name : WrongAt 1 (kind.Drop ∷ kind.Word ∷ [])
unfolding all_statement_rules count
drop_a_name = refl

-- DROP TABLE IF NOT EXISTS a
drop_if_not : WrongAt 3 (kind.Drop ∷ kind.Table ∷ kind.If ∷ kind.Not ∷ kind.Exists ∷ kind.Word ∷ [])
unfolding all_statement_rules count
drop_if_not = refl

-- DROP TABLE a, b
drop_two : WrongAt 3 (kind.Drop ∷ kind.Table ∷ kind.Word ∷ kind.Comma ∷ kind.Word ∷ [])
unfolding all_statement_rules count
drop_two = refl

-- BEGIN a
begin_concurrent : WrongAt 1 (kind.Begin ∷ kind.Word ∷ [])
unfolding all_statement_rules count
begin_concurrent = refl

-- BEGIN IMMEDIATE EXCLUSIVE
two_words_of_begin : WrongAt 2 (kind.Begin ∷ kind.Immediate ∷ kind.Exclusive ∷ [])
unfolding all_statement_rules count
two_words_of_begin = refl

-- COMMIT a
commit_a_name : WrongAt 1 (kind.Commit ∷ kind.Word ∷ [])
unfolding all_statement_rules count
commit_a_name = refl

-- END TO a
end_to : WrongAt 1 (kind.End ∷ kind.To ∷ kind.Word ∷ [])
unfolding all_statement_rules count
end_to = refl

-- ROLLBACK a
rollback_a_name : WrongAt 1 (kind.Rollback ∷ kind.Word ∷ [])
unfolding all_statement_rules count
rollback_a_name = refl

-- ROLLBACK TO
rollback_to_nothing : WrongAt 2 (kind.Rollback ∷ kind.To ∷ [])
unfolding all_statement_rules count
rollback_to_nothing = refl

-- SAVEPOINT
savepoint_nothing : WrongAt 1 (kind.Savepoint ∷ [])
unfolding all_statement_rules count
savepoint_nothing = refl

-- RELEASE TO a
release_to : WrongAt 1 (kind.Release ∷ kind.To ∷ kind.Word ∷ [])
unfolding all_statement_rules count
release_to = refl

-- PRAGMA a = 1
a_pragma_of_a_number : WrongAt 3 (kind.Pragma ∷ kind.Word ∷ kind.Equal ∷ kind.Number ∷ [])
unfolding all_statement_rules count
a_pragma_of_a_number = refl

-- PRAGMA a = b c
a_pragma_of_two_words : WrongAt 4 (kind.Pragma ∷ kind.Word ∷ kind.Equal ∷ kind.Word ∷ kind.Word ∷ [])
unfolding all_statement_rules count
a_pragma_of_two_words = refl

-- PRAGMA a.b
a_pragma_of_a_schema : WrongAt 2 (kind.Pragma ∷ kind.Word ∷ kind.Dot ∷ kind.Word ∷ [])
unfolding all_statement_rules count
a_pragma_of_a_schema = refl
