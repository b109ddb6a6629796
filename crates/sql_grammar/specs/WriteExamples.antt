-- How what changes rows is read, by the trees of small texts.
use Rattle.std.specs.Prelude.{◌≡◌, [], ◌∷◌, Some, None, refl}
use Rattle.sql_tree.specs.declared.token.TokenKind.TheVariants as kind
use Rattle.sql_tree.specs.declared.expr.BinaryOp.TheVariants as binary
use Rattle.sql_tree.specs.declared.expr.Expr.TheVariants as e
use Rattle.sql_tree.specs.declared.expr.UnaryOp.TheVariants as unary
use Rattle.sql_tree.specs.declared.query.QueryPart.TheVariants as part_is
use Rattle.sql_tree.specs.declared.statement.ConflictChoice.TheVariants as choice_is
use Rattle.sql_tree.specs.declared.statement.InsertSource.TheVariants as insert_source
use Rattle.sql_tree.specs.declared.statement.RowCommand.TheVariants as rows_by
use Rattle.sql_grammar.specs.Marks.{count}
use Rattle.sql_grammar.specs.ExampleWords.{t, word, a, number, query, select_one, rows, statement_of, WrongAt}
use Rattle.sql_grammar.specs.Statements.{all_statement_rules}

-- ---- INSERT

-- INSERT INTO a VALUES (- 1, 'b'), (NULL)
two_rows : statement_of (kind.Insert ∷ kind.Into ∷ kind.Word ∷ kind.Values ∷ kind.LeftParen ∷ kind.Minus ∷ kind.Number ∷ kind.Comma ∷ kind.Text ∷ kind.RightParen ∷ kind.Comma ∷ kind.LeftParen ∷ kind.Null ∷ kind.RightParen ∷ [])
    ≡ rows (rows_by.Insert (record { choice = choice_is.Abort; table = word 2; columns = []; source = insert_source.Query (query (part_is.Values ((e.Unary unary.Negative (number 6) ∷ e.Literal (t kind.Text 8) ∷ []) ∷ (e.Literal (t kind.Null 12) ∷ []) ∷ []))) }))
unfolding all_statement_rules count
two_rows = refl

-- INSERT INTO a (b, c) SELECT d
into_columns : statement_of (kind.Insert ∷ kind.Into ∷ kind.Word ∷ kind.LeftParen ∷ kind.Word ∷ kind.Comma ∷ kind.Word ∷ kind.RightParen ∷ kind.Select ∷ kind.Word ∷ [])
    ≡ rows (rows_by.Insert (record { choice = choice_is.Abort; table = word 2; columns = word 4 ∷ word 6 ∷ []; source = insert_source.Query (select_one 9) }))
unfolding all_statement_rules count
into_columns = refl

-- INSERT INTO a DEFAULT VALUES
defaults : statement_of (kind.Insert ∷ kind.Into ∷ kind.Word ∷ kind.Default ∷ kind.Values ∷ []) ≡ rows (rows_by.Insert (record { choice = choice_is.Abort; table = word 2; columns = []; source = insert_source.Defaults }))
unfolding all_statement_rules count
defaults = refl

-- INSERT INTO a (b) DEFAULT VALUES
columns_and_defaults : statement_of (kind.Insert ∷ kind.Into ∷ kind.Word ∷ kind.LeftParen ∷ kind.Word ∷ kind.RightParen ∷ kind.Default ∷ kind.Values ∷ [])
    ≡ rows (rows_by.Insert (record { choice = choice_is.Abort; table = word 2; columns = word 4 ∷ []; source = insert_source.Defaults }))
unfolding all_statement_rules count
columns_and_defaults = refl

-- INSERT OR ABORT INTO a DEFAULT VALUES
insert_or_abort : statement_of (kind.Insert ∷ kind.Or ∷ kind.Abort ∷ kind.Into ∷ kind.Word ∷ kind.Default ∷ kind.Values ∷ [])
    ≡ rows (rows_by.Insert (record { choice = choice_is.Abort; table = word 4; columns = []; source = insert_source.Defaults }))
unfolding all_statement_rules count
insert_or_abort = refl

-- INSERT OR IGNORE INTO a DEFAULT VALUES
insert_or_ignore : statement_of (kind.Insert ∷ kind.Or ∷ kind.Ignore ∷ kind.Into ∷ kind.Word ∷ kind.Default ∷ kind.Values ∷ [])
    ≡ rows (rows_by.Insert (record { choice = choice_is.Ignore; table = word 4; columns = []; source = insert_source.Defaults }))
unfolding all_statement_rules count
insert_or_ignore = refl

-- INSERT OR REPLACE INTO a DEFAULT VALUES
insert_or_replace : statement_of (kind.Insert ∷ kind.Or ∷ kind.Replace ∷ kind.Into ∷ kind.Word ∷ kind.Default ∷ kind.Values ∷ [])
    ≡ rows (rows_by.Insert (record { choice = choice_is.Replace; table = word 4; columns = []; source = insert_source.Defaults }))
unfolding all_statement_rules count
insert_or_replace = refl

-- REPLACE INTO a DEFAULT VALUES
replace : statement_of (kind.Replace ∷ kind.Into ∷ kind.Word ∷ kind.Default ∷ kind.Values ∷ []) ≡ rows (rows_by.Insert (record { choice = choice_is.Replace; table = word 2; columns = []; source = insert_source.Defaults }))
unfolding all_statement_rules count
replace = refl

-- ---- UPDATE and DELETE

-- UPDATE a SET b = 1
an_assignment : statement_of (kind.Update ∷ kind.Word ∷ kind.Set ∷ kind.Word ∷ kind.Equal ∷ kind.Number ∷ [])
    ≡ rows (rows_by.Update (record { choice = choice_is.Abort; table = word 1; assignments = record { column = word 3; value = number 5 } ∷ []; filter = None }))
unfolding all_statement_rules count
an_assignment = refl

-- UPDATE OR IGNORE a SET b = c, d = f = g WHERE h
two_assignments : statement_of (kind.Update ∷ kind.Or ∷ kind.Ignore ∷ kind.Word ∷ kind.Set ∷ kind.Word ∷ kind.Equal ∷ kind.Word ∷ kind.Comma ∷ kind.Word ∷ kind.Equal ∷ kind.Word ∷ kind.Equal ∷ kind.Word ∷ kind.Where ∷ kind.Word ∷ [])
    ≡ rows (rows_by.Update (record { choice = choice_is.Ignore; table = word 3; assignments = record { column = word 5; value = a 7 } ∷ record { column = word 9; value = e.Binary binary.Equal (a 11) (a 13) } ∷ []; filter = Some (a 15) }))
unfolding all_statement_rules count
two_assignments = refl

-- DELETE FROM a
delete_all : statement_of (kind.Delete ∷ kind.From ∷ kind.Word ∷ []) ≡ rows (rows_by.Delete (record { table = word 2; filter = None }))
unfolding all_statement_rules count
delete_all = refl

-- DELETE FROM a WHERE b
delete_some : statement_of (kind.Delete ∷ kind.From ∷ kind.Word ∷ kind.Where ∷ kind.Word ∷ []) ≡ rows (rows_by.Delete (record { table = word 2; filter = Some (a 4) }))
unfolding all_statement_rules count
delete_some = refl

-- ---- what is refused

-- INSERT a
insert_alone : WrongAt 1 (kind.Insert ∷ kind.Word ∷ [])
unfolding all_statement_rules count
insert_alone = refl

-- INSERT INTO a
insert_nothing : WrongAt 3 (kind.Insert ∷ kind.Into ∷ kind.Word ∷ [])
unfolding all_statement_rules count
insert_nothing = refl

-- INSERT INTO a VALUES ()
insert_no_value : WrongAt 5 (kind.Insert ∷ kind.Into ∷ kind.Word ∷ kind.Values ∷ kind.LeftParen ∷ kind.RightParen ∷ [])
unfolding all_statement_rules count
insert_no_value = refl

-- INSERT INTO a () VALUES (1)
insert_no_column : WrongAt 4 (kind.Insert ∷ kind.Into ∷ kind.Word ∷ kind.LeftParen ∷ kind.RightParen ∷ kind.Values ∷ kind.LeftParen ∷ kind.Number ∷ kind.RightParen ∷ [])
unfolding all_statement_rules count
insert_no_column = refl

-- INSERT INTO a (b) 1
insert_an_expression : WrongAt 6 (kind.Insert ∷ kind.Into ∷ kind.Word ∷ kind.LeftParen ∷ kind.Word ∷ kind.RightParen ∷ kind.Number ∷ [])
unfolding all_statement_rules count
insert_an_expression = refl

-- INSERT INTO a VALUES (1),
no_next_row : WrongAt 8 (kind.Insert ∷ kind.Into ∷ kind.Word ∷ kind.Values ∷ kind.LeftParen ∷ kind.Number ∷ kind.RightParen ∷ kind.Comma ∷ [])
unfolding all_statement_rules count
no_next_row = refl

-- INSERT INTO a DEFAULT VALUES (1)
defaults_of_a_row : WrongAt 5 (kind.Insert ∷ kind.Into ∷ kind.Word ∷ kind.Default ∷ kind.Values ∷ kind.LeftParen ∷ kind.Number ∷ kind.RightParen ∷ [])
unfolding all_statement_rules count
defaults_of_a_row = refl

-- INSERT OR ROLLBACK INTO a DEFAULT VALUES
insert_or_rollback : WrongAt 2 (kind.Insert ∷ kind.Or ∷ kind.Rollback ∷ kind.Into ∷ kind.Word ∷ kind.Default ∷ kind.Values ∷ [])
unfolding all_statement_rules count
insert_or_rollback = refl

-- REPLACE OR IGNORE INTO a DEFAULT VALUES
replace_or : WrongAt 1 (kind.Replace ∷ kind.Or ∷ kind.Ignore ∷ kind.Into ∷ kind.Word ∷ kind.Default ∷ kind.Values ∷ [])
unfolding all_statement_rules count
replace_or = refl

-- INSERT INTO a.b DEFAULT VALUES
insert_of_a_schema : WrongAt 3 (kind.Insert ∷ kind.Into ∷ kind.Word ∷ kind.Dot ∷ kind.Word ∷ kind.Default ∷ kind.Values ∷ [])
unfolding all_statement_rules count
insert_of_a_schema = refl

-- UPDATE a
update_nothing : WrongAt 2 (kind.Update ∷ kind.Word ∷ [])
unfolding all_statement_rules count
update_nothing = refl

-- UPDATE a SET b
update_without_value : WrongAt 4 (kind.Update ∷ kind.Word ∷ kind.Set ∷ kind.Word ∷ [])
unfolding all_statement_rules count
update_without_value = refl

-- UPDATE a SET b == 1
update_by_another_sign : WrongAt 4 (kind.Update ∷ kind.Word ∷ kind.Set ∷ kind.Word ∷ kind.DoubleEqual ∷ kind.Number ∷ [])
unfolding all_statement_rules count
update_by_another_sign = refl

-- UPDATE a SET b.c = 1
update_of_a_table_column : WrongAt 4 (kind.Update ∷ kind.Word ∷ kind.Set ∷ kind.Word ∷ kind.Dot ∷ kind.Word ∷ kind.Equal ∷ kind.Number ∷ [])
unfolding all_statement_rules count
update_of_a_table_column = refl

-- UPDATE a SET b = 1 FROM c
update_from : WrongAt 6 (kind.Update ∷ kind.Word ∷ kind.Set ∷ kind.Word ∷ kind.Equal ∷ kind.Number ∷ kind.From ∷ kind.Word ∷ [])
unfolding all_statement_rules count
update_from = refl

-- DELETE a
delete_without_from : WrongAt 1 (kind.Delete ∷ kind.Word ∷ [])
unfolding all_statement_rules count
delete_without_from = refl

-- DELETE FROM a AS b
delete_under_another_name : WrongAt 3 (kind.Delete ∷ kind.From ∷ kind.Word ∷ kind.As ∷ kind.Word ∷ [])
unfolding all_statement_rules count
delete_under_another_name = refl

-- DELETE FROM a LIMIT 1
delete_limit : WrongAt 3 (kind.Delete ∷ kind.From ∷ kind.Word ∷ kind.Limit ∷ kind.Number ∷ [])
unfolding all_statement_rules count
delete_limit = refl

-- DELETE FROM a RETURNING b
delete_returning : WrongAt 3 (kind.Delete ∷ kind.From ∷ kind.Word ∷ kind.Returning ∷ kind.Word ∷ [])
unfolding all_statement_rules count
delete_returning = refl
