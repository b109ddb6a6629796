-- How definitions are read, by the trees of small texts.
use Rattle.std.specs.Prelude.{◌≡◌, ℕ, true, false, List, [], ◌∷◌, Option, Some, None, refl}
use Rattle.sql_tree.specs.declared.token.Span.{Span}
use Rattle.sql_tree.specs.declared.token.TokenKind.TheVariants as kind
use Rattle.sql_tree.specs.declared.expr.BinaryOp.TheVariants as binary
use Rattle.sql_tree.specs.declared.expr.Expr.TheVariants as e
use Rattle.sql_tree.specs.declared.expr.UnaryOp.TheVariants as unary
use Rattle.sql_tree.specs.declared.query.QueryPart.TheVariants as part_is
use Rattle.sql_tree.specs.declared.statement.ColumnConstraint.{ColumnConstraint}
use Rattle.sql_tree.specs.declared.statement.ColumnConstraint.TheVariants as column_rule
use Rattle.sql_tree.specs.declared.statement.ColumnDefinition.{ColumnDefinition}
use Rattle.sql_tree.specs.declared.statement.Command.TheVariants as command_is
use Rattle.sql_tree.specs.declared.statement.ConflictChoice.TheVariants as choice_is
use Rattle.sql_tree.specs.declared.statement.Definition.{Definition}
use Rattle.sql_tree.specs.declared.statement.Definition.TheVariants as definition
use Rattle.sql_tree.specs.declared.statement.IndexedColumn.{IndexedColumn}
use Rattle.sql_tree.specs.declared.statement.InsertSource.TheVariants as insert_source
use Rattle.sql_tree.specs.declared.statement.RowCommand.TheVariants as rows_by
use Rattle.sql_tree.specs.declared.statement.Statement.{Statement}
use Rattle.sql_tree.specs.declared.statement.TableConstraint.TheVariants as table_rule
use Rattle.sql_tree.specs.declared.statement.TriggerEvent.TheVariants as event
use Rattle.sql_tree.specs.declared.statement.TriggerTime.TheVariants as time
use Rattle.sql_grammar.specs.Answers.{Answer}
use Rattle.sql_grammar.specs.Marks.{count}
use Rattle.sql_grammar.specs.ExampleWords.{t, word, a, number, query, select_one, plain_tree, statement_of, WrongAt}
use Rattle.sql_grammar.specs.Statements.{all_statement_rules}

-- CREATE of the name in the n-th place, of so many tokens
abbrev creates : ℕ → ℕ → Definition → Answer Statement
creates n count d = plain_tree (command_is.Create (record { if_not_exists = false; name = word n; definition = d; text = record { start = 0; end = count } }))

-- the same behind IF NOT EXISTS
abbrev creates_if_new : ℕ → ℕ → Definition → Answer Statement
creates_if_new n count d = plain_tree (command_is.Create (record { if_not_exists = true; name = word n; definition = d; text = record { start = 0; end = count } }))

-- a column without a type, with its name in the n-th place
abbrev untyped : ℕ → List ColumnConstraint → ColumnDefinition
untyped n constraints = record { name = word n; type_name = None; constraints = constraints }

-- a table of this one column
abbrev one_column : ColumnDefinition → Definition
one_column c = definition.Table (record { columns = c ∷ []; constraints = [] })

-- a column of a key
abbrev key : ℕ → IndexedColumn
key n = record { name = word n; collation = None; descending = false }

-- the tokens from the m-th to in front of the n-th
abbrev tokens : ℕ → ℕ → Option Span
tokens m n = Some (record { start = m; end = n })

-- ---- CREATE TABLE

-- CREATE TABLE a (b)
a_column : statement_of (kind.Create ∷ kind.Table ∷ kind.Word ∷ kind.LeftParen ∷ kind.Word ∷ kind.RightParen ∷ []) ≡ creates 2 6 (one_column (untyped 4 []))
unfolding all_statement_rules count
a_column = refl

-- CREATE TABLE IF NOT EXISTS a (b);
a_new_table : statement_of (kind.Create ∷ kind.Table ∷ kind.If ∷ kind.Not ∷ kind.Exists ∷ kind.Word ∷ kind.LeftParen ∷ kind.Word ∷ kind.RightParen ∷ kind.Semicolon ∷ []) ≡ creates_if_new 5 9 (one_column (untyped 7 []))
unfolding all_statement_rules count
a_new_table = refl

-- CREATE TABLE a (b c d (1, - 2), f)
typed : statement_of (kind.Create ∷ kind.Table ∷ kind.Word ∷ kind.LeftParen ∷ kind.Word ∷ kind.Word ∷ kind.Word ∷ kind.LeftParen ∷ kind.Number ∷ kind.Comma ∷ kind.Minus ∷ kind.Number ∷ kind.RightParen ∷ kind.Comma ∷ kind.Word ∷ kind.RightParen ∷ [])
    ≡ creates 2 16 (definition.Table (record { columns = record { name = word 4; type_name = Some (record { words = word 5 ∷ word 6 ∷ []; sizes = record { sign = None; number = t kind.Number 8 } ∷ record { sign = Some (t kind.Minus 10); number = t kind.Number 11 } ∷ [] }); constraints = [] } ∷ untyped 14 [] ∷ []; constraints = [] }))
unfolding all_statement_rules count
typed = refl

-- CREATE TABLE a (b PRIMARY KEY NOT NULL NULL UNIQUE CHECK (c) DEFAULT 1 COLLATE d)
every_constraint : statement_of (kind.Create ∷ kind.Table ∷ kind.Word ∷ kind.LeftParen ∷ kind.Word ∷ kind.Primary ∷ kind.Key ∷ kind.Not ∷ kind.Null ∷ kind.Null ∷ kind.Unique ∷ kind.Check ∷ kind.LeftParen ∷ kind.Word ∷ kind.RightParen ∷ kind.Default ∷ kind.Number ∷ kind.Collate ∷ kind.Word ∷ kind.RightParen ∷ [])
    ≡ creates 2 20 (one_column (untyped 4 (column_rule.PrimaryKey ∷ column_rule.NotNull ∷ column_rule.Null ∷ column_rule.Unique ∷ column_rule.Check (a 13) ∷ column_rule.Default (number 16) ∷ column_rule.Collate (word 18) ∷ [])))
unfolding all_statement_rules count
every_constraint = refl

-- CREATE TABLE a (b PRIMARY KEY ASC UNIQUE)
ascending : statement_of (kind.Create ∷ kind.Table ∷ kind.Word ∷ kind.LeftParen ∷ kind.Word ∷ kind.Primary ∷ kind.Key ∷ kind.Asc ∷ kind.Unique ∷ kind.RightParen ∷ [])
    ≡ creates 2 10 (one_column (untyped 4 (column_rule.PrimaryKey ∷ column_rule.Unique ∷ [])))
unfolding all_statement_rules count
ascending = refl

-- CREATE TABLE a (b CONSTRAINT c UNIQUE)
a_named_constraint : statement_of (kind.Create ∷ kind.Table ∷ kind.Word ∷ kind.LeftParen ∷ kind.Word ∷ kind.Constraint ∷ kind.Word ∷ kind.Unique ∷ kind.RightParen ∷ []) ≡ creates 2 9 (one_column (untyped 4 (column_rule.Unique ∷ [])))
unfolding all_statement_rules count
a_named_constraint = refl

-- CREATE TABLE a (b DEFAULT - 1 DEFAULT 'c' DEFAULT x'00' DEFAULT NULL DEFAULT TRUE DEFAULT (d + 1))
defaults : statement_of (kind.Create ∷ kind.Table ∷ kind.Word ∷ kind.LeftParen ∷ kind.Word ∷ kind.Default ∷ kind.Minus ∷ kind.Number ∷ kind.Default ∷ kind.Text ∷ kind.Default ∷ kind.Blob ∷ kind.Default ∷ kind.Null ∷ kind.Default ∷ kind.True ∷ kind.Default ∷ kind.LeftParen ∷ kind.Word ∷ kind.Plus ∷ kind.Number ∷ kind.RightParen ∷ kind.RightParen ∷ [])
    ≡ creates 2 23 (one_column (untyped 4 (column_rule.Default (e.Unary unary.Negative (number 7)) ∷ column_rule.Default (e.Literal (t kind.Text 9)) ∷ column_rule.Default (e.Literal (t kind.Blob 11)) ∷ column_rule.Default (e.Literal (t kind.Null 13)) ∷ column_rule.Default (e.Literal (t kind.True 15)) ∷ column_rule.Default (e.Binary binary.Add (a 18) (number 20)) ∷ [])))
unfolding all_statement_rules count
defaults = refl

-- CREATE TABLE a (b, c, PRIMARY KEY (b, c ASC), CONSTRAINT d UNIQUE (b COLLATE f), CHECK (g))
table_constraints : statement_of (kind.Create ∷ kind.Table ∷ kind.Word ∷ kind.LeftParen ∷ kind.Word ∷ kind.Comma ∷ kind.Word ∷ kind.Comma ∷ kind.Primary ∷ kind.Key ∷ kind.LeftParen ∷ kind.Word ∷ kind.Comma ∷ kind.Word ∷ kind.Asc ∷ kind.RightParen ∷ kind.Comma ∷ kind.Constraint ∷ kind.Word ∷ kind.Unique ∷ kind.LeftParen ∷ kind.Word ∷ kind.Collate ∷ kind.Word ∷ kind.RightParen ∷ kind.Comma ∷ kind.Check ∷ kind.LeftParen ∷ kind.Word ∷ kind.RightParen ∷ kind.RightParen ∷ [])
    ≡ creates 2 31 (definition.Table (record { columns = untyped 4 [] ∷ untyped 6 [] ∷ []; constraints = table_rule.PrimaryKey (key 11 ∷ key 13 ∷ []) ∷ table_rule.Unique (record { name = word 21; collation = Some (word 23); descending = false } ∷ []) ∷ table_rule.Check (a 28) ∷ [] }))
unfolding all_statement_rules count
table_constraints = refl

-- ---- CREATE INDEX and CREATE VIEW

-- CREATE INDEX a ON b (c, d COLLATE f DESC, g ASC)
an_index : statement_of (kind.Create ∷ kind.Index ∷ kind.Word ∷ kind.On ∷ kind.Word ∷ kind.LeftParen ∷ kind.Word ∷ kind.Comma ∷ kind.Word ∷ kind.Collate ∷ kind.Word ∷ kind.Desc ∷ kind.Comma ∷ kind.Word ∷ kind.Asc ∷ kind.RightParen ∷ [])
    ≡ creates 2 16 (definition.Index (record { unique = false; table = word 4; columns = key 6 ∷ record { name = word 8; collation = Some (word 10); descending = true } ∷ key 13 ∷ [] }))
unfolding all_statement_rules count
an_index = refl

-- CREATE UNIQUE INDEX IF NOT EXISTS a ON b (c)
a_unique_index : statement_of (kind.Create ∷ kind.Unique ∷ kind.Index ∷ kind.If ∷ kind.Not ∷ kind.Exists ∷ kind.Word ∷ kind.On ∷ kind.Word ∷ kind.LeftParen ∷ kind.Word ∷ kind.RightParen ∷ [])
    ≡ creates_if_new 6 12 (definition.Index (record { unique = true; table = word 8; columns = key 10 ∷ [] }))
unfolding all_statement_rules count
a_unique_index = refl

-- CREATE VIEW a AS SELECT b
a_view : statement_of (kind.Create ∷ kind.View ∷ kind.Word ∷ kind.As ∷ kind.Select ∷ kind.Word ∷ []) ≡ creates 2 6 (definition.View (record { columns = []; query = select_one 5 }))
unfolding all_statement_rules count
a_view = refl

-- CREATE VIEW IF NOT EXISTS a (b, c) AS VALUES (1, 2)
a_view_with_columns : statement_of (kind.Create ∷ kind.View ∷ kind.If ∷ kind.Not ∷ kind.Exists ∷ kind.Word ∷ kind.LeftParen ∷ kind.Word ∷ kind.Comma ∷ kind.Word ∷ kind.RightParen ∷ kind.As ∷ kind.Values ∷ kind.LeftParen ∷ kind.Number ∷ kind.Comma ∷ kind.Number ∷ kind.RightParen ∷ [])
    ≡ creates_if_new 5 18 (definition.View (record { columns = word 7 ∷ word 9 ∷ []; query = query (part_is.Values ((number 14 ∷ number 16 ∷ []) ∷ [])) }))
unfolding all_statement_rules count
a_view_with_columns = refl

-- ---- CREATE TRIGGER

-- CREATE TRIGGER a DELETE ON b BEGIN SELECT c; END
a_trigger : statement_of (kind.Create ∷ kind.Trigger ∷ kind.Word ∷ kind.Delete ∷ kind.On ∷ kind.Word ∷ kind.Begin ∷ kind.Select ∷ kind.Word ∷ kind.Semicolon ∷ kind.End ∷ [])
    ≡ creates 2 11 (definition.Trigger (record { time = time.Before; event = event.Delete; table = word 5; condition = None; body = rows_by.Query (select_one 8) ∷ [] }))
unfolding all_statement_rules count
a_trigger = refl

-- CREATE TRIGGER IF NOT EXISTS a BEFORE INSERT ON b FOR EACH ROW WHEN c BEGIN DELETE FROM d; END
before : statement_of (kind.Create ∷ kind.Trigger ∷ kind.If ∷ kind.Not ∷ kind.Exists ∷ kind.Word ∷ kind.Before ∷ kind.Insert ∷ kind.On ∷ kind.Word ∷ kind.For ∷ kind.Each ∷ kind.Row ∷ kind.When ∷ kind.Word ∷ kind.Begin ∷ kind.Delete ∷ kind.From ∷ kind.Word ∷ kind.Semicolon ∷ kind.End ∷ [])
    ≡ creates_if_new 5 21 (definition.Trigger (record { time = time.Before; event = event.Insert; table = word 9; condition = Some (a 14); body = rows_by.Delete (record { table = word 18; filter = None }) ∷ [] }))
unfolding all_statement_rules count
before = refl

-- CREATE TRIGGER a AFTER UPDATE ON b BEGIN DELETE FROM c; END
after : statement_of (kind.Create ∷ kind.Trigger ∷ kind.Word ∷ kind.After ∷ kind.Update ∷ kind.On ∷ kind.Word ∷ kind.Begin ∷ kind.Delete ∷ kind.From ∷ kind.Word ∷ kind.Semicolon ∷ kind.End ∷ [])
    ≡ creates 2 13 (definition.Trigger (record { time = time.After; event = event.Update []; table = word 6; condition = None; body = rows_by.Delete (record { table = word 10; filter = None }) ∷ [] }))
unfolding all_statement_rules count
after = refl

-- CREATE TRIGGER a INSTEAD OF UPDATE OF b, c ON d BEGIN DELETE FROM f; END;
instead : statement_of (kind.Create ∷ kind.Trigger ∷ kind.Word ∷ kind.Instead ∷ kind.Of ∷ kind.Update ∷ kind.Of ∷ kind.Word ∷ kind.Comma ∷ kind.Word ∷ kind.On ∷ kind.Word ∷ kind.Begin ∷ kind.Delete ∷ kind.From ∷ kind.Word ∷ kind.Semicolon ∷ kind.End ∷ kind.Semicolon ∷ [])
    ≡ creates 2 18 (definition.Trigger (record { time = time.InsteadOf; event = event.Update (word 7 ∷ word 9 ∷ []); table = word 11; condition = None; body = rows_by.Delete (record { table = word 15; filter = None }) ∷ [] }))
unfolding all_statement_rules count
instead = refl

-- CREATE TRIGGER a DELETE ON b BEGIN INSERT INTO c DEFAULT VALUES; UPDATE d SET f = 1; DELETE FROM g; VALUES (2); END
every_command : statement_of (kind.Create ∷ kind.Trigger ∷ kind.Word ∷ kind.Delete ∷ kind.On ∷ kind.Word ∷ kind.Begin ∷ kind.Insert ∷ kind.Into ∷ kind.Word ∷ kind.Default ∷ kind.Values ∷ kind.Semicolon ∷ kind.Update ∷ kind.Word ∷ kind.Set ∷ kind.Word ∷ kind.Equal ∷ kind.Number ∷ kind.Semicolon ∷ kind.Delete ∷ kind.From ∷ kind.Word ∷ kind.Semicolon ∷ kind.Values ∷ kind.LeftParen ∷ kind.Number ∷ kind.RightParen ∷ kind.Semicolon ∷ kind.End ∷ [])
    ≡ creates 2 30 (definition.Trigger (record { time = time.Before; event = event.Delete; table = word 5; condition = None; body = rows_by.Insert (record { choice = choice_is.Abort; table = word 9; columns = []; source = insert_source.Defaults }) ∷ rows_by.Update (record { choice = choice_is.Abort; table = word 14; assignments = record { column = word 16; value = number 18 } ∷ []; filter = None }) ∷ rows_by.Delete (record { table = word 22; filter = None }) ∷ rows_by.Query (query (part_is.Values ((number 26 ∷ []) ∷ []))) ∷ [] }))
unfolding all_statement_rules count
every_command = refl

-- ---- CREATE VIRTUAL TABLE

-- CREATE VIRTUAL TABLE a USING b
a_virtual_table : statement_of (kind.Create ∷ kind.Virtual ∷ kind.Table ∷ kind.Word ∷ kind.Using ∷ kind.Word ∷ []) ≡ creates 3 6 (definition.VirtualTable (record { module_name = word 5; arguments = [] }))
unfolding all_statement_rules count
a_virtual_table = refl

-- CREATE VIRTUAL TABLE IF NOT EXISTS a USING b ()
nothing_in_parentheses : statement_of (kind.Create ∷ kind.Virtual ∷ kind.Table ∷ kind.If ∷ kind.Not ∷ kind.Exists ∷ kind.Word ∷ kind.Using ∷ kind.Word ∷ kind.LeftParen ∷ kind.RightParen ∷ [])
    ≡ creates_if_new 6 11 (definition.VirtualTable (record { module_name = word 8; arguments = [] }))
unfolding all_statement_rules count
nothing_in_parentheses = refl

-- CREATE VIRTUAL TABLE a USING b (c SELECT = 1, (d, (f)) g,, h)
some_arguments : statement_of (kind.Create ∷ kind.Virtual ∷ kind.Table ∷ kind.Word ∷ kind.Using ∷ kind.Word ∷ kind.LeftParen ∷ kind.Word ∷ kind.Select ∷ kind.Equal ∷ kind.Number ∷ kind.Comma ∷ kind.LeftParen ∷ kind.Word ∷ kind.Comma ∷ kind.LeftParen ∷ kind.Word ∷ kind.RightParen ∷ kind.RightParen ∷ kind.Word ∷ kind.Comma ∷ kind.Comma ∷ kind.Word ∷ kind.RightParen ∷ [])
    ≡ creates 3 24 (definition.VirtualTable (record { module_name = word 5; arguments = tokens 7 11 ∷ tokens 12 20 ∷ None ∷ tokens 22 23 ∷ [] }))
unfolding all_statement_rules count
some_arguments = refl

-- CREATE VIRTUAL TABLE a USING b (,)
empty_arguments : statement_of (kind.Create ∷ kind.Virtual ∷ kind.Table ∷ kind.Word ∷ kind.Using ∷ kind.Word ∷ kind.LeftParen ∷ kind.Comma ∷ kind.RightParen ∷ [])
    ≡ creates 3 9 (definition.VirtualTable (record { module_name = word 5; arguments = None ∷ None ∷ [] }))
unfolding all_statement_rules count
empty_arguments = refl

-- ---- what is refused

-- CREATE
create_alone : WrongAt 1 (kind.Create ∷ [])
unfolding all_statement_rules count
create_alone = refl

-- CREATE a
create_a_name : WrongAt 1 (kind.Create ∷ kind.Word ∷ [])
unfolding all_statement_rules count
create_a_name = refl

-- CREATE TABLE IF EXISTS a (b)
if_exists : WrongAt 3 (kind.Create ∷ kind.Table ∷ kind.If ∷ kind.Exists ∷ kind.Word ∷ kind.LeftParen ∷ kind.Word ∷ kind.RightParen ∷ [])
unfolding all_statement_rules count
if_exists = refl

-- CREATE UNIQUE TABLE a (b)
unique_table : WrongAt 2 (kind.Create ∷ kind.Unique ∷ kind.Table ∷ kind.Word ∷ kind.LeftParen ∷ kind.Word ∷ kind.RightParen ∷ [])
unfolding all_statement_rules count
unique_table = refl

-- CREATE TABLE a ()
no_column : WrongAt 4 (kind.Create ∷ kind.Table ∷ kind.Word ∷ kind.LeftParen ∷ kind.RightParen ∷ [])
unfolding all_statement_rules count
no_column = refl

-- CREATE TABLE a
no_parentheses : WrongAt 3 (kind.Create ∷ kind.Table ∷ kind.Word ∷ [])
unfolding all_statement_rules count
no_parentheses = refl

-- CREATE TABLE a AS SELECT b
as_query : WrongAt 3 (kind.Create ∷ kind.Table ∷ kind.Word ∷ kind.As ∷ kind.Select ∷ kind.Word ∷ [])
unfolding all_statement_rules count
as_query = refl

-- CREATE TABLE a (UNIQUE (b))
a_constraint_first : WrongAt 4 (kind.Create ∷ kind.Table ∷ kind.Word ∷ kind.LeftParen ∷ kind.Unique ∷ kind.LeftParen ∷ kind.Word ∷ kind.RightParen ∷ kind.RightParen ∷ [])
unfolding all_statement_rules count
a_constraint_first = refl

-- CREATE TABLE a (b, UNIQUE (b), c)
a_column_behind_a_constraint : WrongAt 11 (kind.Create ∷ kind.Table ∷ kind.Word ∷ kind.LeftParen ∷ kind.Word ∷ kind.Comma ∷ kind.Unique ∷ kind.LeftParen ∷ kind.Word ∷ kind.RightParen ∷ kind.Comma ∷ kind.Word ∷ kind.RightParen ∷ [])
unfolding all_statement_rules count
a_column_behind_a_constraint = refl

-- CREATE TABLE a (b UNIQUE (b))
a_comma_missing : WrongAt 6 (kind.Create ∷ kind.Table ∷ kind.Word ∷ kind.LeftParen ∷ kind.Word ∷ kind.Unique ∷ kind.LeftParen ∷ kind.Word ∷ kind.RightParen ∷ kind.RightParen ∷ [])
unfolding all_statement_rules count
a_comma_missing = refl

-- CREATE TABLE a (b PRIMARY KEY DESC)
a_descending_primary_key : WrongAt 7 (kind.Create ∷ kind.Table ∷ kind.Word ∷ kind.LeftParen ∷ kind.Word ∷ kind.Primary ∷ kind.Key ∷ kind.Desc ∷ kind.RightParen ∷ [])
unfolding all_statement_rules count
a_descending_primary_key = refl

-- CREATE TABLE a (b, PRIMARY KEY (b DESC))
a_descending_key : WrongAt 10 (kind.Create ∷ kind.Table ∷ kind.Word ∷ kind.LeftParen ∷ kind.Word ∷ kind.Comma ∷ kind.Primary ∷ kind.Key ∷ kind.LeftParen ∷ kind.Word ∷ kind.Desc ∷ kind.RightParen ∷ kind.RightParen ∷ [])
unfolding all_statement_rules count
a_descending_key = refl

-- CREATE TABLE a (b PRIMARY KEY AUTOINCREMENT)
autoincrement : WrongAt 7 (kind.Create ∷ kind.Table ∷ kind.Word ∷ kind.LeftParen ∷ kind.Word ∷ kind.Primary ∷ kind.Key ∷ kind.Autoincrement ∷ kind.RightParen ∷ [])
unfolding all_statement_rules count
autoincrement = refl

-- CREATE TABLE a (b REFERENCES c)
a_foreign_key : WrongAt 5 (kind.Create ∷ kind.Table ∷ kind.Word ∷ kind.LeftParen ∷ kind.Word ∷ kind.References ∷ kind.Word ∷ kind.RightParen ∷ [])
unfolding all_statement_rules count
a_foreign_key = refl

-- CREATE TABLE a (b CONSTRAINT c)
a_constraint_without_rule : WrongAt 7 (kind.Create ∷ kind.Table ∷ kind.Word ∷ kind.LeftParen ∷ kind.Word ∷ kind.Constraint ∷ kind.Word ∷ kind.RightParen ∷ [])
unfolding all_statement_rules count
a_constraint_without_rule = refl

-- CREATE TABLE a (b DEFAULT - 'c')
a_sign_of_a_text : WrongAt 7 (kind.Create ∷ kind.Table ∷ kind.Word ∷ kind.LeftParen ∷ kind.Word ∷ kind.Default ∷ kind.Minus ∷ kind.Text ∷ kind.RightParen ∷ [])
unfolding all_statement_rules count
a_sign_of_a_text = refl

-- CREATE TABLE a (b DEFAULT c)
a_default_of_a_name : WrongAt 6 (kind.Create ∷ kind.Table ∷ kind.Word ∷ kind.LeftParen ∷ kind.Word ∷ kind.Default ∷ kind.Word ∷ kind.RightParen ∷ [])
unfolding all_statement_rules count
a_default_of_a_name = refl

-- CREATE TABLE a (b CHECK c)
check_without_parentheses : WrongAt 6 (kind.Create ∷ kind.Table ∷ kind.Word ∷ kind.LeftParen ∷ kind.Word ∷ kind.Check ∷ kind.Word ∷ kind.RightParen ∷ [])
unfolding all_statement_rules count
check_without_parentheses = refl

-- CREATE INDEX a ON b
an_index_without_columns : WrongAt 5 (kind.Create ∷ kind.Index ∷ kind.Word ∷ kind.On ∷ kind.Word ∷ [])
unfolding all_statement_rules count
an_index_without_columns = refl

-- CREATE INDEX a ON b (c + 1)
an_index_of_an_expression : WrongAt 7 (kind.Create ∷ kind.Index ∷ kind.Word ∷ kind.On ∷ kind.Word ∷ kind.LeftParen ∷ kind.Word ∷ kind.Plus ∷ kind.Number ∷ kind.RightParen ∷ [])
unfolding all_statement_rules count
an_index_of_an_expression = refl

-- CREATE INDEX a ON b (c) WHERE d
a_partial_index : WrongAt 8 (kind.Create ∷ kind.Index ∷ kind.Word ∷ kind.On ∷ kind.Word ∷ kind.LeftParen ∷ kind.Word ∷ kind.RightParen ∷ kind.Where ∷ kind.Word ∷ [])
unfolding all_statement_rules count
a_partial_index = refl

-- CREATE VIEW a AS b
a_view_without_query : WrongAt 4 (kind.Create ∷ kind.View ∷ kind.Word ∷ kind.As ∷ kind.Word ∷ [])
unfolding all_statement_rules count
a_view_without_query = refl

-- CREATE TRIGGER a ON b BEGIN SELECT c; END
a_trigger_without_event : WrongAt 3 (kind.Create ∷ kind.Trigger ∷ kind.Word ∷ kind.On ∷ kind.Word ∷ kind.Begin ∷ kind.Select ∷ kind.Word ∷ kind.Semicolon ∷ kind.End ∷ [])
unfolding all_statement_rules count
a_trigger_without_event = refl

-- CREATE TRIGGER a INSTEAD DELETE ON b BEGIN SELECT c; END
instead_alone : WrongAt 4 (kind.Create ∷ kind.Trigger ∷ kind.Word ∷ kind.Instead ∷ kind.Delete ∷ kind.On ∷ kind.Word ∷ kind.Begin ∷ kind.Select ∷ kind.Word ∷ kind.Semicolon ∷ kind.End ∷ [])
unfolding all_statement_rules count
instead_alone = refl

-- CREATE TRIGGER a INSERT OF b ON c BEGIN SELECT d; END
insert_of_a_column : WrongAt 4 (kind.Create ∷ kind.Trigger ∷ kind.Word ∷ kind.Insert ∷ kind.Of ∷ kind.Word ∷ kind.On ∷ kind.Word ∷ kind.Begin ∷ kind.Select ∷ kind.Word ∷ kind.Semicolon ∷ kind.End ∷ [])
unfolding all_statement_rules count
insert_of_a_column = refl

-- CREATE TRIGGER a DELETE ON b FOR EACH c BEGIN SELECT c; END
each_statement : WrongAt 8 (kind.Create ∷ kind.Trigger ∷ kind.Word ∷ kind.Delete ∷ kind.On ∷ kind.Word ∷ kind.For ∷ kind.Each ∷ kind.Word ∷ kind.Begin ∷ kind.Select ∷ kind.Word ∷ kind.Semicolon ∷ kind.End ∷ [])
unfolding all_statement_rules count
each_statement = refl

-- CREATE TRIGGER a DELETE ON b BEGIN END
no_command : WrongAt 7 (kind.Create ∷ kind.Trigger ∷ kind.Word ∷ kind.Delete ∷ kind.On ∷ kind.Word ∷ kind.Begin ∷ kind.End ∷ [])
unfolding all_statement_rules count
no_command = refl

-- CREATE TRIGGER a DELETE ON b BEGIN SELECT c END
a_command_without_an_end : WrongAt 9 (kind.Create ∷ kind.Trigger ∷ kind.Word ∷ kind.Delete ∷ kind.On ∷ kind.Word ∷ kind.Begin ∷ kind.Select ∷ kind.Word ∷ kind.End ∷ [])
unfolding all_statement_rules count
a_command_without_an_end = refl

-- CREATE TRIGGER a DELETE ON b BEGIN SELECT c;
a_trigger_without_end : WrongAt 10 (kind.Create ∷ kind.Trigger ∷ kind.Word ∷ kind.Delete ∷ kind.On ∷ kind.Word ∷ kind.Begin ∷ kind.Select ∷ kind.Word ∷ kind.Semicolon ∷ [])
unfolding all_statement_rules count
a_trigger_without_end = refl

-- CREATE TRIGGER a DELETE ON b BEGIN DROP TABLE c; END
a_definition_in_a_trigger : WrongAt 7 (kind.Create ∷ kind.Trigger ∷ kind.Word ∷ kind.Delete ∷ kind.On ∷ kind.Word ∷ kind.Begin ∷ kind.Drop ∷ kind.Table ∷ kind.Word ∷ kind.Semicolon ∷ kind.End ∷ [])
unfolding all_statement_rules count
a_definition_in_a_trigger = refl

-- CREATE VIRTUAL a USING b
virtual_without_table : WrongAt 2 (kind.Create ∷ kind.Virtual ∷ kind.Word ∷ kind.Using ∷ kind.Word ∷ [])
unfolding all_statement_rules count
virtual_without_table = refl

-- CREATE VIRTUAL TABLE a
virtual_without_module : WrongAt 4 (kind.Create ∷ kind.Virtual ∷ kind.Table ∷ kind.Word ∷ [])
unfolding all_statement_rules count
virtual_without_module = refl

-- CREATE VIRTUAL TABLE a USING b (c; d)
an_argument_with_a_semicolon : WrongAt 8 (kind.Create ∷ kind.Virtual ∷ kind.Table ∷ kind.Word ∷ kind.Using ∷ kind.Word ∷ kind.LeftParen ∷ kind.Word ∷ kind.Semicolon ∷ kind.Word ∷ kind.RightParen ∷ [])
unfolding all_statement_rules count
an_argument_with_a_semicolon = refl

-- CREATE VIRTUAL TABLE a USING b ((c)
an_argument_that_is_not_balanced : WrongAt 10 (kind.Create ∷ kind.Virtual ∷ kind.Table ∷ kind.Word ∷ kind.Using ∷ kind.Word ∷ kind.LeftParen ∷ kind.LeftParen ∷ kind.Word ∷ kind.RightParen ∷ [])
unfolding all_statement_rules count
an_argument_that_is_not_balanced = refl
