-- CREATE, DROP and transactions.
use Rattle.std.specs.Prelude.{◌≡◌, ℕ, true, false, List, [], ◌∷◌, Option, Some, None, Ok, Err, if◌then◌else◌, codes, refl}
use Rattle.eng_entry.specs.Names.{is_same_name}
use Rattle.eng_value.specs.declared.cause.Cause.TheVariants.{Exists, Misuse, Real, Reserved, Unknown}
use Rattle.eng_value.specs.declared.cause.Cause.TheVariants.{NotYet}
use Rattle.eng_value.specs.declared.cause.Cause.{Cause}
use Rattle.eng_value.specs.declared.cause.NameKind.TheVariants as kind
use Rattle.sql_grammar.specs.Answers.{Answer, Tree, Syntax, TooMuch}
use Rattle.sql_grammar.specs.Marks.{count}
use Rattle.sql_grammar.specs.Statements.{all_statement_rules}
use Rattle.sql_lex.specs.Pieces.{word_kind}
use Rattle.sql_lex.specs.Tokens.{tokens_of}
use Rattle.sql_tree.specs.declared.statement.Statement.{Statement}
use Rattle.sql_tree.specs.declared.statement.TableDefinition.{TableDefinition}
use Rattle.sql_tree.specs.declared.token.Token.{Token}
use Rattle.sql_words.specs.Spelled.{the_text_test}
use Rattle.sql_words.specs.Bodies.{answer_of}
use Rattle.bound_tree.specs.declared.statements.BoundCommand.TheVariants.{Nothing, Removed}
use Rattle.bound_tree.specs.declared.statements.BoundCommand.{BoundCommand}
use Rattle.bound_tree.specs.declared.statements.BoundStatement.{BoundStatement}
use Rattle.bound_tree.specs.declared.statements.ThingKind.TheVariants.{ATable, AView, AnIndex}
use Rattle.sql_bound.specs.Carriers.{Expression}
use Rattle.sql_bound.specs.Creates.{level_of}
use Rattle.sql_bound.specs.Declarations.{definition_in, table_in}
use Rattle.sql_bound.specs.Refusals.{Checked}
use Rattle.sql_bound.specs.Samples.{around_of, col, dot, no_facts, why}
use Rattle.sql_bound.specs.Scopes.{Around, Level, begun}
use Rattle.sql_bound.specs.Statements.{bound_of}
use Rattle.sql_bound.specs.Targets.{constraint_bound, in_check}

abbrev things : Around
things = around_of (codes "CREATE TABLE t(a, B)" ∷ codes "CREATE VIEW v AS SELECT 1" ∷ codes "CREATE INDEX i ON t(a)" ∷ []) (codes "CREATE TRIGGER g AFTER DELETE ON t BEGIN SELECT 1; END" ∷ [])

-- what is no statement is refused for nothing that is asked here
abbrev refusal_read : Around → List ℕ → Answer Statement → Option Cause
refusal_read around text (Tree s) = why (bound_of around text s)
refusal_read around text (Syntax rest) = Some NotYet
refusal_read around text (TooMuch l rest) = Some NotYet

abbrev refused : List ℕ → Option Cause
refused text = refusal_read things text (answer_of text)

-- ---- the name comes first; tables, views and indexes share one space, triggers have another

names : (refused (codes "CREATE TABLE sqlite_x(a, a)") ≡ Some (Reserved (codes "sqlite_x"))) × (refused (codes "CREATE TABLE V(a, a)") ≡ Some (Exists kind.View (codes "v"))) × (refused (codes "CREATE INDEX I ON nosuch(a)") ≡ Some (Exists kind.Index (codes "i"))) × (refused (codes "CREATE TABLE g(a)") ≡ None) × (refused (codes "CREATE TABLE IF NOT EXISTS t(a, a)") ≡ None)
unfolding all_statement_rules count tokens_of word_kind the_text_test
names = (refl, refl, refl, refl, refl)

-- ---- columns and constraints, from left to right

columns : (refused (codes "CREATE TABLE x(a, b REAL, A)") ≡ Some Real) × (refused (codes "CREATE TABLE x(a, b, A REAL)") ≡ Some (Exists kind.Column (codes "a"))) × (refused (codes "CREATE TABLE x(a COLLATE nosuch, a)") ≡ Some (Unknown kind.Collation (codes "nosuch"))) × (refused (codes "CREATE TABLE x(a PRIMARY KEY, b PRIMARY KEY)") ≡ Some (Misuse (codes "x"))) × (refused (codes "CREATE TABLE x(a PRIMARY KEY, PRIMARY KEY(nosuch))") ≡ Some (Misuse (codes "x"))) × (refused (codes "CREATE TABLE x(a, UNIQUE(b))") ≡ Some (Unknown kind.Column (codes "b")))
unfolding all_statement_rules count tokens_of word_kind the_text_test
columns = (refl, refl, refl, refl, refl, refl)

-- a CHECK in front of a second column of a name finds the first one
abbrev level_read : List ℕ → Answer Statement → Level
level_read text (Tree s) = level_in (table_in (definition_in s.command))
  where
    level_in : Option TableDefinition → Level
    level_in (Some t) = level_of no_facts text (codes "x") t
    level_in None = []
level_read text other = []

abbrev checked : List ℕ → (List Token → Expression) → Option Cause
checked text x = why (constraint_bound things text (level_read text (answer_of text)) in_check (x (tokens_of text)) (begun []))

before_a_double : (checked (codes "CREATE TABLE x(a, b, B)") (λ t. col t 6) ≡ None) × (checked (codes "CREATE TABLE x(a, b, B)") (λ t. dot t 2 8) ≡ None)
unfolding all_statement_rules count tokens_of word_kind the_text_test
before_a_double = (refl, refl)

-- ---- indexes and triggers on what they may stand on

indexes : (refused (codes "CREATE INDEX x ON v(a)") ≡ Some (Misuse (codes "v"))) × (refused (codes "CREATE INDEX x ON t(a, c)") ≡ Some (Unknown kind.Column (codes "c"))) × (refused (codes "CREATE INDEX x ON i(a)") ≡ Some (Unknown kind.Table (codes "i"))) × (refused (codes "CREATE INDEX x ON t(a, b DESC)") ≡ None)
unfolding all_statement_rules count tokens_of word_kind the_text_test
indexes = (refl, refl, refl, refl)

triggers : (refused (codes "CREATE TRIGGER x INSTEAD OF DELETE ON t BEGIN SELECT 1; END") ≡ Some (Misuse (codes "t"))) × (refused (codes "CREATE TRIGGER x AFTER DELETE ON v BEGIN SELECT 1; END") ≡ Some (Misuse (codes "v"))) × (refused (codes "CREATE TRIGGER x AFTER UPDATE OF c ON t BEGIN SELECT 1; END") ≡ Some (Unknown kind.Column (codes "c"))) × (refused (codes "CREATE TRIGGER G AFTER DELETE ON nosuch BEGIN SELECT 1; END") ≡ Some (Exists kind.Trigger (codes "g"))) × (refused (codes "CREATE TRIGGER x AFTER DELETE ON I BEGIN SELECT 1; END") ≡ Some (Unknown kind.Table (codes "I")))
unfolding all_statement_rules count tokens_of word_kind the_text_test
triggers = (refl, refl, refl, refl, refl)

-- a module is none of these, also where an index has its name
abbrev with_module : Around
with_module = record (around_of (codes "CREATE TABLE t(a)" ∷ codes "CREATE INDEX series ON t(a)" ∷ []) []) { facts = record no_facts { host_module = λ name. if is_same_name name (codes "series") then Some (true, false) else None } }

abbrev refused_beside : List ℕ → Option Cause
refused_beside text = refusal_read with_module text (answer_of text)

on_modules : (refused_beside (codes "CREATE INDEX x ON series(a)") ≡ Some (Misuse (codes "series"))) × (refused_beside (codes "CREATE TRIGGER x AFTER DELETE ON series BEGIN SELECT 1; END") ≡ Some (Misuse (codes "series")))
unfolding all_statement_rules count tokens_of word_kind the_text_test
on_modules = (refl, refl)

modules : refused (codes "CREATE VIRTUAL TABLE x USING nosuch(?)") ≡ Some (Unknown kind.Module (codes "nosuch"))
unfolding all_statement_rules count tokens_of word_kind the_text_test
modules = refl

-- ---- DROP takes a thing of the kind that is named

drops : (refused (codes "DROP TABLE v") ≡ Some (Unknown kind.Table (codes "v"))) × (refused (codes "DROP VIEW IF EXISTS t") ≡ None) × (refused (codes "DROP TRIGGER t") ≡ Some (Unknown kind.Trigger (codes "t")))
unfolding all_statement_rules count tokens_of word_kind the_text_test
drops = (refl, refl, refl)

-- what does nothing tells what it touches, by names as they are declared
abbrev command_read : List ℕ → Answer Statement → Option BoundCommand
command_read text (Tree s) = command_in (bound_of things text s)
  where
    command_in : Checked BoundStatement → Option BoundCommand
    command_in (Ok b) = Some b.command
    command_in (Err reason) = None
command_read text other = None

abbrev commanded : List ℕ → Option BoundCommand
commanded text = command_read text (answer_of text)

nothing_done : (commanded (codes "CREATE TABLE IF NOT EXISTS T(a)") ≡ Some (Nothing ATable (codes "t") [])) × (commanded (codes "CREATE INDEX IF NOT EXISTS I ON T(a)") ≡ Some (Nothing AnIndex (codes "i") (codes "t"))) × (commanded (codes "DROP VIEW IF EXISTS T") ≡ Some (Nothing AView (codes "t") [])) × (commanded (codes "DROP INDEX i") ≡ Some (Removed (record { kind = AnIndex; name = codes "i"; owner = codes "t" })))
unfolding all_statement_rules count tokens_of word_kind the_text_test
nothing_done = (refl, refl, refl, refl)

others : (refused (codes "RELEASE p") ≡ Some (Unknown kind.Savepoint (codes "p"))) × (refused (codes "PRAGMA foreign_keys=ON") ≡ Some (Unknown kind.Pragma (codes "foreign_keys"))) × (refused (codes "BEGIN") ≡ None)
unfolding all_statement_rules count tokens_of word_kind the_text_test
others = (refl, refl, refl)
