-- The grammar of CREATE, as rules with the trees that they make.
use Rattle.std.specs.Prelude.{Bool, true, false, List, [], ◌∷◌, Option, Some, None}
use Rattle.sql_tree.specs.declared.expr.Expr.{Expr}
use Rattle.sql_tree.specs.declared.expr.Expr.TheVariants as e
use Rattle.sql_tree.specs.declared.expr.SignedNumber.{SignedNumber}
use Rattle.sql_tree.specs.declared.statement.ColumnConstraint.{ColumnConstraint}
use Rattle.sql_tree.specs.declared.statement.ColumnConstraint.TheVariants as column_rule
use Rattle.sql_tree.specs.declared.statement.ColumnDefinition.{ColumnDefinition}
use Rattle.sql_tree.specs.declared.statement.Create.{Create}
use Rattle.sql_tree.specs.declared.statement.Definition.{Definition}
use Rattle.sql_tree.specs.declared.statement.Definition.TheVariants as definition
use Rattle.sql_tree.specs.declared.statement.IndexedColumn.{IndexedColumn}
use Rattle.sql_tree.specs.declared.statement.RowCommand.{RowCommand}
use Rattle.sql_tree.specs.declared.statement.TableConstraint.{TableConstraint}
use Rattle.sql_tree.specs.declared.statement.TableConstraint.TheVariants as table_rule
use Rattle.sql_tree.specs.declared.statement.TableDefinition.{TableDefinition}
use Rattle.sql_tree.specs.declared.statement.TriggerDefinition.{TriggerDefinition}
use Rattle.sql_tree.specs.declared.statement.TriggerEvent.{TriggerEvent}
use Rattle.sql_tree.specs.declared.statement.TriggerEvent.TheVariants as event
use Rattle.sql_tree.specs.declared.statement.TriggerTime.{TriggerTime}
use Rattle.sql_tree.specs.declared.statement.TriggerTime.TheVariants as time
use Rattle.sql_tree.specs.declared.statement.VirtualTableDefinition.{VirtualTableDefinition}
use Rattle.sql_tree.specs.declared.token.Span.{Span}
use Rattle.sql_tree.specs.declared.token.Token.{Token}
use Rattle.sql_tree.specs.declared.token.TokenKind.TheVariants as kind
use Rattle.sql_grammar.specs.declared.counts.Role.TheVariants as role
use Rattle.sql_grammar.specs.Kinds.{argument_kinds}
use Rattle.sql_grammar.specs.Rules.{tok, pure, seq, alt, many, until, to, over}
use Rattle.sql_grammar.specs.Grammar.{Of, maybe, after, list_of, in_brackets, or_none, span_of, name, sign_op, signed, type_name, expression, columns, key_columns, index_columns, module_arguments, balanced, expr}
use Rattle.sql_grammar.specs.Queries.{given, column_names, direction, query}
use Rattle.sql_grammar.specs.Writes.{row_command, all_row_rules}

-- ---- constraints of a column

-- "(" expr ")"
unfoldable pub in_expression : Of Expr
in_expression = in_brackets expression

-- CHECK "(" expr ")"
unfoldable pub check : Of Expr
check = after role.Outside kind.Check in_expression

abbrev pub signed_literal : SignedNumber → Option Token → Expr
signed_literal n None = e.Literal n.number
signed_literal n (Some t) = e.Unary (sign_op t.kind) (e.Literal n.number)

-- [+ | -] number | text | blob | NULL | TRUE | FALSE | "(" expr ")"
unfoldable pub default_value : Of Expr
default_value = alt (to e.Literal (tok role.Outside (kind.Text ∷ kind.Blob ∷ kind.Null ∷ kind.True ∷ kind.False ∷ []))) (alt in_expression (to (λ n. signed_literal n n.sign) signed))

-- PRIMARY KEY
unfoldable pub primary_key : Of Token
primary_key = after role.Outside kind.Primary (tok role.Outside (kind.Key ∷ []))

-- PRIMARY KEY [ASC]
unfoldable pub column_key : Of ColumnConstraint
column_key = to (λ p. column_rule.PrimaryKey) (seq primary_key (given (tok role.Outside (kind.Asc ∷ []))))

-- NOT NULL
unfoldable pub not_null : Of ColumnConstraint
not_null = to (λ t. column_rule.NotNull) (after role.Outside kind.Not (tok role.Outside (kind.Null ∷ [])))

-- NULL
unfoldable pub null : Of ColumnConstraint
null = to (λ t. column_rule.Null) (tok role.Outside (kind.Null ∷ []))

-- UNIQUE
unfoldable pub unique_column : Of ColumnConstraint
unique_column = to (λ t. column_rule.Unique) (tok role.Outside (kind.Unique ∷ []))

-- COLLATE name
unfoldable pub collate : Of Token
collate = after role.Outside kind.Collate name

unfoldable pub column_rule_of : Of ColumnConstraint
column_rule_of = alt column_key (alt not_null (alt null (alt unique_column (alt (to column_rule.Check check) (alt (to column_rule.Default (after role.Outside kind.Default default_value)) (to column_rule.Collate collate))))))

-- [CONSTRAINT name]
unfoldable pub constraint_name : Of (Option Token)
constraint_name = maybe (after role.Outside kind.Constraint name)

unfoldable pub column_constraint : Of ColumnConstraint
column_constraint = to (λ p. p.1) (seq constraint_name column_rule_of)

-- name [type] {column constraint}
unfoldable pub column : Of ColumnDefinition
column = to (λ p. record { name = p.0; type_name = p.1.0; constraints = p.1.1 }) (seq name (seq (maybe type_name) (many column_constraint)))

-- ---- keys

-- name [COLLATE name] [ASC]
unfoldable pub key_column : Of IndexedColumn
key_column = to (λ p. record { name = p.0; collation = p.1.0; descending = false }) (seq name (seq (maybe collate) (given (tok role.Outside (kind.Asc ∷ [])))))

-- name [COLLATE name] [ASC | DESC]
unfoldable pub index_column : Of IndexedColumn
index_column = to (λ p. record { name = p.0; collation = p.1.0; descending = p.1.1 }) (seq name (seq (maybe collate) direction))

unfoldable pub all_key_columns : Of (List IndexedColumn)
all_key_columns = list_of key_column

unfoldable pub all_index_columns : Of (List IndexedColumn)
all_index_columns = list_of index_column

-- "(" key column {"," key column} ")"
unfoldable pub in_key : Of (List IndexedColumn)
in_key = in_brackets key_columns

-- ---- CREATE TABLE

-- PRIMARY KEY "(" .. ")" | UNIQUE "(" .. ")" | CHECK "(" expr ")"
unfoldable pub table_rule_of : Of TableConstraint
table_rule_of = alt (to (λ p. table_rule.PrimaryKey p.1) (seq primary_key in_key)) (alt (to table_rule.Unique (after role.Outside kind.Unique in_key)) (to table_rule.Check check))

-- [CONSTRAINT name] ..
unfoldable pub table_constraint : Of TableConstraint
table_constraint = to (λ p. p.1) (seq constraint_name table_rule_of)

-- what stands between the commas of CREATE TABLE
pub data Element : Type 0 where
  a_column : ColumnDefinition → Element
  a_constraint : TableConstraint → Element

abbrev pub is_constraint : Element → Bool
is_constraint (a_column c) = false
is_constraint (a_constraint c) = true

-- "," and a column or a constraint
unfoldable pub next_element : Of Element
next_element = after role.Outside kind.Comma (alt (to a_column column) (to a_constraint table_constraint))

-- "," and a constraint
unfoldable pub next_constraint : Of Element
next_constraint = after role.Outside kind.Comma (to a_constraint table_constraint)

-- columns, and then constraints
unfoldable pub more_elements : Of (List Element)
more_elements = until next_element is_constraint next_constraint

abbrev pub columns_in : List Element → List ColumnDefinition
columns_in [] = []
columns_in (a_column c ∷ more) = c ∷ columns_in more
columns_in (a_constraint c ∷ more) = columns_in more

abbrev pub constraints_in : List Element → List TableConstraint
constraints_in [] = []
constraints_in (a_column c ∷ more) = constraints_in more
constraints_in (a_constraint c ∷ more) = c ∷ constraints_in more

-- column {"," column} {"," table constraint}
unfoldable pub all_columns : Of TableDefinition
all_columns = to (λ p. record { columns = p.0 ∷ columns_in p.1; constraints = constraints_in p.1 }) (seq column more_elements)

-- [IF NOT EXISTS]
unfoldable pub if_not_exists : Of Bool
if_not_exists = given (after role.Outside kind.If (after role.Outside kind.Not (tok role.Outside (kind.Exists ∷ []))))

abbrev pub Header : Type 0
Header = Bool × Token

-- [IF NOT EXISTS] name
unfoldable pub header : Of Header
header = seq if_not_exists name

abbrev pub Named : Type 0
Named = Header × Definition

-- TABLE [IF NOT EXISTS] name "(" .. ")"
unfoldable pub create_table : Of Named
create_table = to (λ p. (p.0, definition.Table p.1)) (after role.Outside kind.Table (seq header (in_brackets columns)))

-- ---- CREATE INDEX and CREATE VIEW

-- ON name "(" .. ")"
unfoldable pub indexed : Of (Token × List IndexedColumn)
indexed = after role.Outside kind.On (seq name (in_brackets index_columns))

-- [UNIQUE] INDEX [IF NOT EXISTS] name ON name "(" .. ")"
unfoldable pub create_index : Of Named
create_index = to (λ p. (p.1.0, definition.Index (record { unique = p.0; table = p.1.1.0; columns = p.1.1.1 })))
    (seq (given (tok role.Outside (kind.Unique ∷ []))) (after role.Outside kind.Index (seq header indexed)))

-- VIEW [IF NOT EXISTS] name ["(" name {"," name} ")"] AS query
unfoldable pub create_view : Of Named
create_view = to (λ p. (p.0, definition.View (record { columns = p.1.0; query = p.1.1 }))) (after role.Outside kind.View (seq header (seq column_names (after role.Outside kind.As query))))

-- ---- CREATE TRIGGER

-- INSTEAD OF
unfoldable pub instead_of : Of TriggerTime
instead_of = to (λ t. time.InsteadOf) (after role.Outside kind.Instead (tok role.Outside (kind.Of ∷ [])))

-- [BEFORE | AFTER | INSTEAD OF]
unfoldable pub trigger_time : Of TriggerTime
trigger_time = alt (to (λ t. time.Before) (tok role.Outside (kind.Before ∷ []))) (alt (to (λ t. time.After) (tok role.Outside (kind.After ∷ []))) (alt instead_of (pure time.Before)))

-- name {"," name}
unfoldable pub all_names : Of (List Token)
all_names = list_of name

-- [OF name {"," name}]
unfoldable pub of_columns : Of (List Token)
of_columns = to or_none (maybe (after role.Outside kind.Of all_names))

-- DELETE | INSERT | UPDATE [OF name {"," name}]
unfoldable pub trigger_event : Of TriggerEvent
trigger_event = alt (to (λ t. event.Delete) (tok role.Outside (kind.Delete ∷ []))) (alt (to (λ t. event.Insert) (tok role.Outside (kind.Insert ∷ []))) (to event.Update (after role.Outside kind.Update of_columns)))

-- [FOR EACH ROW]
unfoldable pub for_each_row : Of Bool
for_each_row = given (after role.Outside kind.For (after role.Outside kind.Each (tok role.Outside (kind.Row ∷ []))))

-- [WHEN expr]
unfoldable pub when : Of (Option Expr)
when = maybe (after role.Outside kind.When expr)

-- command ";"
unfoldable pub body_command : Of RowCommand
body_command = to (λ p. p.0) (seq row_command (tok role.Fresh (kind.Semicolon ∷ [])))

-- command ";" {command ";"}
unfoldable pub body_commands : Of (List RowCommand)
body_commands = to (λ p. p.0 ∷ p.1) (seq body_command (many body_command))

-- BEGIN command ";" {command ";"} END
unfoldable pub trigger_body : Of (List RowCommand)
trigger_body = to (λ p. p.0) (seq (after role.Fresh kind.Begin body_commands) (tok role.Outside (kind.End ∷ [])))

unfoldable pub trigger_parts : Of TriggerDefinition
trigger_parts = to (λ p. record { time = p.0; event = p.1.0; table = p.1.1.0; condition = p.1.1.1.1.0; body = p.1.1.1.1.1 })
    (seq trigger_time (seq trigger_event (seq (after role.Outside kind.On name) (seq for_each_row (seq when trigger_body)))))

-- TRIGGER [IF NOT EXISTS] name ..
unfoldable pub create_trigger : Of Named
create_trigger = to (λ p. (p.0, definition.Trigger p.1)) (after role.Outside kind.Trigger (seq header trigger_parts))

-- ---- CREATE VIRTUAL TABLE

-- tokens other than a comma, or anything in parentheses
unfoldable pub argument_piece : Of (Unit {0})
argument_piece = alt (to (λ t. tt) (tok role.Outside argument_kinds)) (in_brackets balanced)

-- within parentheses a comma cuts nothing
unfoldable pub inner_piece : Of (Unit {0})
inner_piece = alt argument_piece (to (λ t. tt) (tok role.Outside (kind.Comma ∷ [])))

unfoldable pub inner_pieces : Of (Unit {0})
inner_pieces = to (λ x. tt) (many inner_piece)

abbrev pub text_of : List Token → Option Span
text_of [] = None
text_of (t ∷ ts) = Some (span_of (t ∷ ts))

-- an argument, which may be empty
unfoldable pub module_argument : Of (Option Span)
module_argument = over (λ pieces ts. text_of ts) (many argument_piece)

-- nothing between the parentheses is no argument
abbrev pub arguments_of : Option Span × List (Option Span) → List (Option Span)
arguments_of (None, []) = []
arguments_of (None, a ∷ more) = None ∷ a ∷ more
arguments_of (Some a, more) = Some a ∷ more

unfoldable pub all_module_arguments : Of (List (Option Span))
all_module_arguments = to arguments_of (seq module_argument (many (after role.Outside kind.Comma module_argument)))

-- USING name ["(" .. ")"]
unfoldable pub using_module : Of VirtualTableDefinition
using_module = to (λ p. record { module_name = p.0; arguments = p.1 }) (after role.Outside kind.Using (seq name (to or_none (maybe (in_brackets module_arguments)))))

-- VIRTUAL TABLE [IF NOT EXISTS] name USING name ["(" .. ")"]
unfoldable pub create_virtual_table : Of Named
create_virtual_table = to (λ p. (p.0, definition.VirtualTable p.1)) (after role.Outside kind.Virtual (after role.Outside kind.Table (seq header using_module)))

-- ---- CREATE

unfoldable pub named_definition : Of Named
named_definition = alt create_table (alt create_index (alt create_view (alt create_trigger create_virtual_table)))

abbrev pub created : Named → List Token → Create
created p ts = record { if_not_exists = p.0.0; name = p.0.1; definition = p.1; text = span_of ts }

unfoldable pub create : Of Create
create = over created (after role.Outside kind.Create named_definition)

-- opens every rule of CREATE where a proof computes with them
unfoldable pub all_definition_rules : Unit {0}
unfolding all_row_rules in_expression check default_value primary_key column_key not_null null unique_column collate column_rule_of constraint_name column_constraint column key_column index_column all_key_columns all_index_columns in_key table_rule_of table_constraint next_element next_constraint more_elements all_columns if_not_exists header create_table indexed create_index create_view instead_of trigger_time all_names of_columns trigger_event for_each_row when body_command body_commands trigger_body trigger_parts create_trigger argument_piece inner_piece inner_pieces module_argument all_module_arguments using_module create_virtual_table named_definition create
all_definition_rules = tt
