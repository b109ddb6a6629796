-- Parts of rules that functions of their own parse.
use Rattle.std.specs.Prelude.{List, Option}
use Rattle.sql_tree.specs.declared.expr.TypeName.{TypeName}
use Rattle.sql_tree.specs.declared.statement.ColumnConstraint.{ColumnConstraint}
use Rattle.sql_tree.specs.declared.statement.IndexedColumn.{IndexedColumn}
use Rattle.sql_tree.specs.declared.statement.TableDefinition.{TableDefinition}
use Rattle.sql_tree.specs.declared.token.Token.{Token}
use Rattle.sql_tree.specs.declared.token.TokenKind.TheVariants as kind
use Rattle.sql_grammar.specs.declared.counts.Role.TheVariants as role
use Rattle.sql_grammar.specs.Rules.{many}
use Rattle.sql_grammar.specs.Grammar.{Of, maybe, after, in_brackets, name, type_name, columns, index_columns}
use Rattle.sql_grammar.specs.Definitions.{collate, column_constraint}

-- [type]
unfoldable pub column_type : Of (Option TypeName)
column_type = maybe type_name

-- {constraint}
unfoldable pub column_constraints : Of (List ColumnConstraint)
column_constraints = many column_constraint

-- [COLLATE name]
unfoldable pub key_collation : Of (Option Token)
key_collation = maybe collate

-- "(" column {"," column} ")" of an index
unfoldable pub in_index : Of (List IndexedColumn)
in_index = in_brackets index_columns

-- "(" column {"," column} {"," constraint} ")"
unfoldable pub in_columns : Of TableDefinition
in_columns = in_brackets columns

-- ON name
unfoldable pub on_table : Of Token
on_table = after role.Outside kind.On name
