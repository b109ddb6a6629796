-- Columns and constraints that are found one after another.
use Rattle.std.specs.Prelude.{ℕ, List, [], ◌∷◌, ◌++◌}
use Rattle.sql_tree.specs.declared.statement.ColumnDefinition.{ColumnDefinition}
use Rattle.sql_tree.specs.declared.statement.TableConstraint.{TableConstraint}
use Rattle.sql_tree.specs.declared.statement.TableDefinition.{TableDefinition}
use Rattle.sql_grammar.specs.Rules.{Outcome, Parser, alt, many, to, reads, Done, ◌>>=◌}
use Rattle.sql_grammar.specs.Grammar.{Name, Of}
use Rattle.sql_grammar.specs.Bodies.{rules}
use Rattle.sql_grammar.specs.Definitions.{Element, a_column, a_constraint, column, table_constraint, columns_in, constraints_in, next_constraint, more_elements}

-- these, and what is found from there on
abbrev pub with_elements : List ColumnDefinition → List TableConstraint → Outcome (List Element) → Outcome TableDefinition
with_elements columns constraints o = o >>= λ found c end. Done (record { columns = columns ++ columns_in found; constraints = constraints ++ constraints_in found }) c end

-- behind a constraint there are only constraints
unfoldable pub elements_behind : List TableConstraint → Of (List Element)
elements_behind [] = more_elements
elements_behind (c ∷ cs) = many next_constraint

-- what may stand behind a comma
unfoldable pub element_behind : List TableConstraint → Of Element
element_behind [] = alt (to a_column column) (to a_constraint table_constraint)
element_behind (c ∷ cs) = to a_constraint table_constraint

abbrev pub columns_with : List ColumnDefinition → Element → List ColumnDefinition
columns_with columns (a_column x) = columns ++ x ∷ []
columns_with columns (a_constraint x) = columns

abbrev pub constraints_with : List TableConstraint → Element → List TableConstraint
constraints_with constraints (a_column x) = constraints
constraints_with constraints (a_constraint x) = constraints ++ x ∷ []

-- an element behind a comma, and what is found from there on
unfoldable pub behind_comma : List ColumnDefinition → List TableConstraint → ℕ → Parser TableDefinition
behind_comma columns constraints d c ts = reads Name rules d (element_behind constraints) c ts >>= λ a e rest.
    with_elements (columns_with columns a) (constraints_with constraints a) (reads Name rules d (elements_behind (constraints_with constraints a)) e rest)
