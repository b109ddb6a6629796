-- Rows of VALUES, one by one (values_bound and rows_behind of Compounds.antt, for what binds nothing).
use Rattle.std.specs.Prelude.{◌≡◌, List, [], ◌∷◌, ◌++◌, map, length, Ok, codes, refl}
use Rattle.sql_words.specs.Refusals.{◌>>=◌}
use Rattle.bound_tree.specs.declared.units.BoundPart.TheVariants.{Values}
use Rattle.sql_bound.specs.Compounds.{trees_in, values_columns, values_given, width_fits}
use Rattle.sql_bound.specs.Refusals.{Checked}
use Rattle.sql_bound.specs.declared.scopes.Operand.{Operand}
use Rattle.sql_bound.specs.declared.scopes.ResultColumn.{ResultColumn}

-- as wide as the first one
abbrev pub row_fits : List (List Operand) → List Operand → Checked (Unit {0})
row_fits [] row = Ok tt
row_fits (first ∷ more) row = width_fits (codes "VALUES") (length first) (length row)

abbrev pub row_put : List (List Operand) → List Operand → Checked (List (List Operand))
row_put rows row = row_fits rows row >>= λ u. Ok (rows ++ row ∷ [])

-- the columns of the first row
abbrev pub columns_of_rows : List (List Operand) → List ResultColumn
columns_of_rows [] = []
columns_of_rows (row ∷ rows) = values_columns 1 row

pub values_given-is : (rows : List (List Operand)) → values_given rows ≡ record { part = Values (map trees_in rows); columns = columns_of_rows rows }
values_given-is [] = refl
values_given-is (row ∷ rows) = refl
