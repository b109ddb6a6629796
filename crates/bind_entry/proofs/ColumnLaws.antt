-- Of several words for a column the last counts.
use Rattle.std.proofs.Common.{◌≡◌, ℕ, List, [], ◌∷◌, Option, Some, None, refl, ap, sym}
use Rattle.eng_value.specs.declared.collation.Collation.{Collation}
use Rattle.sql_tree.specs.declared.expr.Expr.{Expr}
use Rattle.sql_tree.specs.declared.statement.ColumnConstraint.{ColumnConstraint}
use Rattle.sql_tree.specs.declared.statement.ColumnConstraint.TheVariants as column_constraint
use Rattle.sql_tree.specs.declared.statement.ColumnDefinition.{ColumnDefinition}
use Rattle.sql_tree.specs.declared.statement.TableConstraint.{TableConstraint}
use Rattle.sql_tree.specs.declared.statement.TableConstraint.TheVariants as table_constraint
use Rattle.sql_words.specs.Refusals.{or_else}
use Rattle.sql_bound.specs.Declarations.{collate_of, default_of, rowid_of_constraints}
use Rattle.sql_bound.specs.Scopes.{Facts}

or_else-or_else : {X : Type 0} (a b c : Option X) → or_else (or_else a b) c ≡ or_else a (or_else b c)
or_else-or_else None b c = refl
or_else-or_else (Some a) b c = refl

pub or_else-None : {X : Type 0} (a : Option X) → or_else a None ≡ a
or_else-None None = refl
or_else-None (Some a) = refl

pub collate-next : (facts : Facts) (text : List ℕ) (c : ColumnConstraint) (rest : List ColumnConstraint) (found : Option Collation)
    → or_else (collate_of facts text (c ∷ rest)) found ≡ or_else (collate_of facts text rest) (or_else (collate_of facts text (c ∷ [])) found)
collate-next facts text (column_constraint.Collate t) rest found = or_else-or_else (collate_of facts text rest) _ found
collate-next facts text column_constraint.PrimaryKey rest found = refl
collate-next facts text column_constraint.NotNull rest found = refl
collate-next facts text column_constraint.Null rest found = refl
collate-next facts text column_constraint.Unique rest found = refl
collate-next facts text (column_constraint.Check x) rest found = refl
collate-next facts text (column_constraint.Default x) rest found = refl

pub default-next : (c : ColumnConstraint) (rest : List ColumnConstraint) (found : Option Expr)
    → or_else (default_of (c ∷ rest)) found ≡ or_else (default_of rest) (or_else (default_of (c ∷ [])) found)
default-next (column_constraint.Default x) rest found = or_else-or_else (default_of rest) (Some x) found
default-next column_constraint.PrimaryKey rest found = refl
default-next column_constraint.NotNull rest found = refl
default-next column_constraint.Null rest found = refl
default-next column_constraint.Unique rest found = refl
default-next (column_constraint.Check x) rest found = refl
default-next (column_constraint.Collate t) rest found = refl

pub rowid-next : (text : List ℕ) (columns : List ColumnDefinition) (c : TableConstraint) (rest : List TableConstraint)
    → rowid_of_constraints text columns (c ∷ rest) ≡ or_else (rowid_of_constraints text columns (c ∷ [])) (rowid_of_constraints text columns rest)
rowid-next text columns (table_constraint.PrimaryKey key) rest = ap (λ p. or_else p (rowid_of_constraints text columns rest)) (sym (or_else-None _))
rowid-next text columns (table_constraint.Unique key) rest = refl
rowid-next text columns (table_constraint.Check x) rest = refl

pub ruleset or_steps = (or_else-None, collate-next, default-next, rowid-next)
