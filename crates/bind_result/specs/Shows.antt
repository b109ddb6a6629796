-- Results that are put behind others (with_result, column_result and columns_result of Results.antt, for what binds nothing).
use Rattle.std.specs.Prelude.{◌≡◌, ◌⊎◌, ℕ, Bool, List, [], ◌∷◌, ◌++◌, map, Result, Ok, Err}
use Rattle.eng_value.specs.declared.cause.Cause.{Cause}
use Rattle.eng_value.specs.declared.cause.Cause.TheVariants.{Mem}
use Rattle.sql_words.specs.Refusals.{◌>>=◌}
use Rattle.bound_tree.specs.declared.units.BoundKey.{BoundKey}
use Rattle.sql_bound.specs.Groups.{grouped_checked}
use Rattle.sql_bound.specs.Limits.{room_behind}
use Rattle.sql_bound.specs.Operands.{column_operand}
use Rattle.sql_bound.specs.Refusals.{Checked}
use Rattle.sql_bound.specs.Results.{ShownResult, column_shown, result_column, with_result}
use Rattle.sql_bound.specs.Scopes.{Level}
use Rattle.sql_bound.specs.declared.queries.Shown.{Shown}
use Rattle.sql_bound.specs.declared.scopes.Operand.{Operand}
use Rattle.sql_bound.specs.declared.scopes.ScopeColumn.{ScopeColumn}

-- what is changed becomes what is meant
abbrev pub Changes : {S : Type 0} → Checked S → Result (Unit {0}) Cause → S → Type 0
Changes meant (Ok done) new = meant ≡ Ok new
Changes meant (Err why) new = (why ≡ Mem) ⊎ (meant ≡ Err why)

-- under a name
abbrev pub shown_as : List ℕ → Operand → Shown → Shown
shown_as name a shown = record { trees = shown.trees ++ a.tree ∷ []; columns = shown.columns ++ result_column name a ∷ [] }

-- a result that is bound
abbrev pub one_put : Bool → List BoundKey → Level → ShownResult → Operand → Shown → Checked Shown
one_put grouped keys own r a shown = grouped_checked grouped keys own a.tree >>= λ u. Ok (with_result r a shown)

-- columns that a star shows
abbrev pub column_put : Bool → List BoundKey → Level → ScopeColumn → Shown → Checked Shown
column_put grouped keys own c shown = room_behind shown.trees >>= λ u. one_put grouped keys own (column_shown c) (column_operand c c.tree) shown

abbrev pub columns_put : Bool → List BoundKey → Level → List ScopeColumn → Shown → Checked Shown
columns_put grouped keys own [] shown = Ok shown
columns_put grouped keys own (c ∷ cs) shown = column_put grouped keys own c shown >>= λ next. columns_put grouped keys own cs next

-- those of a star, unless it is refused
abbrev pub star_put : Bool → List BoundKey → Level → Checked (List ScopeColumn) → Shown → Checked Shown
star_put grouped keys own columns shown = columns >>= λ cs. columns_put grouped keys own cs shown
