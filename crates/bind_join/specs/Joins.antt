-- Which columns a join counts, as plain data.
use Rattle.std.specs.Prelude.{ℕ, Bool, not, ◌&&◌, List}
use Rattle.std.specs.List.{list_any}
use Rattle.bind_join.specs.declared.joins.Counts.{Counts}
use Rattle.bind_join.specs.declared.joins.Counts.TheVariants as counts
use Rattle.eng_entry.specs.Names.{is_same_name}
use Rattle.sql_bound.specs.Froms.{is_any}
use Rattle.sql_bound.specs.Scopes.{is_shown}
use Rattle.sql_bound.specs.declared.scopes.ScopeColumn.{ScopeColumn}

abbrev pub counted : Counts → ScopeColumn → Bool
counted counts.All = is_any
counted counts.ShownOnly = is_shown

-- a column that is joined by this name: of the left, where it is not joined yet
abbrev pub is_joinable : Counts → List ℕ → ScopeColumn → Bool
is_joinable which name = λ (c : ScopeColumn). is_same_name c.name name && not c.joined && counted which c
