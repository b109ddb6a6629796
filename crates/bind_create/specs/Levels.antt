-- Columns so far, as the names in front of the next one.
use Rattle.std.specs.Prelude.{ℕ, List, map, reverse}
use Rattle.sql_bound.specs.declared.scopes.ScopeColumn.{ScopeColumn}

-- the latest first
abbrev pub names_of : List ScopeColumn → List (List ℕ)
names_of columns = reverse (map (λ (c : ScopeColumn). c.name) columns)
