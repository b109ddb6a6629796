-- What names bring: a column of a FROM is one node, and so is what comes from further out, which is an argument.
use Rattle.std.specs.Prelude.{◌≤◌, List, [], ◌∷◌, Option, Some, None}
use Rattle.std.specs.Bool.{⊤}
use Rattle.std.specs.List.{AllByRecursion}
use Rattle.sql_bound.specs.Scopes.{Level}
use Rattle.sql_bound.specs.declared.scopes.ScopeColumn.{ScopeColumn}
use Rattle.sql_bound.specs.declared.scopes.ScopeItem.{ScopeItem}
use Rattle.bound_size.specs.Sizes.{nodes_of}

abbrev pub IsNode : ScopeColumn → Type 0
IsNode c = nodes_of c.tree ≤ 1

abbrev pub IsNodeIfThere : Option ScopeColumn → Type 0
IsNodeIfThere None = ⊤
IsNodeIfThere (Some c) = IsNode c

pub record BringsNodes (item : ScopeItem) : Type 0 where
  pub columns : AllByRecursion IsNode item.columns
  pub rowid : IsNodeIfThere item.rowid

-- of a FROM
abbrev pub AllBringNodes : Level → Type 0
AllBringNodes level = AllByRecursion BringsNodes level

-- the own FROM, if there is one
abbrev pub own_of : List Level → Level
own_of [] = []
own_of (own ∷ outer) = own
