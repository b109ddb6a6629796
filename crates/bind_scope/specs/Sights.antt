-- What a name may mean in a FROM, told without a list: the first column that it may mean, and whether there is another one that counts.
use Rattle.std.specs.Prelude.{ℕ, Bool, true, false, not, ◌&&◌, ◌||◌, List, [], ◌∷◌, Option, Some, None, Ok, Err}
use Rattle.eng_entry.specs.Names.{is_same_name}
use Rattle.eng_value.specs.declared.cause.Cause.TheVariants.{Ambiguous}
use Rattle.sql_bound.specs.Refusals.{Checked}
use Rattle.sql_bound.specs.Scopes.{bare_in, called_in, is_called, name_of_ambiguous}
use Rattle.sql_bound.specs.declared.scopes.ScopeColumn.{ScopeColumn}
use Rattle.sql_bound.specs.declared.scopes.ScopeItem.{ScopeItem}
use Rattle.sql_bound.specs.declared.scopes.Sight.{Sight}

-- in an item, alone or behind the name of its table
abbrev pub candidates : Option (List ℕ) → List ℕ → ScopeItem → List ScopeColumn
candidates None name = bare_in name
candidates (Some table) name = called_in table name

-- whether its columns may be called so
abbrev pub is_open : Option (List ℕ) → ScopeItem → Bool
is_open None item = item.bare
is_open (Some table) item = is_called table item.name

-- whether it may be this column of the item
abbrev pub is_meant : Option (List ℕ) → List ℕ → ScopeColumn → Bool
is_meant None name c = is_same_name c.name name && not c.joined
is_meant (Some table) name c = is_same_name c.name name

abbrev pub first : List ScopeColumn → Option ScopeColumn
first [] = None
first (c ∷ cs) = Some c

-- whether one more counts, behind one or behind none: of columns that USING joins the first one
abbrev pub another : Bool → List ScopeColumn → Bool
another one [] = false
another false (c ∷ cs) = another true cs
another true (c ∷ cs) = not c.joined || another true cs

-- a column that is found, with others that count or without
abbrev pub sight_of : List ℕ → ℕ → ScopeColumn → Bool → Checked (Option Sight)
sight_of name up c false = Ok (Some (record { up = up; column = c }))
sight_of name up c true = Err (Ambiguous (name_of_ambiguous name c))

abbrev pub sighted : List ℕ → ℕ → Option ScopeColumn → Bool → Checked (Option Sight) → Checked (Option Sight)
sighted name up None others further = further
sighted name up (Some c) others further = sight_of name up c others
