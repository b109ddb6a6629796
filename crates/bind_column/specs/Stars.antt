-- What `*` and `table.*` show, as columns (all_shown and shown_of of Results.antt).
use Rattle.std.specs.Prelude.{ℕ, Bool, true, false, List, [], ◌∷◌, filter, Ok, Err, codes, if◌then◌else◌}
use Rattle.std.specs.List.{flat_map, list_any}
use Rattle.eng_value.specs.declared.cause.Cause.TheVariants.{Misuse, Unknown}
use Rattle.eng_value.specs.declared.cause.NameKind.TheVariants as kind
use Rattle.sql_bound.specs.Refusals.{Checked}
use Rattle.sql_bound.specs.Results.{is_shown_bare}
use Rattle.sql_bound.specs.Scopes.{Level, is_called, is_shown}
use Rattle.sql_bound.specs.declared.scopes.ScopeColumn.{ScopeColumn}
use Rattle.sql_bound.specs.declared.scopes.ScopeItem.{ScopeItem}

-- `table.*` shows columns that are joined, too
abbrev pub shown_so : Bool → ScopeColumn → Bool
shown_so true c = is_shown c
shown_so false c = is_shown_bare c

abbrev pub all_of : Level → Checked (List ScopeColumn)
all_of [] = Err (Misuse (codes "*"))
all_of (item ∷ items) = Ok (flat_map (λ (i : ScopeItem). filter (shown_so false) i.columns) (item ∷ items))

abbrev pub shown_in_item : List ℕ → ScopeItem → List ScopeColumn
shown_in_item name item = if is_called name item.name then filter (shown_so true) item.columns else []

abbrev pub those_of : List ℕ → Level → Checked (List ScopeColumn)
those_of name level =
    if list_any (λ (item : ScopeItem). is_called name item.name) level then Ok (flat_map (shown_in_item name) level) else Err (Unknown kind.Table name)
