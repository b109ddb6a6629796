-- What `*` and `table.*` show is what the definition shows of it.
use Rattle.std.proofs.Common.{◌≡◌, ◌∙◌, ℕ, Bool, true, false, List, [], ◌∷◌, ◌++◌, filter, map, Ok, Err, ap, sym, refl, if◌then◌else◌}
use Rattle.std.specs.List.{flat_map, list_any}
use Rattle.eng_value.specs.declared.cause.Cause.TheVariants.{Unknown}
use Rattle.eng_value.specs.declared.cause.NameKind.TheVariants as kind
use Rattle.sql_words.specs.Refusals.{◌>>=◌}
use Rattle.sql_bound.specs.Refusals.{Checked}
use Rattle.sql_bound.specs.Results.{ShownResult, all_shown, column_shown, columns_of_item, shown_of}
use Rattle.sql_bound.specs.Scopes.{Level, is_called, is_shown}
use Rattle.sql_bound.specs.declared.scopes.ScopeColumn.{ScopeColumn}
use Rattle.sql_bound.specs.declared.scopes.ScopeItem.{ScopeItem}
use Rattle.bind_column.specs.Stars.{all_of, shown_in_item, shown_so, those_of}

pub all_shown-is : (level : Level) → all_shown level ≡ (all_of level >>= λ cs. Ok (map column_shown cs))
all_shown-is [] = refl
all_shown-is (item ∷ items) = refl

map-behind : (xs ys : List ScopeColumn) → map column_shown (xs ++ ys) ≡ map column_shown xs ++ map column_shown ys
map-behind [] ys = refl
map-behind (x ∷ xs) ys = ap (λ rest. column_shown x ∷ rest) (map-behind xs ys)

by_call : (called : Bool) (cs : List ScopeColumn) → (if called then map column_shown (filter is_shown cs) else []) ≡ map column_shown (if called then filter (shown_so true) cs else [])
by_call true cs = refl
by_call false cs = refl

items_shown : (name : List ℕ) (level : Level) → flat_map (columns_of_item name) level ≡ map column_shown (flat_map (shown_in_item name) level)
items_shown name [] = refl
items_shown name (item ∷ items) =
    ap (λ front. front ++ flat_map (columns_of_item name) items) (by_call (is_called name item.name) item.columns)
    ∙ ap (λ rest. map column_shown (shown_in_item name item) ++ rest) (items_shown name items)
    ∙ sym (map-behind (shown_in_item name item) (flat_map (shown_in_item name) items))

by_any : (any : Bool) (name : List ℕ) (shown : List ShownResult) (cs : List ScopeColumn) → shown ≡ map column_shown cs
    → (if any then Ok shown else Err (Unknown kind.Table name)) ≡ ((if any then Ok cs else Err (Unknown kind.Table name)) >>= λ all. Ok (map column_shown all))
by_any true name shown cs is = ap Ok is
by_any false name shown cs is = refl

pub shown_of-is : (name : List ℕ) (level : Level) → shown_of name level ≡ (those_of name level >>= λ cs. Ok (map column_shown cs))
shown_of-is name level =
    by_any (list_any (λ (item : ScopeItem). is_called name item.name) level) name (flat_map (columns_of_item name) level) (flat_map (shown_in_item name) level) (items_shown name level)
