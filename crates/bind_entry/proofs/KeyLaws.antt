-- Keys and indexes that are put one behind the other, and a table by its parts.
use Rattle.std.proofs.Common.{◌≡◌, ℕ, suc, ◌+◌, ◌<◌, List, [], ◌∷◌, ◌++◌, map, length, drop, get_or, Option, refl, ap, ◌∙◌, append_assoc, add-one}
use Rattle.std.specs.List.{flat_map}
use Rattle.std.specs.Option.{option_map, option_to_list}
use Rattle.std.proofs.lemmas.List.{at_drop_more}
use Rattle.bound_tree.specs.declared.units.BoundColumn.{BoundColumn}
use Rattle.bound_tree.specs.declared.units.IndexPart.{IndexPart}
use Rattle.sql_tree.specs.declared.statement.ColumnDefinition.{ColumnDefinition}
use Rattle.sql_tree.specs.declared.statement.IndexedColumn.{IndexedColumn}
use Rattle.sql_tree.specs.declared.statement.TableDefinition.{TableDefinition}
use Rattle.sql_words.specs.Spelled.{name_at}
use Rattle.sql_bound.specs.Declarations.{bound_columns, declared_column, declared_table, index_part, index_parts, own_key, own_keys, place_of_column, rowid_of, table_key}
use Rattle.sql_bound.specs.Scopes.{Facts}
use Rattle.bind_entry.specs.TableParts.{column_of, declared_parts}
use Rattle.bind_entry.specs.declared.tables.Declared.{Declared}

pub own_keys-step : (rowid : Option ℕ) (columns : List BoundColumn) (keys new : List (List IndexPart)) (ds : List ColumnDefinition) (i : ℕ) (d : ColumnDefinition) → i < length ds
    → new ≡ keys ++ flat_map (own_key rowid columns i) (get_or ds i d).constraints
    → keys ++ own_keys rowid columns i (drop i ds) ≡ new ++ own_keys rowid columns (i + 1) (drop (i + 1) ds)
own_keys-step rowid columns keys new ds i d within is =
    let next : own_keys rowid columns i (drop i ds) ≡ flat_map (own_key rowid columns i) (get_or ds i d).constraints ++ own_keys rowid columns (suc i) (drop (i + 1) ds) = at_drop_more (own_keys rowid columns i) ds i d within in
    rw (next, is, append_assoc, add-one) refl

pub parts-step : (facts : Facts) (text : List ℕ) (columns : List BoundColumn) (parts new : List IndexPart) (written : List IndexedColumn) (i : ℕ) (d : IndexedColumn) (found : Option IndexPart) → i < length written
    → found ≡ option_map (index_part facts text columns (get_or written i d)) (place_of_column columns (name_at text (get_or written i d).name))
    → new ≡ parts ++ option_to_list found
    → parts ++ index_parts facts text columns (drop i written) ≡ new ++ index_parts facts text columns (drop (i + 1) written)
parts-step facts text columns parts new written i d found within is made =
    let next : index_parts facts text columns (drop i written) ≡ option_to_list (option_map (index_part facts text columns (get_or written i d)) (place_of_column columns (name_at text (get_or written i d).name))) ++ index_parts facts text columns (drop (i + 1) written) = at_drop_more (index_parts facts text columns) written i d within in
    rw (next, made, is, append_assoc) refl

columns-are : (facts : Facts) (text : List ℕ) (ds : List ColumnDefinition) → map (column_of facts text) ds ≡ bound_columns (map (declared_column facts text) ds)
columns-are facts text [] = refl
columns-are facts text (d ∷ ds) = ap (λ cs. column_of facts text d ∷ cs) (columns-are facts text ds)

abbrev declared : List BoundColumn → Option ℕ → List (List IndexPart) → Declared
declared columns rowid keys = record { columns = columns; rowid = rowid; keys = keys }

declared-same : (cs ds : List BoundColumn) (r s : Option ℕ) (ks ls : List (List IndexPart)) → cs ≡ ds → r ≡ s → ks ≡ ls → declared cs r ks ≡ declared ds s ls
declared-same cs ds r s ks ls columns rowid keys = ap (λ c. declared c r ks) columns ∙ ap (λ p. declared ds p ks) rowid ∙ ap (λ k. declared ds s k) keys

pub declared-is : (facts : Facts) (text : List ℕ) (t : TableDefinition) (cs : List BoundColumn) (r : Option ℕ) (ks : List (List IndexPart))
    → cs ≡ map (column_of facts text) t.columns
    → r ≡ rowid_of text t
    → ks ≡ own_keys r cs 0 t.columns ++ flat_map (table_key facts text r cs) t.constraints
    → declared cs r ks ≡ declared_parts (declared_table facts text t)
declared-is facts text t cs r ks columns rowid keys =
    let all = bound_columns (map (declared_column facts text) t.columns) in
    let same : cs ≡ all = columns ∙ columns-are facts text t.columns in
    declared-same cs all r (rowid_of text t) ks _ same rowid (
    keys ∙ ap (λ (p : Option ℕ). own_keys p cs 0 t.columns ++ flat_map (table_key facts text p cs) t.constraints) rowid
    ∙ ap (λ (ds : List BoundColumn). own_keys (rowid_of text t) ds 0 t.columns ++ flat_map (table_key facts text (rowid_of text t) ds) t.constraints) same
    )
