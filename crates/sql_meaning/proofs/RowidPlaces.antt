-- The column that is the rowid is a column of its table, so that each row has a place for it.
use Rattle.std.proofs.Common.{◌≡◌, ◌<◌, ℕ, nat_le, Bool, true, false, List, [], ◌∷◌, ◌++◌, length, option_map, Option, Some, None, if◌then◌else◌, position, All, refl, sym, ap, ◌∙◌, subst}
use Rattle.std.specs.Bool.{⊤}
use Rattle.std.specs.Option.{option_to_list}
use Rattle.std.proofs.lemmas.List.{length-map}
use Rattle.std.proofs.lemmas.List.Elements.{All-cons, All-nil}
use Rattle.std.proofs.lemmas.List.Quantifiers.{position-Some}
use Rattle.std.proofs.lemmas.Slice.Zip.{AllZip-long}
use Rattle.eng_entry.specs.declared.entry.Entry.{Entry}
use Rattle.eng_value.specs.StoredRows.{StoredRow}
use Rattle.eng_value.specs.declared.limits.TheConstants.{MAX_COLUMNS}
use Rattle.sql_tree.specs.declared.statement.ColumnDefinition.{ColumnDefinition}
use Rattle.sql_tree.specs.declared.statement.IndexedColumn.{IndexedColumn}
use Rattle.sql_tree.specs.declared.statement.TableConstraint.TheVariants as table_constraint
use Rattle.sql_tree.specs.declared.statement.TableConstraint.{TableConstraint}
use Rattle.sql_tree.specs.declared.statement.TableDefinition.{TableDefinition}
use Rattle.sql_words.specs.Refusals.{or_else}
use Rattle.sql_words.specs.Spelled.{name_at}
use Rattle.sql_bound.specs.Declarations.{definition_in, is_own_rowid, is_rowid_called, rowid_of, rowid_of_constraints, rowid_of_key, table_in}
use Rattle.sql_meaning.specs.declared.column.Column.{Column}
use Rattle.sql_meaning.specs.declared.column.TableEntry.{TableEntry}
use Rattle.sql_meaning.specs.Declarations.{columns_created, columns_kept, columns_of, column_of, rowid_in, table_called, table_of, table_with, tables_among, tables_of}
use Rattle.sql_meaning.specs.Valid.{IsHeldBy, IsRowOf, IsTable, IsWorld}
use Rattle.sql_meaning.specs.World.{World, rows_at}
use Rattle.sql_meaning.proofs.TableLaws.{found-all}

-- a place, where there is one, is below a number
abbrev pub IsBelow : ℕ → Option ℕ → Type 0
IsBelow n None = ⊤
IsBelow n (Some place) = place < n

below-by : (n : ℕ) (o : Option ℕ) → ((place : ℕ) → o ≡ Some place → place < n) → IsBelow n o
below-by n None all = tt
below-by n (Some place) all = all place refl

or_else-below : (n : ℕ) (a b : Option ℕ) → IsBelow n a → IsBelow n b → IsBelow n (or_else a b)
or_else-below n None b first second = second
or_else-below n (Some place) b first second = first

position-below : {X : Type 0} (p : X → Bool) (xs : List X) → IsBelow (length xs) (position p xs)
position-below p [] = tt
position-below p (x ∷ xs) = below-by (length (x ∷ xs)) (position p (x ∷ xs)) (λ place is. (position-Some p (x ∷ xs) place x is).0)

-- ---- of a table that is defined

rowid_of_key-below : (text : List ℕ) (columns : List ColumnDefinition) (key : List IndexedColumn) → IsBelow (length columns) (rowid_of_key text columns key)
rowid_of_key-below text columns [] = tt
rowid_of_key-below text columns (c ∷ []) = position-below (is_rowid_called text (name_at text c.name)) columns
rowid_of_key-below text columns (c ∷ d ∷ key) = tt

rowid_of_constraints-below : (text : List ℕ) (columns : List ColumnDefinition) (constraints : List TableConstraint) → IsBelow (length columns) (rowid_of_constraints text columns constraints)
rowid_of_constraints-below text columns [] = tt
rowid_of_constraints-below text columns (table_constraint.PrimaryKey key ∷ rest) =
    or_else-below (length columns) (rowid_of_key text columns key) (rowid_of_constraints text columns rest) (rowid_of_key-below text columns key) (rowid_of_constraints-below text columns rest)
rowid_of_constraints-below text columns (table_constraint.Unique key ∷ rest) = rowid_of_constraints-below text columns rest
rowid_of_constraints-below text columns (table_constraint.Check x ∷ rest) = rowid_of_constraints-below text columns rest

rowid_of-below : (text : List ℕ) (t : TableDefinition) → IsBelow (length t.columns) (rowid_of text t)
rowid_of-below text t =
    or_else-below (length t.columns) (position (is_own_rowid text) t.columns) (rowid_of_constraints text t.columns t.constraints) (position-below (is_own_rowid text) t.columns) (rowid_of_constraints-below text t.columns t.constraints)

kept-same : (b : Bool) (made columns : List Column) → (if b then Some made else None) ≡ Some columns → made ≡ columns
kept-same true made columns e = cc
kept-same false made columns e = absurd (let bad : None ≡ Some columns = e in cc)

rowid_in-below : (text : List ℕ) (o : Option TableDefinition) (columns : List Column) → columns_kept (option_map (columns_of text) o) ≡ Some columns → IsBelow (length columns) (rowid_in text o)
rowid_in-below text None columns e = tt
rowid_in-below text (Some t) columns e =
    let made = kept-same (nat_le (length (columns_of text t)) MAX_COLUMNS) (columns_of text t) columns e in
    subst (λ n. IsBelow n (rowid_of text t)) (sym (length-map t.columns (column_of text)) ∙ ap length made) (rowid_of-below text t)

-- ---- of a table of the catalog

-- its column that is the rowid is one of its columns
abbrev pub IsKeyed : TableEntry → Type 0
IsKeyed t = IsBelow (length t.columns) t.rowid

table_of-keyed : (e : Entry) (t : TableEntry) → table_of e ≡ Some t → IsKeyed t
table_of-keyed e t is = by (columns_created e.text e.def.command) refl is
  where
    by : (o : Option (List Column)) → columns_created e.text e.def.command ≡ o → option_map (table_with e) o ≡ Some t → IsKeyed t
    by None at f = absurd (let bad : None ≡ Some t = f in cc)
    by (Some columns) at f =
        let same : table_with e columns ≡ t = cc in
        subst IsKeyed same (rowid_in-below e.text (table_in (definition_in e.def.command)) columns at)

among-keyed : (entries : List Entry) → All IsKeyed (tables_among entries)
among-keyed [] = All-nil IsKeyed
among-keyed (e ∷ entries) = by (table_of e) (λ t is. table_of-keyed e t is) (among-keyed entries)
  where
    by : (o : Option TableEntry) → ((t : TableEntry) → o ≡ Some t → IsKeyed t) → All IsKeyed (tables_among entries) → All IsKeyed (option_to_list o ++ tables_among entries)
    by None here rest = rest
    by (Some t) here rest = All-cons IsKeyed t (tables_among entries) (here t refl) rest

-- ---- of a row

-- a row has a value in the place of such a column
abbrev pub HasPlace : Option ℕ → StoredRow → Type 0
HasPlace column r = IsBelow (length r.values) column

row-place : (t : TableEntry) (r : StoredRow) → IsKeyed t → IsRowOf t r → HasPlace t.rowid r
row-place t r keyed row = subst (λ n. IsBelow n t.rowid) (sym (AllZip-long IsHeldBy t.columns r.values row.values)) keyed

-- in a valid world each row of a table has
pub found-places : (w : World) (t : TableEntry) → IsWorld w → table_called (tables_of w.catalog) t.name ≡ Some t → All (HasPlace t.rowid) (rows_at w.tables t.number)
found-places w t valid found =
    let keyed = found-all IsKeyed (tables_of w.catalog) t.name t (among-keyed w.catalog.names) found in
    let held = found-all (IsTable w.tables) (tables_of w.catalog) t.name t valid.tables found in
    λ k d within. row-place t _ keyed (held.rows.each k d within)
