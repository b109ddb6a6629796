-- What is declared of tables, where an entry comes into the catalog and goes.
use Rattle.std.proofs.Common.{◌≡◌, ◌++◌, ℕ, List, [], ◌∷◌, Some, None, sym, ap, ◌∙◌}
use Rattle.std.specs.List.{filter}
use Rattle.eng_entry.specs.Entries.{Entries, with_entry, without_name}
use Rattle.eng_entry.specs.Spaces.{space_of}
use Rattle.eng_entry.specs.declared.entry.Entry.{Entry}
use Rattle.eng_entry.specs.declared.entry.EntryKind.TheVariants as entry_kind
use Rattle.eng_entry.specs.declared.entry.Space.TheVariants as space
use Rattle.sql_meaning.proofs.TableLaws.{among-beside, among-others, among-push, is_other, with_entry-names}
use Rattle.sql_meaning.specs.Declarations.{table_of, tables_of}
use Rattle.sql_meaning.specs.declared.column.TableEntry.{TableEntry}

pub tables_with : (tables : List TableEntry) (c : Entries) (e : Entry) (t : TableEntry) → tables ≡ tables_of c → e.kind ≡ entry_kind.Table → table_of e ≡ Some t → tables ++ t ∷ [] ≡ tables_of (with_entry e c)
tables_with tables c e t are kind declared =
    ap (λ ts. ts ++ t ∷ []) are ∙ sym (among-push c.names e t declared) ∙ ap tables_of (sym (with_entry-names e c (ap space_of kind)))

pub tables_without : (tables : List TableEntry) (c : Entries) (name : List ℕ) → tables ≡ tables_of c → filter (is_other name) tables ≡ tables_of (without_name space.Names name c)
tables_without tables c name are = ap (filter (is_other name)) are ∙ sym (among-others name c.names)

-- an index is no table
pub tables_beside : (tables : List TableEntry) (c : Entries) (e : Entry) → tables ≡ tables_of c → e.kind ≡ entry_kind.Index → table_of e ≡ None → tables ≡ tables_of (with_entry e c)
tables_beside tables c e are kind none = are ∙ sym (among-beside c.names e none) ∙ ap tables_of (sym (with_entry-names e c (ap space_of kind)))

pub triggers_with : (c : Entries) (e : Entry) → space_of e.kind ≡ space.Names → c.triggers ≡ [] → (with_entry e c).triggers ≡ []
triggers_with c e kind none = ap (λ (k : Entries). k.triggers) (with_entry-names e c kind) ∙ none
