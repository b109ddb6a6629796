-- A catalog as lists of entries.
use Rattle.std.specs.Prelude.{ℕ, Bool, true, false, not, ◌&&◌, List, [], ◌∷◌, ◌++◌, filter, Option}
use Rattle.std.specs.List.{IsDistinct, find}
use Rattle.eng_entry.specs.declared.entry.Entry.{Entry}
use Rattle.eng_entry.specs.declared.entry.EntryKind.{EntryKind}
use Rattle.eng_entry.specs.declared.entry.EntryKind.TheVariants as entry_kind
use Rattle.eng_entry.specs.declared.entry.Space.{Space}
use Rattle.eng_entry.specs.declared.entry.Space.TheVariants as space
use Rattle.eng_entry.specs.Names.{is_same_name}
use Rattle.eng_entry.specs.Spaces.{space_of}

-- ---- the entries of one space, oldest first

-- the entry has this name
abbrev pub is_named : List ℕ → Entry → Bool
is_named name e = is_same_name e.name name

-- the entry of this name
abbrev pub entry_named : List ℕ → List Entry → Option Entry
entry_named name entries = find (is_named name) entries

-- the entries of other names
abbrev pub entries_not_named : List ℕ → List Entry → List Entry
entries_not_named name entries = filter (λ e. not (is_named name e)) entries

-- no two entries have one name
abbrev pub HaveDistinctNames : List Entry → Type 0
HaveDistinctNames entries = IsDistinct (λ (a b : Entry). is_same_name a.name b.name) entries

-- ---- a catalog

-- the entries of each space, oldest first
pub record Entries : Type 0 where
  pub names : List Entry
  pub triggers : List Entry

abbrev pub no_entries : Entries
no_entries = record { names = []; triggers = [] }

abbrev pub entries_in : Space → Entries → List Entry
entries_in space.Names c = c.names
entries_in space.Triggers c = c.triggers

abbrev pub with_entries : Space → List Entry → Entries → Entries
with_entries space.Names entries c = record c { names = entries }
with_entries space.Triggers entries c = record c { triggers = entries }

-- behind the others of its space
abbrev pub with_entry : Entry → Entries → Entries
with_entry e c = with_entries (space_of e.kind) (entries_in (space_of e.kind) c ++ e ∷ []) c

-- the others stay in their order
abbrev pub without_name : Space → List ℕ → Entries → Entries
without_name s name c = with_entries s (entries_not_named name (entries_in s c)) c

-- ---- the indexes of a table

abbrev pub is_index : EntryKind → Bool
is_index entry_kind.Index = true
is_index other = false

-- the entry is that of an index on the table of this name
abbrev pub is_index_on : List ℕ → Entry → Bool
is_index_on table e = is_index e.kind && is_same_name e.owner table

abbrev pub entries_not_on : List ℕ → List Entry → List Entry
entries_not_on table entries = filter (λ e. not (is_index_on table e)) entries

-- the others stay in their order
abbrev pub without_indexes : List ℕ → Entries → Entries
without_indexes table c = with_entries space.Names (entries_not_on table c.names) c
