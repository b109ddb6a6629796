-- A table, a view, and a trigger of the table's name.
use Rattle.std.specs.Prelude.{◌≡◌, ℕ, List, [], ◌∷◌, codes, Some, None, refl}
use Rattle.sql_tree.specs.declared.statement.Statement.{Statement}
use Rattle.eng_entry.specs.declared.entry.Entry.{Entry}
use Rattle.eng_entry.specs.declared.entry.EntryKind.{EntryKind}
use Rattle.eng_entry.specs.declared.entry.EntryKind.TheVariants as kind
use Rattle.eng_entry.specs.declared.entry.Space.TheVariants as space
use Rattle.eng_entry.specs.Entries.{Entries, entries_in, entry_named, no_entries, with_entry, without_name}

module _ (def : Statement) where
  abbrev entry : EntryKind → List ℕ → Entry
  entry k name = record { kind = k; name = name; owner = []; number = 1; text = []; def = def }

  abbrev orders : Entry
  orders = entry kind.Table (codes "Orders")

  abbrev sums : Entry
  sums = entry kind.View (codes "sums")

  abbrev guard : Entry
  guard = entry kind.Trigger (codes "orders")

  abbrev three : Entries
  three = with_entry guard (with_entry sums (with_entry orders no_entries))

  spaces_apart : three ≡ record { names = orders ∷ sums ∷ []; triggers = guard ∷ [] }
  spaces_apart = refl

  found_without_case : entry_named (codes "SUMS") (entries_in space.Names three) ≡ Some sums
  found_without_case = refl

  no_trigger : entry_named (codes "sums") (entries_in space.Triggers three) ≡ None
  no_trigger = refl

  a_trigger_stays : without_name space.Names (codes "ORDERS") three ≡ record { names = sums ∷ []; triggers = guard ∷ [] }
  a_trigger_stays = refl
