use Rattle.std.proofs.Common.{◌≡◌, length}
use Rattle.eng_entry.specs.Entries.{entries_not_on}
use Rattle.eng_catalog.proofs.entry_map.EntryMap.drop_indexes.Given as goal

abbrev pub invariant-loop-place : goal.invariant-loop-place
invariant-loop-place l = entries_not_on l.table l.self ≡ entries_not_on l.table l.initial.self

abbrev pub decreases-loop-place : goal.decreases-loop-place
decreases-loop-place l = length l.self
