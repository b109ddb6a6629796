-- Entries that are gathered row by row.
use Rattle.std.proofs.Common.{◌≡◌, ◌+◌, ◌<◌, List, [], ◌∷◌, ◌++◌, Some, None, Ok, Err, Option, Result, IfOk, ℤ, length, ap, ◌∙◌, subst, arith, length-append}
use Rattle.std.specs.declared.alloc.AllocError.{AllocError}
use Rattle.std.proofs.lemmas.List.{length-map}
use Rattle.eng_index.specs.Stored.{AreEntriesOf, Indexed, IsIndexOf, entry}
use Rattle.eng_value.specs.StoredRows.{StoredRow, IsAscending}
use Rattle.vm_code.specs.Machine.{row_behind, row_under}
use Rattle.vm_tables.specs.Rows.{on_row, values_of}
use Rattle.vm_tables.proofs.Stored.{Remains, goes, none_remain, one_more}

-- the entries are those of the rows that were gone over; behind them stand others, of which the first has this rowid
pub record AreGathered (all : List StoredRow) (gathered : Indexed) (next : Option ℤ) : Type 0 where
  pub done : List StoredRow
  pub entries : AreEntriesOf gathered done
  pub remains : Remains all done next

pub all_gathered : (all : List StoredRow) (gathered : Indexed) → AreGathered all gathered None → AreEntriesOf gathered all
all_gathered all gathered g = subst (AreEntriesOf gathered) (none_remain all g.done g.remains) g.entries

pub one_gathered : (all : List StoredRow) (gathered new : Indexed) (n : ℤ) (r : StoredRow) (next : Option ℤ) → IsAscending all → ((rows : List StoredRow) → AreEntriesOf gathered rows → AreEntriesOf new (rows ++ r ∷ [])) → r.rowid ≡ n → r.values ≡ values_of (row_under all n) → next ≡ on_row (row_behind all n) → AreGathered all gathered (Some n) → AreGathered all new next
one_gathered all gathered new n r next up push rowid values behind g = record {
  done = g.done ++ r ∷ [];
  entries = push g.done g.entries;
  remains = one_more all g.done n up g.remains r next rowid values behind;
}

-- so many were gathered
gathered_count : (gathered : Indexed) (rows : List StoredRow) → AreEntriesOf gathered rows → length gathered.pairs ≡ length rows
gathered_count gathered rows e = ap length e.entries ∙ length-map rows (entry gathered.terms)

pub more_remain : (all : List StoredRow) (gathered : Indexed) (n : ℤ) → AreGathered all gathered (Some n) → length gathered.pairs < length all
more_remain all gathered n g =
    let there = goes all g.done n g.remains in
    let count = gathered_count gathered g.done g.entries in
    let long = ap length there.parts ∙ length-append g.done (there.row ∷ there.rest) in
    omega arith

pub one_more_pair : (gathered new : Indexed) (r : StoredRow) (rows : List StoredRow) → AreEntriesOf gathered rows → AreEntriesOf new (rows ++ r ∷ []) → length new.pairs ≡ length gathered.pairs + 1
one_more_pair gathered new r rows old more =
    let before = gathered_count gathered rows old in
    let after = gathered_count new (rows ++ r ∷ []) more in
    let long = length-append rows (r ∷ []) in
    omega arith

-- whatever came of it
pub built_of : (built : Result Indexed AllocError) (all : List StoredRow) (gathered : Indexed) → IsAscending all → AreEntriesOf gathered all → IfOk built (λ index. (rows : List StoredRow) → IsAscending rows → AreEntriesOf gathered rows → IsIndexOf index rows) → IfOk built (λ index. IsIndexOf index all)
built_of (Ok index) all gathered up entries is = is all up entries
built_of (Err e) all gathered up entries is = is
