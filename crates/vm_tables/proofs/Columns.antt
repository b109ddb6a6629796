-- The columns of a cursor's row by the values of the row.
use Rattle.std.proofs.Common.{◌≡◌, ℕ, zero, suc, List, [], ◌∷◌, map, Some, None, refl, ap, sym, subst}
use Rattle.std.specs.Prelude.{slice_index_or}
use Rattle.std.specs.declared.option.Option.{Option}
use Rattle.eng_record.specs.Lent.{IsOther, Lends}
use Rattle.eng_record.specs.declared.columns.Lent.{Lent}
use Rattle.eng_record.specs.declared.columns.Lent.TheVariants as lent
use Rattle.eng_value.specs.Environments.{column_of, null_row}
use Rattle.eng_value.specs.StoredRows.{StoredRow}
use Rattle.eng_value.specs.declared.out.Out.TheVariants.{Good}
use Rattle.eng_value.specs.declared.value.Value.{Value}
use Rattle.eng_value.specs.declared.value.Value.TheVariants.{Null, Integer, Text, Blob}
use Rattle.vm_code.specs.Machine.{row_read}
use Rattle.vm_tables.specs.Rows.{LendsColumn, values_of}

good_reads : (values : List Value) (k : ℕ) → slice_index_or (map Good values) k (Good Null) ≡ Good (slice_index_or values k Null)
good_reads [] zero = refl
good_reads [] (suc k) = refl
good_reads (v ∷ values) zero = refl
good_reads (v ∷ values) (suc k) = good_reads values k

pub null_reads : (k : ℕ) → column_of null_row k ≡ Good Null
null_reads zero = refl
null_reads (suc k) = refl

pub row_reads : (row : Option StoredRow) (k : ℕ) → column_of (row_read row) k ≡ Good (slice_index_or (values_of row) k Null)
row_reads None k = good_reads [] k
row_reads (Some r) k = good_reads r.values k

pub other_null : (k : ℕ) → LendsColumn lent.Other (column_of null_row k)
other_null k = subst (LendsColumn lent.Other) (sym (null_reads k)) (refl, refl)

other_good : (v : Value) → IsOther v → LendsColumn lent.Other (Good v)
other_good Null other = (refl, refl)
other_good (Integer n) other = absurd other
other_good (Text text) other = absurd other
other_good (Blob bytes) other = (refl, refl)

lends_good : (l : Lent) (v : Value) → Lends l v → LendsColumn l (Good v)
lends_good (lent.Integer n) v e = ap Good e
lends_good (lent.Text text) v e = ap Good e
lends_good lent.Other v other = other_good v other

-- what is lent of a value of a row is lent of the row's column
pub lends_column : (l : Lent) (row : Option StoredRow) (k : ℕ) → Lends l (slice_index_or (values_of row) k Null) → LendsColumn l (column_of (row_read row) k)
lends_column l row k h = subst (LendsColumn l) (sym (row_reads row k)) (lends_good l (slice_index_or (values_of row) k Null) h)
