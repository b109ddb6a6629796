-- What is read of a table's rows.
use Rattle.std.specs.Prelude.{◌≡◌, ℤ, [], Some, None}
use Rattle.std.specs.Option.{option_map}
use Rattle.std.specs.declared.option.Option.{Option}
use Rattle.eng_record.specs.declared.columns.Lent.{Lent}
use Rattle.eng_record.specs.declared.columns.Lent.TheVariants as lent
use Rattle.eng_value.specs.StoredRows.{StoredRow}
use Rattle.eng_value.specs.declared.out.Out.{Out}
use Rattle.eng_value.specs.declared.out.Out.TheVariants.{Good}
use Rattle.eng_value.specs.declared.value.Value.TheVariants.{Integer, Text}
use Rattle.vm_code.specs.Machine.{Row}
use Rattle.vm_store.specs.Held.{held_integer, held_text}

-- a row's rowid, if there is a row
abbrev pub on_row : Option StoredRow → Option ℤ
on_row row = option_map (λ (r : StoredRow). r.rowid) row

-- the values of a row; none where there is no row
abbrev pub values_of : Option StoredRow → Row
values_of None = []
values_of (Some r) = r.values

-- of a column an integer is lent and a text is, and nothing else
abbrev pub LendsColumn : Lent → Out → Type 0
LendsColumn (lent.Integer n) out = out ≡ Good (Integer n)
LendsColumn (lent.Text text) out = out ≡ Good (Text text.now)
LendsColumn lent.Other out = (held_integer out ≡ None) × (held_text out ≡ None)
