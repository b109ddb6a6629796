-- Where a cursor comes to.
use Rattle.std.specs.Prelude.{ℕ, ℤ, Bool, true, false, List, [], ◌∷◌, Some, None, is_some, slice_get}
use Rattle.std.specs.declared.option.Option.{Option}
use Rattle.eng_value.specs.StoredRows.{StoredRow}
use Rattle.eng_value.specs.declared.out.Out.{Out}
use Rattle.eng_value.specs.declared.out.Out.TheVariants.{Good}
use Rattle.eng_value.specs.declared.value.Value.TheVariants.{Null, Integer}
use Rattle.vm_code.specs.Machine.{World, Cursor, Closed, Open, Chosen, Holding, Standing, Sorted, rows_of, row_behind, row_under}
use Rattle.vm_store.specs.Cursors.{has_chosen, on_chosen}
use Rattle.vm_tables.specs.Rows.{on_row}

abbrev pub table_of : Cursor → Option ℕ
table_of Closed = None
table_of (Open table place) = Some table
table_of (Chosen table rowid rest) = Some table
table_of (Holding rows) = None
table_of (Standing row rest) = None
table_of (Sorted rows) = None

-- what the rowid of a row reads, and NULL where there is no row
abbrev pub rowid_read : Option ℤ → Out
rowid_read None = Good Null
rowid_read (Some rowid) = Good (Integer rowid)

-- on the first row of its table, or on none
abbrev pub on_first : World → Cursor → Cursor
on_first w Closed = Closed
on_first w (Open table place) = Open table (on_row (slice_get (rows_of w table) 0))
on_first w (Chosen table rowid rest) = Open table (on_row (slice_get (rows_of w table) 0))
on_first w (Holding rows) = Holding rows
on_first w (Standing row rest) = Standing row rest
on_first w (Sorted rows) = Sorted rows

-- its table has a row
abbrev pub has_first : World → Cursor → Bool
has_first w Closed = false
has_first w (Open table place) = is_some (slice_get (rows_of w table) 0)
has_first w (Chosen table rowid rest) = is_some (slice_get (rows_of w table) 0)
has_first w (Holding rows) = false
has_first w (Standing row rest) = false
has_first w (Sorted rows) = false

-- on the row behind its own, or on none
abbrev pub on_next : World → Cursor → Cursor
on_next w Closed = Closed
on_next w (Open table None) = Open table None
on_next w (Open table (Some rowid)) = Open table (on_row (row_behind (rows_of w table) rowid))
on_next w (Chosen table rowid rest) = on_chosen table rest
on_next w (Holding rows) = Holding rows
on_next w (Standing row []) = Closed
on_next w (Standing row (next ∷ rest)) = Standing next rest
on_next w (Sorted rows) = Sorted rows

-- there is a row behind its own
abbrev pub has_next : World → Cursor → Bool
has_next w Closed = false
has_next w (Open table None) = false
has_next w (Open table (Some rowid)) = is_some (row_behind (rows_of w table) rowid)
has_next w (Chosen table rowid rest) = has_chosen (Chosen table rowid rest)
has_next w (Holding rows) = false
has_next w (Standing row []) = false
has_next w (Standing row (next ∷ rest)) = true
has_next w (Sorted rows) = false

-- a rowid, where one of the rows has it
abbrev pub rowid_sought : List StoredRow → Option ℤ → Option ℤ
rowid_sought rows None = None
rowid_sought rows (Some rowid) = on_row (row_under rows rowid)

-- on the row of its table that has the rowid, or on none
abbrev pub on_sought : World → Cursor → Option ℤ → Cursor
on_sought w Closed rowid = Closed
on_sought w (Open table place) rowid = Open table (rowid_sought (rows_of w table) rowid)
on_sought w (Chosen table place rest) rowid = Open table (rowid_sought (rows_of w table) rowid)
on_sought w (Holding rows) rowid = Holding rows
on_sought w (Standing row rest) rowid = Standing row rest
on_sought w (Sorted rows) rowid = Sorted rows
