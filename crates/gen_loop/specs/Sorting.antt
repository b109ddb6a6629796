-- The rows of a plan in a sorter, and what puts them into it and walks them.
use Rattle.std.specs.Prelude.{◌≡◌, ℕ, zero, suc, ◌+◌, List, [], ◌∷◌, ◌++◌, false, length, map, slice_index_or, None}
use Rattle.std.specs.List.{range_with_len}
use Rattle.eng_index.specs.declared.key_term.KeyTerm.{KeyTerm}
use Rattle.eng_index.specs.declared.key_term.TermSource.TheVariants as source
use Rattle.eng_value.specs.Environments.{ItemRow, null_row}
use Rattle.eng_value.specs.declared.built.Built.TheVariants as built
use Rattle.eng_value.specs.declared.out.Out.{Out}
use Rattle.gen_loop.specs.Loops.{KeepsWritten, row_seen}
use Rattle.sql_meaning.specs.Products.{FromRow}
use Rattle.vm_code.specs.declared.op.Op.TheVariants as op
use Rattle.vm_code.specs.declared.open_cursor.Need.{Need}
use Rattle.vm_code.specs.Draft.{Draft, bound, released, taken, with_label, with_op}
use Rattle.vm_code.specs.Frames.{Does, Done, Effect, needing}
use Rattle.vm_code.specs.Machine.{added, row_of_outs}

-- ---- rows in a sorter

-- the rowids of the rows of so many items
abbrev pub rowids_of : ℕ → List ItemRow → List Out
rowids_of width rows = map (λ place. (slice_index_or rows place null_row).rowid) (range_with_len 0 width)

-- what stands for a row of a FROM of so many items: the rowids of their rows, and its causes
abbrev pub sorted_row : ℕ → FromRow → ItemRow
sorted_row width row = row_of_outs (rowids_of width row.rows ++ row.causes ∷ [])

-- the row that is seen is put into the sorter that was opened last
abbrev pub collect : ℕ → Effect
collect width sight causes x =
    Done (record x { store = record x.store { lists = added (sorted_row width (row_seen sight causes)) x.store.lists } })

-- ---- the order of a FROM

abbrev pub position_term : ℕ → KeyTerm
position_term place = record { source = source.Column place; collation = built.Binary; descending = false }

abbrev pub position_terms : ℕ → List KeyTerm
position_terms width = map position_term (range_with_len 0 width)

-- ---- a walk over a sorter

-- so many registers more
abbrev pub all_taken : Draft → ℕ → Draft
all_taken d zero = d
all_taken d (suc n) = taken (all_taken d n)

-- the first cursors go onto the rows of the rowids in registers from one on
abbrev pub sought_all : Draft → ℕ → ℕ → Draft
sought_all d first zero = d
sought_all d first (suc n) = with_op (sought_all d first n) (op.SeekRowid n (first + n))

-- the label behind all turns, and that of a turn
abbrev pub walk_end : Draft → ℕ
walk_end a = length a.labels

abbrev pub walk_top : Draft → ℕ
walk_top a = length (with_label a).labels

-- with its labels, a register for each item and one for the causes
abbrev pub with_row_taken : Draft → ℕ → Draft
with_row_taken a width = taken (all_taken (with_label (with_label a)) width)

-- in front of a turn
abbrev pub at_row_sorted : Draft → ℕ → Draft
at_row_sorted a width =
    bound (with_op (with_row_taken a width) (op.SorterSort width (position_terms width) (walk_end a))) (walk_top a)

-- where each cursor is on its row again
abbrev pub at_row_found : Draft → ℕ → Draft
at_row_found a width = sought_all (with_op (at_row_sorted a width) (op.SorterData width a.next (width + 1))) a.next width

-- behind all turns
abbrev pub walked : Draft → Draft → ℕ → Draft
walked a turn width = released (bound (with_op turn (op.SorterNext width (walk_top a))) (walk_end a)) a.next

-- a body at each row of a sorter, in the order of a FROM of so many items; the sorter's cursor has their number
pub record Walks (needs : List Need) (a b : Draft) (width lo : ℕ) (f : Effect) (most : ℕ) : Type 0 where
  pub turn : Draft
  pub does : Does (needing needs) (at_row_found a width) turn lo (a.next + width) None f (λ sight causes x. most)
  pub keeps : KeepsWritten f
  pub cursors : turn.cursors ≡ (at_row_found a width).cursors
  pub units : turn.units ≡ (at_row_found a width).units
  pub is : b ≡ walked a turn width
