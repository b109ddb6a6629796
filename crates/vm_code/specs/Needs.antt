-- Whether what is needed of cursors is so, by a test.
use Rattle.std.specs.Prelude.{ℕ, Bool, true, false, ◌&&◌, ◌||◌, nat_eq}
use Rattle.std.specs.List.{list_any}
use Rattle.vm_code.specs.declared.open_cursor.CursorKind.{CursorKind}
use Rattle.vm_code.specs.declared.open_cursor.CursorKind.TheVariants.{Row, Sorter, Table}
use Rattle.vm_code.specs.declared.open_cursor.Need.{Need}
use Rattle.vm_code.specs.declared.open_cursor.Need.TheVariants as need
use Rattle.vm_code.specs.declared.open_cursor.OpenCursor.{OpenCursor}
use Rattle.vm_code.specs.Track.{OpenSet}

abbrev pub is_kind : CursorKind → CursorKind → Bool
is_kind Table Table = true
is_kind Row Row = true
is_kind Sorter Sorter = true
is_kind kind other = false

-- a cursor is the one of a number, and open on what is of this kind
abbrev pub is_this : CursorKind → ℕ → OpenCursor → Bool
is_this kind c x = nat_eq x.cursor c && is_kind x.kind kind

-- one of these is
abbrev pub is_on : CursorKind → ℕ → OpenSet → Bool
is_on kind c xs = list_any (is_this kind c) xs

abbrev pub meets : OpenSet → Need → Bool
meets xs (need.Open c) = is_on Table c xs || is_on Row c xs || is_on Sorter c xs
meets xs (need.Table c) = is_on Table c xs
meets xs (need.Rows c) = is_on Table c xs || is_on Row c xs
meets xs (need.Sorter c) = is_on Sorter c xs
