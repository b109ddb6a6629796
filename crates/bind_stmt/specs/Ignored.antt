-- Whether an item of a FROM has a column that is ignored, or one that is the rowid.
use Rattle.std.specs.Prelude.{nat_eq, Bool, not, ◌||◌, List, is_some, length}
use Rattle.std.specs.List.{list_any}
use Rattle.bound_tree.specs.declared.units.BoundItem.{BoundItem}

abbrev pub is_marked : BoundItem → Bool
is_marked i = not (nat_eq (length i.ignored) 0) || is_some i.rowid

abbrev pub are_marked : List BoundItem → Bool
are_marked items = list_any is_marked items
