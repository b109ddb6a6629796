use Rattle.std.proofs.Common.{◌≡◌, ◌++◌, take}
use Rattle.std.specs.List.{flat_map}
use Rattle.sql_bound.specs.Declarations.{own_key}
use Rattle.bind_entry.proofs.keys.put_keys_of_column.Given as goal

abbrev pub invariant-loop-constraint : goal.invariant-loop-constraint
invariant-loop-constraint l = l.keys ≡ l.fn.keys ++ flat_map (own_key l.rowid l.columns l.place) (take l.constraint-index l.constraints)
