use Rattle.std.proofs.Common.{◌≡◌, drop}
use Rattle.std.specs.List.{find}
use Rattle.eng_entry.specs.Names.{is_same_name}
use Rattle.bind_create.proofs.columns.is_new_column.Given as goal

abbrev pub invariant-loop-there : goal.invariant-loop-there
invariant-loop-there l = find (is_same_name l.name) l.names ≡ find (is_same_name l.name) (drop l.there-index l.names)
