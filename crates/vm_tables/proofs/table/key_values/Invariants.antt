use Rattle.std.proofs.Common.{◌≡◌, take}
use Rattle.eng_index.specs.Keys.{key_values}
use Rattle.vm_tables.proofs.table.key_values.Given as goal

abbrev pub invariant-loop-term : goal.invariant-loop-term
invariant-loop-term l = l.values ≡ key_values (take l.term-index l.terms) l.row
