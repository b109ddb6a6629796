use Rattle.std.proofs.Common.{◌≡◌, take}
use Rattle.eng_index.specs.Keys.{key_values}
use Rattle.eng_index.proofs.entry_keys.entry_values.Given as goal

abbrev pub invariant-loop-term : goal.invariant-loop-term
invariant-loop-term l = l.values.items ≡ key_values (take l.term-index l.terms) l.row
