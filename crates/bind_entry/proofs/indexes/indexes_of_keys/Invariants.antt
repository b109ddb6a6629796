use Rattle.std.proofs.Common.{◌≡◌, ◌+◌, ◌++◌, drop}
use Rattle.sql_bound.specs.Declarations.{indexes_of_keys}
use Rattle.bind_entry.proofs.indexes.indexes_of_keys.Given as goal

abbrev pub invariant-loop-parts : goal.invariant-loop-parts
invariant-loop-parts l = indexes_of_keys l.entry 1 l.keys ≡ l.indexes ++ indexes_of_keys l.entry l.number (drop l.parts-index l.keys)
