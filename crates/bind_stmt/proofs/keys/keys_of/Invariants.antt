use Rattle.std.proofs.Common.{◌≡◌, take}
use Rattle.sql_meaning.specs.Running.{keys_of}
use Rattle.bind_stmt.proofs.keys.keys_of.Given as goal

abbrev pub invariant-loop-index : goal.invariant-loop-index
invariant-loop-index l = l.keys ≡ keys_of l.rowid (take l.index-index l.indexes)
