use Rattle.std.proofs.Common.{◌≡◌, take}
use Rattle.sql_meaning.specs.Running.{index_terms}
use Rattle.bind_stmt.proofs.keys.index_terms.Given as goal

abbrev pub invariant-loop-index : goal.invariant-loop-index
invariant-loop-index l = l.keys ≡ index_terms l.rowid (take l.index-index l.indexes)
