use Rattle.bound_ignored.specs.Erased.{marks_of}
use Rattle.bind_stmt.specs.Binds.{AreFrom}
use Rattle.bind_stmt.proofs.Froms.{Along}
use Rattle.bind_stmt.proofs.querying.from_tables.Given as goal

abbrev pub invariant-loop-item : goal.invariant-loop-item
invariant-loop-item l = Along l.tables l.items l.item-index (λ from. AreFrom (marks_of l.marks) from l.from)
