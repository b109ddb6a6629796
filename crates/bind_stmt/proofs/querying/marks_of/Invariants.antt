use Rattle.std.proofs.Common.{◌≡◌}
use Rattle.bound_ignored.specs.Erased.{marks_of}
use Rattle.sql_meaning.specs.Searches.{marks_in}
use Rattle.bind_stmt.proofs.Froms.{Along}
use Rattle.bind_stmt.proofs.querying.marks_of.Given as goal

abbrev pub invariant-loop-item : goal.invariant-loop-item
invariant-loop-item l = Along l.tables l.items l.item-index (λ from. marks_of l.marks ≡ marks_in from)
