use Rattle.std.proofs.Common.{◌≡◌, drop}
use Rattle.sql_bound.specs.Declarations.{rowid_of_constraints}
use Rattle.bind_entry.proofs.rowids.rowid_of_constraints.Given as goal

abbrev pub invariant-loop-constraint : goal.invariant-loop-constraint
invariant-loop-constraint l =
    rowid_of_constraints l.text l.columns l.constraints ≡ rowid_of_constraints l.text l.columns (drop l.constraint-index l.constraints)
