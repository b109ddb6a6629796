use Rattle.std.proofs.Common.{◌≡◌, drop}
use Rattle.bind_create.specs.Meant.{creating_of, declaring_of}
use Rattle.sql_bound.specs.Creates.{in_turn, with_table_constraint}
use Rattle.bind_create.proofs.columns.with_table_constraints.Given as goal

abbrev pub invariant-loop-constraint : goal.invariant-loop-constraint
invariant-loop-constraint l =
    in_turn (with_table_constraint (creating_of l.creating)) l.fn.constraints (declaring_of l.fn.declaring)
    ≡ in_turn (with_table_constraint (creating_of l.creating)) (drop l.constraint-index l.constraints) (declaring_of l.declaring)
