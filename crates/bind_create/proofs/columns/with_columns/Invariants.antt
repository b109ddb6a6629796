use Rattle.std.proofs.Common.{◌≡◌, drop}
use Rattle.bind_create.specs.Meant.{creating_of, declaring_of}
use Rattle.sql_bound.specs.Creates.{in_turn, with_column}
use Rattle.bind_create.proofs.columns.with_columns.Given as goal

abbrev pub invariant-loop-column : goal.invariant-loop-column
invariant-loop-column l =
    in_turn (with_column (creating_of l.creating)) l.fn.columns (declaring_of l.fn.declaring)
    ≡ in_turn (with_column (creating_of l.creating)) (drop l.column-index l.columns) (declaring_of l.declaring)
