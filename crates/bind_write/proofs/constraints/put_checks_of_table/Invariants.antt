use Rattle.std.proofs.Common.{◌≡◌, Some, ◌∷◌, [], drop}
use Rattle.bind_source.specs.Arounds.{around_of}
use Rattle.bind_write.specs.Turns.{check_bound, in_turn}
use Rattle.sql_bound.specs.Declarations.{table_checks}
use Rattle.sql_bound.specs.Froms.{scope_item}
use Rattle.bind_write.proofs.constraints.put_checks_of_table.Given as goal

abbrev pub invariant-loop-constraint : goal.invariant-loop-constraint
invariant-loop-constraint l =
    in_turn (check_bound (around_of l.catalog l.facts) l.text (scope_item 0 (Some l.name) l.s ∷ [])) (table_checks l.constraints) l.fn.checks l.fn.work
    ≡ in_turn (check_bound (around_of l.catalog l.facts) l.text (scope_item 0 (Some l.name) l.s ∷ [])) (table_checks (drop l.constraint-index l.constraints)) l.checks l.work
