use Rattle.std.proofs.Common.{◌≡◌, Some, ◌∷◌, [], drop}
use Rattle.std.specs.List.{flat_map}
use Rattle.bind_source.specs.Arounds.{around_of}
use Rattle.bind_write.specs.Turns.{check_bound, in_turn}
use Rattle.sql_bound.specs.Declarations.{checks_of}
use Rattle.sql_bound.specs.Froms.{scope_item}
use Rattle.sql_tree.specs.declared.statement.ColumnDefinition.{ColumnDefinition}
use Rattle.bind_write.proofs.constraints.put_checks_of_columns.Given as goal

abbrev pub invariant-loop-column : goal.invariant-loop-column
invariant-loop-column l =
    in_turn (check_bound (around_of l.catalog l.facts) l.text (scope_item 0 (Some l.name) l.s ∷ [])) (flat_map (λ (d : ColumnDefinition). checks_of d.constraints) l.columns) l.fn.checks l.fn.work
    ≡ in_turn (check_bound (around_of l.catalog l.facts) l.text (scope_item 0 (Some l.name) l.s ∷ [])) (flat_map (λ (d : ColumnDefinition). checks_of d.constraints) (drop l.column-index l.columns)) l.checks l.work
