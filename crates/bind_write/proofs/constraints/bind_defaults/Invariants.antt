use Rattle.std.proofs.Common.{◌≡◌, map, drop}
use Rattle.bind_source.specs.Arounds.{around_of}
use Rattle.bind_write.specs.Turns.{in_turn}
use Rattle.sql_bound.specs.Declarations.{DeclaredColumn, declared_column}
use Rattle.sql_bound.specs.HostFacts.{facts_of}
use Rattle.sql_bound.specs.Targets.{default_bound, defaults_bound}
use Rattle.bind_write.proofs.constraints.bind_defaults.Given as goal

abbrev pub invariant-loop-column : goal.invariant-loop-column
invariant-loop-column l =
    defaults_bound (around_of l.catalog l.facts) l.text (map (declared_column (facts_of l.facts) l.text) l.columns) l.fn.work
    ≡ in_turn (λ (c : DeclaredColumn). default_bound (around_of l.catalog l.facts) l.text c.default) (map (declared_column (facts_of l.facts) l.text) (drop l.column-index l.columns)) l.defaults l.work
