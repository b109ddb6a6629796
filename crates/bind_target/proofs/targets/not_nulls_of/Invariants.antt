use Rattle.std.proofs.Common.{◌≡◌, map, take}
use Rattle.sql_bound.specs.Declarations.{DeclaredColumn, declared_column}
use Rattle.sql_bound.specs.HostFacts.{facts_of}
use Rattle.bind_target.proofs.targets.not_nulls_of.Given as goal

abbrev pub invariant-loop-column : goal.invariant-loop-column
invariant-loop-column l =
    l.made ≡ map (λ (c : DeclaredColumn). c.not_null) (map (declared_column (facts_of l.facts) l.text) (take l.column-index l.columns))
