-- An aggregate's kind is all that its value goes by.
use Rattle.std.specs.Prelude.{true, false, []}
use Rattle.bound_tree.specs.declared.units.AggregateKind.{AggregateKind}
use Rattle.sql_bound.specs.Callees.{Aggregator}

-- an aggregate of this kind, whatever its name and the numbers of arguments that it takes
abbrev pub of_kind : AggregateKind → Aggregator
of_kind kind = record { name = []; kind = kind; takes_count = λ n. true; takes_star = false }
