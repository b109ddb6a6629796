use Rattle.std.proofs.Common.{◌≡◌, map, drop}
use Rattle.std.specs.List.{list_any}
use Rattle.sql_bound.specs.Targets.{is_same_column}
use Rattle.sql_words.specs.Spelled.{name_at}
use Rattle.bind_target.proofs.firing.one_is_set.Given as goal

abbrev pub invariant-loop-column : goal.invariant-loop-column
invariant-loop-column l =
    list_any (λ c. list_any (is_same_column l.s c) l.sets) (map (name_at l.text) l.columns)
    ≡ list_any (λ c. list_any (is_same_column l.s c) l.sets) (map (name_at l.text) (drop l.column-index l.columns))
