use Rattle.std.proofs.Common.{◌≡◌, Some, map, position}
use Rattle.std.specs.List.{range_with_len}
use Rattle.sql_bound.specs.Writes.{is_place}
use Rattle.bind_target.proofs.changes.places_of_values.Given as goal

abbrev pub invariant-loop-column : goal.invariant-loop-column
invariant-loop-column l = l.places ≡ map (λ k. position (is_place (Some k)) l.listed) (range_with_len 0 l.column)
