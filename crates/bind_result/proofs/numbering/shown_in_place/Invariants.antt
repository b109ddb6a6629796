use Rattle.std.proofs.Common.{◌≡◌, drop, map, slice_get}
use Rattle.std.specs.List.{flat_map}
use Rattle.sql_bound.specs.Trees.{of_result}
use Rattle.bind_result.specs.Numbers.{bindings_by}
use Rattle.bind_result.proofs.numbering.shown_in_place.Given as goal

abbrev pub invariant-loop-column : goal.invariant-loop-column
invariant-loop-column l =
    slice_get (flat_map (bindings_by l.text l.own) (map of_result l.results)) l.place
    ≡ slice_get (flat_map (bindings_by l.text l.own) (map of_result (drop l.column-index l.results))) l.left
