use Rattle.std.proofs.Common.{◌≡◌, ◌++◌, drop}
use Rattle.std.specs.List.{flat_map}
use Rattle.bound_actions.specs.Froms.{all_pieces}
use Rattle.bound_actions.proofs.queries.put_rows.Given as goal

abbrev pub invariant-loop-row : goal.invariant-loop-row
invariant-loop-row l = l.fn.out ++ flat_map (all_pieces l.units l.spot) l.rows ≡ l.out ++ flat_map (all_pieces l.units l.spot) (drop l.row-index l.rows)
