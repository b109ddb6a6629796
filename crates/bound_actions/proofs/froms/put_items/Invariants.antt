use Rattle.std.proofs.Common.{◌≡◌, ◌++◌, drop}
use Rattle.bound_actions.specs.Froms.{items_pieces}
use Rattle.bound_actions.proofs.froms.put_items.Given as goal

abbrev pub invariant-loop-place : goal.invariant-loop-place
invariant-loop-place l = l.fn.out ++ items_pieces l.units l.spot 0 l.items ≡ l.out ++ items_pieces l.units l.spot l.place (drop l.place l.items)
