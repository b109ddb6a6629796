use Rattle.std.proofs.Common.{◌≡◌, ◌++◌, drop}
use Rattle.std.specs.List.{flat_map}
use Rattle.bound_tree.specs.declared.units.BoundKey.{BoundKey}
use Rattle.bound_actions.specs.Expressions.{pieces_of}
use Rattle.bound_actions.proofs.queries.put_keys.Given as goal

abbrev pub invariant-loop-key : goal.invariant-loop-key
invariant-loop-key l = l.fn.out ++ flat_map (λ (k : BoundKey). pieces_of l.units l.spot k.expr) l.keys ≡ l.out ++ flat_map (λ (k : BoundKey). pieces_of l.units l.spot k.expr) (drop l.key-index l.keys)
