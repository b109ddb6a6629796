use Rattle.std.proofs.Common.{◌≡◌, drop}
use Rattle.std.specs.List.{list_any}
use Rattle.bind_with.specs.Recursive.{named_by}
use Rattle.bind_with.proofs.naming.is_named.Given as goal

abbrev pub invariant-loop-item : goal.invariant-loop-item
invariant-loop-item l = list_any (named_by l.text l.called) l.from ≡ list_any (named_by l.text l.called) (drop l.item-index l.from)
