use Rattle.std.proofs.Common.{◌≡◌, drop}
use Rattle.bound_tree.specs.Seen.{seen}
use Rattle.sql_bound.specs.Groups.{is_key}
use Rattle.bind_column.proofs.groups.is_key.Given as goal

abbrev pub invariant-loop-key : goal.invariant-loop-key
invariant-loop-key l = is_key l.keys (seen l.tree) ≡ is_key (drop l.key-index l.keys) (seen l.tree)
