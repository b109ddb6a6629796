use Rattle.std.proofs.Common.{◌≡◌, ◌++◌, drop}
use Rattle.sql_bound.specs.Declarations.{own_keys}
use Rattle.bind_entry.proofs.keys.own_keys.Given as goal

abbrev pub invariant-loop-definition : goal.invariant-loop-definition
invariant-loop-definition l =
    (l.place ≡ l.definition-index) × (own_keys l.rowid l.columns 0 l.definitions ≡ l.keys ++ own_keys l.rowid l.columns l.definition-index (drop l.definition-index l.definitions))
