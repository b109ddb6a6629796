use Rattle.std.proofs.Common.{◌≡◌, drop, filter}
use Rattle.eng_entry.specs.Names.{is_same_name}
use Rattle.bind_scope.specs.Sights.{first}
use Rattle.bind_scope.proofs.names.declared_in.Given as goal

abbrev pub invariant-loop-column : goal.invariant-loop-column
invariant-loop-column l = first (filter (λ c. is_same_name c.name l.name) l.columns) ≡ first (filter (λ c. is_same_name c.name l.name) (drop l.column-index l.columns))
