use Rattle.std.proofs.Common.{◌≡◌, ◌++◌, ◌∷◌, drop}
use Rattle.std.specs.List.{flat_map}
use Rattle.sql_meaning.specs.Script.{printed}
use Rattle.sql_shell.proofs.printing.print_others.Given as goal

abbrev pub invariant-loop-value : goal.invariant-loop-value
invariant-loop-value l = l.lines.items ++ flat_map (λ v. 124 ∷ printed v) (drop l.value-index l.values) ≡ l.fn.lines.items ++ flat_map (λ v. 124 ∷ printed v) l.values
