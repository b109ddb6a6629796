use Rattle.std.proofs.Common.{◌≡◌, drop}
use Rattle.std.specs.List.{find}
use Rattle.plan_lines.specs.Lines.{serves}
use Rattle.plan_lines.proofs.fitting.first_serving.Given as goal

abbrev pub invariant-loop-index : goal.invariant-loop-index
invariant-loop-index l = find (serves l.terms) l.indexes ≡ find (serves l.terms) (drop l.index-index l.indexes)
