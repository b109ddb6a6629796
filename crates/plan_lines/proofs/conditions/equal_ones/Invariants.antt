use Rattle.std.proofs.Common.{◌≡◌, codes, map, take}
use Rattle.plan_lines.specs.Lines.{compared}
use Rattle.plan_lines.proofs.conditions.equal_ones.Given as goal

abbrev pub invariant-loop-term : goal.invariant-loop-term
invariant-loop-term l = l.found ≡ map (compared l.columns (codes "=?")) (take l.term-index l.terms)
