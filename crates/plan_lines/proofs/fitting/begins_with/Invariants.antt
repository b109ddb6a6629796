use Rattle.std.proofs.Common.{◌≡◌, drop}
use Rattle.plan_lines.specs.Lines.{begins_with}
use Rattle.plan_lines.proofs.fitting.begins_with.Given as goal

abbrev pub invariant-loop-term : goal.invariant-loop-term
invariant-loop-term l = begins_with l.terms l.sought ≡ begins_with l.rest (drop l.term-index l.sought)
