use Rattle.std.proofs.Common.{◌≡◌, ◌+◌, ◌++◌, drop, pos}
use Rattle.plan_lines.specs.Lines.{numbered}
use Rattle.plan_lines.proofs.lines.numbered.Given as goal

abbrev pub invariant-loop-text : goal.invariant-loop-text
invariant-loop-text l = (numbered 1 l.details ≡ l.rows ++ numbered (l.text-index + 1) (drop l.text-index l.details)) × (l.id ≡ pos (l.text-index + 1))
