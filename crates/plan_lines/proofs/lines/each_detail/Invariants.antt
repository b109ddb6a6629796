use Rattle.std.proofs.Common.{◌≡◌, map, take}
use Rattle.plan_lines.specs.Lines.{detail}
use Rattle.plan_lines.proofs.lines.each_detail.Given as goal

abbrev pub invariant-loop-each : goal.invariant-loop-each
invariant-loop-each l = l.found ≡ map (detail l.items) (take l.each-index l.loops)
