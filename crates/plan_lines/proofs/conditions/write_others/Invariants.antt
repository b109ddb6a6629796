use Rattle.std.proofs.Common.{◌≡◌, ◌++◌, drop, string_bytes}
use Rattle.std.specs.List.{flat_map}
use Rattle.plan_lines.specs.Lines.{behind_and}
use Rattle.plan_lines.proofs.conditions.write_others.Given as goal

abbrev pub invariant-loop-other : goal.invariant-loop-other
invariant-loop-other l = string_bytes l.initial.line ++ flat_map behind_and l.others ≡ string_bytes l.line ++ flat_map behind_and (drop l.other-index l.others)
