use Rattle.std.proofs.Common.{◌≡◌, drop, map}
use Rattle.std.specs.List.{list_any}
use Rattle.sql_bound.specs.Expressions.{any_holds, arm_holds}
use Rattle.sql_bound.specs.HostFacts.{facts_of}
use Rattle.sql_bound.specs.Trees.{of_expr}
use Rattle.bind_callee.specs.Told.{of_arm, told}
use Rattle.bind_callee.proofs.holds.+holding.Given as goal

abbrev pub invariant-any_holds-loop-e : goal.invariant-any_holds-loop-e
invariant-any_holds-loop-e l = any_holds (told l.text (facts_of l.facts)) (map of_expr (drop l.e-index l.es)) ≡ any_holds (told l.text (facts_of l.facts)) (map of_expr l.es)

abbrev pub invariant-any_arm_holds-loop-arm : goal.invariant-any_arm_holds-loop-arm
invariant-any_arm_holds-loop-arm l = list_any (arm_holds (told l.text (facts_of l.facts))) (map of_arm (drop l.arm-index l.arms)) ≡ list_any (arm_holds (told l.text (facts_of l.facts))) (map of_arm l.arms)
