use Rattle.std.proofs.Common.{◌≡◌, drop, map}
use Rattle.sql_meaning.specs.Built.{all_pass, is_built_arm, is_built_expr}
use Rattle.bind_stmt.proofs.built_expressions.+built.Given as goal

abbrev pub invariant-are_built-loop-e : goal.invariant-are_built-loop-e
invariant-are_built-loop-e l = all_pass (map is_built_expr (drop l.e-index l.es)) l.text ≡ all_pass (map is_built_expr l.es) l.text

abbrev pub invariant-are_arms_built-loop-arm : goal.invariant-are_arms_built-loop-arm
invariant-are_arms_built-loop-arm l = all_pass (map is_built_arm (drop l.arm-index l.arms)) l.text ≡ all_pass (map is_built_arm l.arms) l.text
