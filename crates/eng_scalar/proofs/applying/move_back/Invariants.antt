use Rattle.std.proofs.Common.{◌≡◌, ◌++◌, ◌≤◌, length, map, drop, vec_len}
use Rattle.eng_value.specs.declared.out.Out.TheVariants.{Good}
use Rattle.eng_scalar.proofs.applying.move_back.Given as goal

abbrev pub invariant-loop-value : goal.invariant-loop-value
invariant-loop-value l = record {
  many : l.left ≡ vec_len l.values;
  within : l.left ≤ length l.args;
  moved : map Good l.values.items ++ drop l.left l.args ≡ map Good l.initial.values.items;
}

abbrev pub decreases-loop-value : goal.decreases-loop-value
decreases-loop-value l = vec_len l.values
