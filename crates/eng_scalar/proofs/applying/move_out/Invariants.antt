use Rattle.std.proofs.Common.{◌≡◌, ◌++◌, ◌≤◌, length, map, drop, vec_len, vec_capacity}
use Rattle.eng_scalar.specs.Called.{value_in}
use Rattle.eng_scalar.proofs.applying.move_out.Given as goal

abbrev pub invariant-loop-arg : goal.invariant-loop-arg
invariant-loop-arg l = record {
  many : vec_len l.values ≡ l.arg-index;
  room : length l.args ≤ vec_capacity l.values;
  moved : l.values.items ++ map value_in (drop l.arg-index l.args) ≡ map value_in l.initial.args;
}
