use Rattle.std.proofs.Common.{◌≡◌, ◌≤◌, min, drop}
use Rattle.std.specs.Str.Parse.{digits_value, digits_value_after}
use Rattle.sql_lex.proofs.parameters.value_to_1000.Given as goal

abbrev pub invariant-loop-digit : goal.invariant-loop-digit
invariant-loop-digit l = record {
  value : min 1000 (digits_value_after 10 l.value (drop l.digit-index l.digits)) ≡ min 1000 (digits_value 10 l.digits);
  small : l.value ≤ 1000;
}
