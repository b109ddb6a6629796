use Rattle.std.proofs.Common.{◌≡◌, ◌<◌, ◌^◌, drop}
use Rattle.std.specs.Str.Parse.{digits_value, digits_value_after}
use Rattle.bind_name.proofs.numerals.magnitude.Given as goal

abbrev pub invariant-loop-digit : goal.invariant-loop-digit
invariant-loop-digit l = record {
  small : l.magnitude < 2 ^ 64;
  left : digits_value_after l.radix l.magnitude (drop l.digit-index l.numeral) ≡ digits_value l.radix l.numeral;
}
