use Rattle.std.proofs.Common.{◌≡◌, ◌<◌, ◌^◌, drop}
use Rattle.std.specs.Str.Parse.{digits_value, digits_value_after}
use Rattle.eng_number.proofs.numbers.magnitude.Given as goal

abbrev pub invariant-loop-digit : goal.invariant-loop-digit
invariant-loop-digit l =
    (l.magnitude < 2 ^ 64) × (digits_value_after 10 l.magnitude (drop l.digit-index l.numeral) ≡ digits_value 10 l.numeral)
