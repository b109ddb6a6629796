use Rattle.std.proofs.Common.{◌≡◌, ◌≤◌, ◌++◌, drop, length, map, string_bytes}
use Rattle.std.specs.Prelude.{encode_utf8_all}
use Rattle.eng_value.specs.declared.limits.TheConstants.{MAX_VALUE_BYTES}
use Rattle.eng_value.specs.Functions.{char_of_number, int_of}
use Rattle.eng_scalar.proofs.characters.char_text.Given as goal

abbrev pub invariant-loop-arg : goal.invariant-loop-arg
invariant-loop-arg l =
    (string_bytes l.text ++ encode_utf8_all (map (λ v. char_of_number (int_of v)) (drop l.arg-index l.args))
    ≡ encode_utf8_all (map (λ v. char_of_number (int_of v)) l.args))
    × (length (string_bytes l.text) ≤ MAX_VALUE_BYTES)
