-- Values that are not too long.
use Rattle.std.proofs.Common.{◌≡◌, ℕ, ◌<◌, ◌≤◌, ◌/◌, List, [], ◌∷◌, length, refl, arith}
use Rattle.std.proofs.lemmas.Grind.{common_steps}
use Rattle.eng_value.specs.declared.cause.Cause.TheVariants as cause
use Rattle.eng_value.specs.declared.limits.TheConstants.{MAX_VALUE_BYTES}
use Rattle.eng_value.specs.declared.value.Value.TheVariants as value
use Rattle.sql_words.specs.declared.literal.Literal.TheVariants.{Value, Bad}
use Rattle.sql_words.specs.Spelled.{kept, hexadecimal_bytes}

pub hexadecimal_length : (digits : List ℕ) → length (hexadecimal_bytes digits) ≡ length digits / 2
hexadecimal_length [] = refl
hexadecimal_length (c ∷ []) = refl
hexadecimal_length (c ∷ d ∷ rest) = omega (arith, hexadecimal_length rest)

pub kept_text : (bytes : List ℕ) → length bytes ≤ MAX_VALUE_BYTES → kept (value.Text bytes) ≡ Value (value.Text bytes)
kept_text bytes h = grind (arith, common_steps)

pub long_text : (bytes : List ℕ) → MAX_VALUE_BYTES < length bytes → kept (value.Text bytes) ≡ Bad cause.TooBig
long_text bytes h = grind (arith, common_steps)

pub kept_blob : (bytes : List ℕ) → length bytes ≤ MAX_VALUE_BYTES → kept (value.Blob bytes) ≡ Value (value.Blob bytes)
kept_blob bytes h = grind (arith, common_steps)

pub long_blob : (bytes : List ℕ) → MAX_VALUE_BYTES < length bytes → kept (value.Blob bytes) ≡ Bad cause.TooBig
long_blob bytes h = grind (arith, common_steps)

pub ruleset kept_lengths = (kept_text, long_text, kept_blob, long_blob, hexadecimal_length)
