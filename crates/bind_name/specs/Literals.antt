-- Parts of literals.
use Rattle.std.specs.Prelude.{ℕ, [], ◌∷◌, ◌%◌, ◌^◌}
use Rattle.std.specs.Str.Parse.{digits_value}

-- the byte that two hexadecimal digits write
abbrev pub hexadecimal_byte : ℕ → ℕ → ℕ
hexadecimal_byte high low = digits_value 16 (high ∷ low ∷ []) % 2 ^ 8
