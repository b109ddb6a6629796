-- The number of a parameter, as far as 1000, and what stands behind `0x`.
use Rattle.std.proofs.Common.{◌≡◌, ℕ, ◌+◌, ◌-◌, ◌*◌, ◌<◌, ◌≤◌, min, true, List, [], ◌∷◌, length, get_or, drop, ap, ◌∙◌, arith}
use Rattle.std.specs.Char.{is_ascii_digit, digit_value}
use Rattle.std.specs.List.{AllPass}
use Rattle.std.specs.Str.Parse.{digits_value_after}
use Rattle.std.proofs.lemmas.Bool.Decides.{nat_tests}
use Rattle.std.proofs.lemmas.List.{at_drop_more}
use Rattle.std.proofs.lemmas.Str.{digit_value_digit}

pub digits_value_after-le : (n : ℕ) (ds : List ℕ) → n ≤ digits_value_after 10 n ds
digits_value_after-le n [] = omega arith
digits_value_after-le n (d ∷ ds) = omega (arith, digits_value_after-le (n * 10 + digit_value d) ds)

-- a number past 1000 stays past it
pub capped : (n : ℕ) (ds : List ℕ) → min 1000 (digits_value_after 10 (min n 1000) ds) ≡ min 1000 (digits_value_after 10 n ds)
capped n ds = grind (arith, digits_value_after-le n ds, digits_value_after-le (min n 1000) ds)

digit-bounds : (d : ℕ) → is_ascii_digit d ≡ true → (48 ≤ d) × (d ≤ 57)
digit-bounds d h = (grind (arith, nat_tests), grind (arith, nat_tests))

pub digit_at : (ds : List ℕ) (i : ℕ) → AllPass is_ascii_digit ds → i < length ds → (48 ≤ get_or ds i 0) × (get_or ds i 0 ≤ 57)
digit_at ds i all lt = digit-bounds (get_or ds i 0) (all i 0 lt)

-- one digit further
pub value_more : (n : ℕ) (ds : List ℕ) (i : ℕ) → AllPass is_ascii_digit ds → i < length ds → digits_value_after 10 n (drop i ds) ≡ digits_value_after 10 (n * 10 + (get_or ds i 0 - 48)) (drop (i + 1) ds)
value_more n ds i all lt =
    let value : digit_value (get_or ds i 0) ≡ get_or ds i 0 - 48 = omega (arith, digit_value_digit (get_or ds i 0) (digit_at ds i all lt)) in
    at_drop_more (digits_value_after 10 n) ds i 0 lt ∙ ap (λ d. digits_value_after 10 (n * 10 + d) (drop (i + 1) ds)) value
