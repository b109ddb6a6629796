-- Digits and the numbers that they write.
use Rattle.std.proofs.Common.{◌≡◌, ℕ, ◌+◌, ◌*◌, ◌<◌, ◌≤◌, ◌&&◌, List, [], ◌∷◌, length, drop, get_or, refl, ap, arith}
use Rattle.std.specs.List.{list_all}
use Rattle.std.specs.Char.{digit_value}
use Rattle.std.specs.Str.Parse.{digits_value_after}
use Rattle.std.proofs.lemmas.List.{at_drop_more}
use Rattle.std.proofs.Math.Nat.{mul-le-mul_left}
use Rattle.eng_number.specs.Forms.{digits, is_digit}

digits_more : (b : ℕ) (bytes : List ℕ) → digits (b ∷ bytes) ≡ list_all is_digit (b ∷ bytes)
digits_more b [] = ap (λ t. is_digit b && t) refl
digits_more b (c ∷ bytes) = ap (λ t. is_digit b && t) (digits_more c bytes)

pub digits_are : (bytes : List ℕ) → 0 < length bytes → digits bytes ≡ list_all is_digit bytes
digits_are [] h = absurd (omega arith)
digits_are (b ∷ bytes) h = digits_more b bytes

mul_keeps : (n r : ℕ) → 1 ≤ r → n ≤ n * r
mul_keeps n r h = omega (arith, mul-le-mul_left n h)

pub digits_value_after-le : (radix n : ℕ) (ds : List ℕ) → 1 ≤ radix → n ≤ digits_value_after radix n ds
digits_value_after-le radix n [] h = omega arith
digits_value_after-le radix n (b ∷ ds) h = omega (arith, digits_value_after-le radix (n * radix + digit_value b) ds h, mul_keeps n radix h)

pub digits_value_after-more : (radix n : ℕ) (ds : List ℕ) (i : ℕ) → i < length ds
    → digits_value_after radix n (drop i ds) ≡ digits_value_after radix (n * radix + digit_value (get_or ds i 0)) (drop (i + 1) ds)
digits_value_after-more radix n ds i l = at_drop_more (digits_value_after radix n) ds i 0 l
