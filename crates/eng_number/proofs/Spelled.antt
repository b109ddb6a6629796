-- The integers that a sign and digits spell.
use Rattle.std.proofs.Common.{◌≡◌, ℕ, zero, suc, ◌+◌, ◌-◌, ◌*◌, ◌^◌, ◌≤◌, ◌<◌, ◌==◌, Bool, true, false, ◌&&◌, ◌||◌, cond, List, [], ◌∷◌, ◌++◌, length, get_or, take, drop, Option, Some, None, SomeIff, ℤ, pos, negsuc, neg_ℤ, ◌-ℤ◌, ◌+ℤ◌, int_le, if◌then◌else◌, w64, refl, sym, ap, ◌∙◌, arith}
use Rattle.std.specs.Prelude.{codes}
use Rattle.std.specs.Option.{option_map}
use Rattle.std.specs.Int.{IsInRange}
use Rattle.std.specs.Int.RustNames.{FitsSigned}
use Rattle.std.specs.Str.Parse.{digits_value, digits_value_after, signed_digits_value, starts_with_minus, without_leading_sign}
use Rattle.std.specs.Char.{digit_value}
use Rattle.std.proofs.lemmas.Bool.{and_parts, leb-true, ltb-true}
use Rattle.std.proofs.lemmas.Bool.Decides.{nat_tests}
use Rattle.std.proofs.lemmas.Int.{ints}
use Rattle.std.proofs.lemmas.List.{append_cancel_left, take-append-drop, at_drop_more, drop_all}
use Rattle.std.proofs.lemmas.Str.{digit_value_digit}
use Rattle.eng_number.specs.Forms.{◌then◌, digits, is_digit, longest, optional, IsLongest}
use Rattle.eng_number.specs.Numbers.{fits_integer, integer_of, sign, whole_number}
use Rattle.eng_number.proofs.Beginnings.{longest-optional, longest-optional_none, longest-passes, longest-then, longest-whole, some_same, some_none}
use Rattle.eng_number.proofs.Lengths.{is_one_of, longest-one_of}
use Rattle.eng_number.proofs.NumberParts.{sign_before_digits}

-- ---- digits

pub digit_at : (ds : List ℕ) (i : ℕ) → digits ds ≡ true → i < length ds → IsInRange 48 57 (get_or ds i 0)
digit_at [] i all l = absurd (omega arith)
digit_at (b ∷ ds) zero all l =
    let e = and_parts _ _ (and_parts (is_digit b) _ all).0 in
    (leb-true 48 b e.0, leb-true b 57 e.1)
digit_at (b ∷ []) (suc i) all l = absurd (omega arith)
digit_at (b ∷ c ∷ ds) (suc i) all l = digit_at (c ∷ ds) i (and_parts (is_digit b) (digits (c ∷ ds)) all).1 (omega arith)

pub digits_value_after-le : (n : ℕ) (ds : List ℕ) → n ≤ digits_value_after 10 n ds
digits_value_after-le n [] = omega arith
digits_value_after-le n (b ∷ ds) = omega (arith, digits_value_after-le (n * 10 + digit_value b) ds)

-- the digit at i, behind the number n of those in front of it
pub digits_value_after-more : (n : ℕ) (ds : List ℕ) (i : ℕ) → digits ds ≡ true → i < length ds
    → digits_value_after 10 n (drop i ds) ≡ digits_value_after 10 (n * 10 + (get_or ds i 0 - 48)) (drop (i + 1) ds)
digits_value_after-more n ds i all l =
    let value : digit_value (get_or ds i 0) ≡ get_or ds i 0 - 48 = omega (arith, digit_value_digit (get_or ds i 0) (digit_at ds i all l)) in
    at_drop_more (digits_value_after 10 n) ds i 0 l ∙ ap (λ d. digits_value_after 10 (n * 10 + d) (drop (i + 1) ds)) value

-- ---- the sign

module _ (bytes : List ℕ) (n : ℕ) (is : IsLongest (optional sign) bytes (Some n)) where
  pub digits_behind_sign : whole_number bytes ≡ true → digits (drop n bytes) ≡ true
  digits_behind_sign whole = by (longest digits (drop n bytes)) refl
    where
      by : (o : Option (List ℕ)) → longest digits (drop n bytes) ≡ o → digits (drop n bytes) ≡ true
      by None e =
          some_none bytes (sym (longest-whole whole_number bytes whole) ∙ longest-then (optional sign) digits sign_before_digits n bytes is.0 is.1 ∙ ap (option_map (λ x. take n bytes ++ x)) e)
      by (Some x) e =
          let found : bytes ≡ take n bytes ++ x =
          some_same bytes (take n bytes ++ x)
          (sym (longest-whole whole_number bytes whole) ∙ longest-then (optional sign) digits sign_before_digits n bytes is.0 is.1 ∙ ap (option_map (λ x. take n bytes ++ x)) e) in
          let same : x ≡ drop n bytes = append_cancel_left (take n bytes) x (drop n bytes) (sym found ∙ sym (take-append-drop n bytes)) in
          ap digits (sym same) ∙ longest-passes digits (drop n bytes) x e

dropped_if : (minus plus : Bool) (b : ℕ) (bytes : List ℕ) → cond minus bytes (drop (cond plus 1 0) (b ∷ bytes)) ≡ cond (minus || plus) bytes (b ∷ bytes)
dropped_if true plus b bytes = refl
dropped_if false true b bytes = refl
dropped_if false false b bytes = refl

either_sign : (b : ℕ) → (b == 45 || b == 43) ≡ is_one_of (codes "+-") b
either_sign b = grind (arith, nat_tests)

pub drop-sign : (bytes : List ℕ) (n : ℕ) → IsLongest (optional sign) bytes (Some n) → without_leading_sign bytes ≡ drop n bytes
drop-sign [] n is = sym (drop_all n [] (omega arith))
drop-sign (b ∷ bytes) n is =
    dropped_if (b == 45) (b == 43) b bytes
    ∙ ap (λ t. cond t bytes (b ∷ bytes)) (either_sign b)
    ∙ by (is_one_of (codes "+-") b) (longest-one_of (codes "+-") b bytes)
  where
    cut : (x y : List ℕ) → longest (optional sign) (b ∷ bytes) ≡ Some x → x ++ y ≡ b ∷ bytes → y ≡ drop n (b ∷ bytes)
    cut x y e whole =
        let front : take n (b ∷ bytes) ≡ x = some_same (take n (b ∷ bytes)) x (sym is.1 ∙ e) in
        append_cancel_left x y (drop n (b ∷ bytes)) (whole ∙ sym (take-append-drop n (b ∷ bytes)) ∙ ap (λ f. f ++ drop n (b ∷ bytes)) front)

    by : (t : Bool) → longest sign (b ∷ bytes) ≡ cond t (Some (b ∷ [])) None → cond t bytes (b ∷ bytes) ≡ drop n (b ∷ bytes)
    by true e = cut (b ∷ []) bytes (longest-optional sign (b ∷ bytes) (b ∷ []) e) refl
    by false e = cut [] (b ∷ bytes) (longest-optional_none sign (b ∷ bytes) e) refl

pub signed_value-is : (bytes : List ℕ) (n : ℕ) (negative : Bool) → IsLongest (optional sign) bytes (Some n) → starts_with_minus bytes ≡ negative
    → signed_digits_value 10 bytes ≡ cond negative (neg_ℤ (pos (digits_value 10 (drop n bytes)))) (pos (digits_value 10 (drop n bytes)))
signed_value-is bytes n negative is e =
    ap (λ ds. cond (starts_with_minus bytes) (neg_ℤ (pos (digits_value 10 ds))) (pos (digits_value 10 ds))) (drop-sign bytes n is)
    ∙ ap (λ t. cond t (neg_ℤ (pos (digits_value 10 (drop n bytes)))) (pos (digits_value 10 (drop n bytes)))) e

-- ---- what fits in 64 bits

fits_integer-from : (z : ℤ) → FitsSigned w64 z → fits_integer z ≡ true
fits_integer-from (pos n) fits = grind (arith, ints)
fits_integer-from (negsuc n) fits = grind (arith, ints)

fits_integer-true : (z : ℤ) → fits_integer z ≡ true → FitsSigned w64 z
fits_integer-true (pos n) e = let small = ltb-true n (2 ^ 63) e in grind (arith, ints)
fits_integer-true (negsuc n) e = let low = (and_parts (int_le (negsuc (2 ^ 63 - 1)) (negsuc n)) true e).0 in grind (arith, ints)

-- the number, where it fits
pub fitting : (r : Option ℤ) (z : ℤ) → SomeIff r (FitsSigned w64 z) z → r ≡ (if fits_integer z then Some z else None)
fitting None z unfit = by (fits_integer z) refl
  where
    by : (t : Bool) → fits_integer z ≡ t → None ≡ (if t then Some z else None)
    by true e = absurd (unfit (fits_integer-true z e))
    by false e = refl
fitting (Some x) z is = ap Some is.1 ∙ ap (λ t. if t then Some z else None) (sym (fits_integer-from z is.0))

pub integer_of-whole : (bytes : List ℕ) → whole_number bytes ≡ true
    → integer_of bytes ≡ (if fits_integer (signed_digits_value 10 bytes) then Some (signed_digits_value 10 bytes) else None)
integer_of-whole bytes whole = ap (λ t. if t && fits_integer (signed_digits_value 10 bytes) then Some (signed_digits_value 10 bytes) else None) whole

-- ---- the integer of a sign and digits

zero-minus : (n : ℕ) → pos 0 -ℤ pos n ≡ neg_ℤ (pos n)
zero-minus n = omega (arith, ints)

-- with that sign
abbrev pub signed : Bool → ℕ → ℤ
signed negative n = cond negative (pos 0 -ℤ pos n) (pos 0 +ℤ pos n)

signed-is : (negative : Bool) (n : ℕ) → signed negative n ≡ cond negative (neg_ℤ (pos n)) (pos n)
signed-is true n = zero-minus n
signed-is false n = omega (arith, ints)

unfit : (negative : Bool) (n : ℕ) → (n < 2 ^ 64 → ⊥) → FitsSigned w64 (signed negative n) → ⊥
unfit true n large fits = grind (arith, ints)
unfit false n large fits = grind (arith, ints)

module _ (bytes : List ℕ) (n : ℕ) (is : IsLongest (optional sign) bytes (Some n)) (whole : whole_number bytes ≡ true) where
  pub integer_of-is : (r : Option ℤ) (negative : Bool) (v : ℕ) → negative ≡ starts_with_minus bytes → v ≡ digits_value 10 (drop n bytes)
      → SomeIff r (FitsSigned w64 (signed negative v)) (signed negative v) → r ≡ integer_of bytes
  integer_of-is r negative v sign_is v_is found =
      let z : signed negative v ≡ signed_digits_value 10 bytes =
      signed-is negative v
      ∙ ap (λ n. cond negative (neg_ℤ (pos n)) (pos n)) v_is
      ∙ sym (signed_value-is bytes n negative is (sym sign_is)) in
      fitting r (signed negative v) found
      ∙ ap (λ z. if fits_integer z then Some z else None) z
      ∙ sym (integer_of-whole bytes whole)

  pub integer_of-large : (digits_value 10 (drop n bytes) < 2 ^ 64 → ⊥) → None ≡ integer_of bytes
  integer_of-large large =
      integer_of-is None (starts_with_minus bytes) (digits_value 10 (drop n bytes)) refl refl (unfit (starts_with_minus bytes) (digits_value 10 (drop n bytes)) large)
