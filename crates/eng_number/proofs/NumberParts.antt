-- The parts of numbers: no byte of a part begins the next one.
use Rattle.std.proofs.Common.{◌≡◌, ℕ, ◌==◌, Bool, true, false, ◌&&◌, ◌||◌, List, [], ◌∷◌, ◌++◌, take, None, Some, refl, sym, ap, ◌∙◌, ◌⊎◌, inl, inr, arith}
use Rattle.std.specs.Prelude.{codes}
use Rattle.std.specs.List.{list_all}
use Rattle.std.proofs.lemmas.Bool.{and_parts, and_from, cases_Bool, both_ways, or_cases}
use Rattle.std.proofs.lemmas.Bool.Decides.{nat_tests}
use mathlib.Core.Path.{fun_ext}
use Rattle.eng_number.specs.Forms.{Form, ◌then◌, digits, either, empty, is_digit, longest, one_of, optional, IsLongest}
use Rattle.eng_number.specs.Numbers.{exponent, fraction, mantissa, point, pointed, sign, unsigned_number, whole_number}
use Rattle.eng_number.proofs.Beginnings.{Apart, behind, grown, never-then, longest-nil, longest-cons, longest-never, longest-then_none, then-cons, some_none}
use Rattle.eng_number.proofs.Lengths.{is_one_of, none_of}

-- ---- the bytes of a form's texts, and those that begin none

abbrev MadeOf : (ℕ → Bool) → Form → Type 0
MadeOf test p = (x : List ℕ) → p x ≡ true → list_all test x ≡ true

abbrev BeginsNone : ℕ → Form → Type 0
BeginsNone b p = (z : List ℕ) → p (b ∷ z) ≡ false

begins_none-then : (p q : Form) (b : ℕ) → BeginsNone b p → ((z : List ℕ) → (p [] && q (b ∷ z)) ≡ false) → BeginsNone b (p then q)
begins_none-then p q b first second z =
    then-cons p q b z
    ∙ ap (λ t. t || (behind b p then q) z) (second z)
    ∙ ap (λ (r : Form). (r then q) z) (fun_ext first)
    ∙ never-then q z

or-false : (s t : Bool) → s ≡ false → t ≡ false → (s || t) ≡ false
or-false true t e f = e
or-false false t e f = f

begins_none-either : (p q : Form) (b : ℕ) → BeginsNone b p → BeginsNone b q → BeginsNone b (either p q)
begins_none-either p q b first second z = or-false (p (b ∷ z)) (q (b ∷ z)) (first z) (second z)

begins_none-one_of : (these : List ℕ) (b : ℕ) → is_one_of these b ≡ false → BeginsNone b (one_of these)
begins_none-one_of these b e z = ap (λ t. t && empty z) e

begins_none-digits : (b : ℕ) → is_digit b ≡ false → BeginsNone b digits
begins_none-digits b e z = ap (λ t. t && (empty z || digits z)) e

made-one_of : (these : List ℕ) → MadeOf (is_one_of these) (one_of these)
made-one_of these [] e = refl
made-one_of these (b ∷ []) e = e
made-one_of these (b ∷ c ∷ x) e = absurd (both_ways _ refl (and_parts (is_one_of these b) false e).1)

made-optional : (test : ℕ → Bool) (p : Form) → MadeOf test p → MadeOf test (optional p)
made-optional test p made [] e = refl
made-optional test p made (b ∷ x) e = made (b ∷ x) e

made-digits : MadeOf is_digit digits
made-digits [] e = refl
made-digits (b ∷ []) e = e
made-digits (b ∷ c ∷ x) e = let parts = and_parts (is_digit b) (digits (c ∷ x)) e in and_from (is_digit b) (list_all is_digit (c ∷ x)) parts.0 (made-digits (c ∷ x) parts.1)

made-more : (test more : ℕ → Bool) (p : Form) → ((b : ℕ) → test b ≡ true → more b ≡ true) → MadeOf test p → MadeOf more p
made-more test more p wider made x e = all x (made x e)
  where
    all : (x : List ℕ) → list_all test x ≡ true → list_all more x ≡ true
    all [] e = refl
    all (b ∷ x) e = let parts = and_parts (test b) (list_all test x) e in and_from (more b) (list_all more x) (wider b parts.0) (all x parts.1)

made-either : (test : ℕ → Bool) (p q : Form) → MadeOf test p → MadeOf test q → MadeOf test (either p q)
made-either test p q first second x e = by (or_cases (p x) (q x) e)
  where
    by : (p x ≡ true) ⊎ (q x ≡ true) → list_all test x ≡ true
    by (inl e) = first x e
    by (inr e) = second x e

made-behind : (test : ℕ → Bool) (b : ℕ) (p : Form) → MadeOf test p → MadeOf test (behind b p)
made-behind test b p made x e = (and_parts (test b) (list_all test x) (made (b ∷ x) e)).1

begins_none-made : (test : ℕ → Bool) (b : ℕ) (p : Form) → MadeOf test p → test b ≡ false → BeginsNone b p
begins_none-made test b p made e z = by (p (b ∷ z)) refl
  where
    by : (t : Bool) → p (b ∷ z) ≡ t → t ≡ false
    by false is = refl
    by true is = absurd (both_ways (test b) e (and_parts (test b) (list_all test z) (made (b ∷ z) is)).0)

made-then : (test : ℕ → Bool) (p q : Form) → MadeOf test p → MadeOf test q → MadeOf test (p then q)
made-then test p q first second [] e = refl
made-then test p q first second (b ∷ x) e =
    by (made-then test (behind b p) q (made-behind test b p first) second x)
    (or_cases (p [] && q (b ∷ x)) ((behind b p then q) x) (sym (then-cons p q b x) ∙ e))
    (cases_Bool (test b))
  where
    by : ((behind b p then q) x ≡ true → list_all test x ≡ true)
        → ((p [] && q (b ∷ x)) ≡ true) ⊎ ((behind b p then q) x ≡ true) → (test b ≡ true) ⊎ (test b ≡ false) → (test b && list_all test x) ≡ true
    by rest (inl e) c = second (b ∷ x) (and_parts (p []) (q (b ∷ x)) e).1
    by rest (inr e) (inl c) = and_from (test b) (list_all test x) c (rest e)
    by rest (inr e) (inr c) =
        let nothing : (behind b p then q) x ≡ false = ap (λ (r : Form). (r then q) x) (fun_ext (begins_none-made test b p first c)) ∙ never-then q x in
        absurd (both_ways ((behind b p then q) x) nothing e)

apart_by : (test : ℕ → Bool) (p q : Form) → MadeOf test p → ((b : ℕ) → test b ≡ true → BeginsNone b q) → Apart p q
apart_by test p q made first = record { apart = λ b x y z e. first b (within b x y (made (x ++ b ∷ y) e)) z }
  where
    within : (b : ℕ) (x y : List ℕ) → list_all test (x ++ b ∷ y) ≡ true → test b ≡ true
    within b [] y e = (and_parts (test b) (list_all test y) e).0
    within b (c ∷ x) y e = within b x y (and_parts (test c) (list_all test (x ++ b ∷ y)) e).1

-- ---- the bytes of numbers

abbrev is_sign : ℕ → Bool
is_sign = is_one_of (codes "+-")

abbrev is_e : ℕ → Bool
is_e = is_one_of (codes "eE")

abbrev is_in_mantissa : ℕ → Bool
is_in_mantissa b = is_digit b || b == 46

sign_no_digit : (b : ℕ) → is_sign b ≡ true → is_digit b ≡ false
sign_no_digit b e = grind (arith, nat_tests)

sign_no_point : (b : ℕ) → is_sign b ≡ true → is_one_of (codes ".") b ≡ false
sign_no_point b e = grind (arith, nat_tests)

point_no_digit : (b : ℕ) → is_one_of (codes ".") b ≡ true → is_digit b ≡ false
point_no_digit b e = grind (arith, nat_tests)

digit_no_point : (b : ℕ) → is_digit b ≡ true → is_one_of (codes ".") b ≡ false
digit_no_point b e = grind (arith, nat_tests)

e_no_digit : (b : ℕ) → is_e b ≡ true → is_digit b ≡ false
e_no_digit b e = grind (arith, nat_tests)

e_no_sign : (b : ℕ) → is_e b ≡ true → is_sign b ≡ false
e_no_sign b e = grind (arith, nat_tests)

in_mantissa_no_e : (b : ℕ) → is_in_mantissa b ≡ true → is_e b ≡ false
in_mantissa_no_e b e = grind (arith, nat_tests)

digit_in_mantissa : (b : ℕ) → is_digit b ≡ true → is_in_mantissa b ≡ true
digit_in_mantissa b e = ap (λ t. t || b == 46) e

point_in_mantissa : (b : ℕ) → is_one_of (codes ".") b ≡ true → is_in_mantissa b ≡ true
point_in_mantissa b e = grind (arith, nat_tests)

made-mantissa : MadeOf is_in_mantissa mantissa
made-mantissa =
    let some : MadeOf is_in_mantissa digits = made-more is_digit is_in_mantissa digits digit_in_mantissa made-digits in
    let dot : MadeOf is_in_mantissa point = made-more (is_one_of (codes ".")) is_in_mantissa point point_in_mantissa (made-one_of (codes ".")) in
    let behind_dot : MadeOf is_in_mantissa fraction = made-then is_in_mantissa point (optional digits) dot (made-optional is_in_mantissa digits some) in
    made-either is_in_mantissa (digits then optional fraction) pointed
    (made-then is_in_mantissa digits (optional fraction) some (made-optional is_in_mantissa fraction behind_dot))
    (made-then is_in_mantissa point digits dot some)

-- ---- no byte of a part begins the next one

pub sign_before_digits : Apart (optional sign) digits
sign_before_digits =
    apart_by is_sign (optional sign) digits (made-optional is_sign sign (made-one_of (codes "+-"))) (λ b e. begins_none-digits b (sign_no_digit b e))

pub sign_before_unsigned : Apart (optional sign) unsigned_number
sign_before_unsigned = apart_by is_sign (optional sign) unsigned_number (made-optional is_sign sign (made-one_of (codes "+-"))) first
  where
    first : (b : ℕ) → is_sign b ≡ true → BeginsNone b unsigned_number
    first b e =
        let number = begins_none-digits b (sign_no_digit b e) in
        let dot = begins_none-one_of (codes ".") b (sign_no_point b e) in
        begins_none-then mantissa (optional exponent) b
        (begins_none-either (digits then optional fraction) pointed b
        (begins_none-then digits (optional fraction) b number (λ z. refl))
        (begins_none-then point digits b dot (λ z. refl)))
        (λ z. refl)

pub digits_before_fraction : Apart digits (optional fraction)
digits_before_fraction = apart_by is_digit digits (optional fraction) made-digits
    (λ b e. begins_none-then point (optional digits) b (begins_none-one_of (codes ".") b (digit_no_point b e)) (λ z. refl))

pub point_before_digits : Apart point digits
point_before_digits = apart_by (is_one_of (codes ".")) point digits (made-one_of (codes ".")) (λ b e. begins_none-digits b (point_no_digit b e))

pub point_before_run : Apart point (optional digits)
point_before_run = apart_by (is_one_of (codes ".")) point (optional digits) (made-one_of (codes ".")) (λ b e. begins_none-digits b (point_no_digit b e))

pub mantissa_before_exponent : Apart mantissa (optional exponent)
mantissa_before_exponent = apart_by is_in_mantissa mantissa (optional exponent) made-mantissa
    (λ b e. begins_none-then (one_of (codes "eE")) whole_number b (begins_none-one_of (codes "eE") b (in_mantissa_no_e b e)) (λ z. refl))

pub e_before_whole : Apart (one_of (codes "eE")) whole_number
e_before_whole = apart_by is_e (one_of (codes "eE")) whole_number (made-one_of (codes "eE"))
    (λ b e. begins_none-then (optional sign) digits b (begins_none-one_of (codes "+-") b (e_no_sign b e)) (begins_none-digits b (e_no_digit b e)))

-- a text that begins with digits does not begin with a point
pub digits_or_pointed : (bytes : List ℕ) (n : ℕ) → IsLongest digits bytes (Some n) → longest pointed bytes ≡ None
digits_or_pointed [] n is = longest-nil pointed
digits_or_pointed (b ∷ bytes) n is = by (cases_Bool (is_digit b))
  where
    by : (is_digit b ≡ true) ⊎ (is_digit b ≡ false) → longest pointed (b ∷ bytes) ≡ None
    by (inl digit) = longest-then_none point digits (b ∷ bytes) (none_of (codes ".") b bytes (digit_no_point b digit))
    by (inr other) =
        let nothing : longest digits (b ∷ bytes) ≡ None =
        longest-cons digits b bytes ∙ ap (λ (p : Form). grown b false (longest p bytes)) (fun_ext (begins_none-digits b other)) ∙ ap (grown b false) (longest-never bytes) in
        some_none (take n (b ∷ bytes)) (sym is.1 ∙ nothing)
