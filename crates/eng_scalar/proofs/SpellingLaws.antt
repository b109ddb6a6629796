-- Digits in base 16, and doubled quotes.
use Rattle.std.proofs.Common.{◌≡◌, ◌*◌, ◌<◌, ◌≤◌, ◌/◌, ◌%◌, ◌==◌, Bool, true, false, ◌&&◌, if◌then◌else◌, List, [], ◌∷◌, ◌++◌, ℕ, zero, suc, length, inl, inr, ap, sym, refl, arith, slice_index, codes}
use Rattle.std.proofs.lemmas.Bool.{and_parts, cases_eq, cases_lt, eqb-true, le-ltb, lt-ltb, ne_eqb}
use Rattle.hex.specs.Hex.{IsBytes, encode_upper, encode_with, upper_digits}
use Rattle.eng_text.specs.Texts.{replaced, replaced_behind}
use Rattle.eng_value.specs.declared.cause.Cause.TheVariants as cause
use Rattle.eng_value.specs.declared.limits.TheConstants.{MAX_VALUE_BYTES}
use Rattle.eng_value.specs.declared.out.Out.TheVariants.{Good}
use Rattle.eng_value.specs.declared.value.Value.TheVariants.{Text}
use Rattle.eng_value.specs.Functions.{doubled, hex_digit, hex_of_bytes}
use Rattle.eng_value.specs.Operators.{made}
use Rattle.eng_value.specs.Outs.{bad}

-- ---- what is made

pub made-short : (text : List ℕ) → length text ≤ MAX_VALUE_BYTES → made (Text text) ≡ Good (Text text)
made-short text le = rw (le-ltb MAX_VALUE_BYTES (length text) le) refl

pub made-long : (text : List ℕ) → MAX_VALUE_BYTES < length text → made (Text text) ≡ bad cause.TooBig
made-long text lt = rw (lt-ltb MAX_VALUE_BYTES (length text) lt) refl

-- ---- digits

pub length-hex_of_bytes : (bytes : List ℕ) → length (hex_of_bytes bytes) ≡ 2 * length bytes
length-hex_of_bytes [] = refl
length-hex_of_bytes (b ∷ bytes) = let e = length-hex_of_bytes bytes in omega (arith, e)

-- the test of one digit, which computes
abbrev is_same : ℕ → Bool
is_same d = slice_index upper_digits d == hex_digit d

abbrev all_same : ℕ → Bool
all_same zero = true
all_same (suc n) = is_same n && all_same n

same-at : (n d : ℕ) → all_same n ≡ true → d < n → is_same d ≡ true
same-at zero d h lt = absurd (omega arith)
same-at (suc n) d h lt =
    let parts = and_parts (is_same n) (all_same n) h in
    elim (cases_lt d n) [
      | inl below ↦ same-at n d parts.1 below
      | inr top ↦
          let e : d ≡ n = omega arith in
          rw e parts.0
    ]

digit : (d : ℕ) → d < 16 → slice_index upper_digits d ≡ hex_digit d
digit d lt = eqb-true _ _ (same-at 16 d refl lt)

tail_bytes : (b : ℕ) (bytes : List ℕ) → IsBytes (b ∷ bytes) → IsBytes bytes
tail_bytes b bytes h = λ i. h (suc i)

pub encode_upper-hex_of_bytes : (bytes : List ℕ) → IsBytes bytes → encode_upper bytes ≡ hex_of_bytes bytes
unfolding encode_with
encode_upper-hex_of_bytes [] h = refl
encode_upper-hex_of_bytes (b ∷ bytes) h =
    let lt : b < 256 = h 0 in
    let high = digit (b / 16) (omega arith) in
    let low = digit (b % 16) (omega arith) in
    let rest = encode_upper-hex_of_bytes bytes (tail_bytes b bytes h) in
    cc

-- ---- quotes

same_quote : (a b : ℕ) → (a == b) ≡ (b == a)
same_quote a b =
    elim (cases_eq a b) [
      | inl is ↦ rw is refl
      | inr other ↦ rw (ne_eqb a b other, ne_eqb b a (λ e. other (sym e))) refl
    ]

one_quote : (t : Bool) (b : ℕ) (bs cs : List ℕ) → bs ≡ cs → (if t && true then codes "''" ++ bs else b ∷ bs) ≡ ((if t then 0x27 ∷ 0x27 ∷ [] else b ∷ []) ++ cs)
one_quote true b bs cs e = ap (λ xs. 0x27 ∷ 0x27 ∷ xs) e
one_quote false b bs cs e = ap (λ xs. b ∷ xs) e

behind-quotes : (text : List ℕ) → replaced_behind (codes "'") (codes "''") zero text ≡ doubled text
behind-quotes [] = refl
behind-quotes (b ∷ text) = rw (same_quote 0x27 b) (one_quote (b == 0x27) b _ _ (behind-quotes text))

-- replacing each quote by two doubles it
pub replaced-quotes : (text : List ℕ) → replaced (codes "'") (codes "''") text ≡ doubled text
replaced-quotes text = behind-quotes text
