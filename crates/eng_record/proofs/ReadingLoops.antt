-- What is read from here is what is read from the start, as loops go on.
use Rattle.std.proofs.Common.{◌≡◌, ℕ, zero, suc, ◌+◌, ◌-◌, ◌*◌, ◌^◌, ◌<◌, ◌≤◌, Bool, true, false, cond, ltb, List, [], ◌∷◌, ◌++◌, length, get_or, take, drop, replicate, min, eqb, Option, Some, None, Ok, Err, refl, sym, ap, ◌∙◌, append_assoc, add-one, arith}
use Rattle.std.proofs.Math.Nat.{pow-suc, pow-le-pow_right}
use Rattle.std.proofs.lemmas.Bool.{ltb-false, lt-ltb, le-ltb, cond_both, ne_eqb}
use Rattle.std.proofs.lemmas.List.{append-nil, drop_more, drop_all, take_min, length-take, length-drop, length-replicate, take-replicate}
use Rattle.std.proofs.lemmas.Str.{IsUtf8-from_is_utf8}
use Rattle.std.specs.Str.{IsUtf8, is_utf8}
use Rattle.eng_value.specs.declared.value.Value.{Value}
use Rattle.eng_record.specs.declared.record_error.RecordErr.{RecordErr}
use Rattle.eng_record.specs.declared.record_error.RecordErr.TheVariants as errors
use Rattle.eng_record.specs.declared.serial_type.SerialType.{SerialType}
use Rattle.eng_record.specs.Reading.{Read, ◌>>=◌, IsFault, number_from, number_at, varint_at, used, or_bad_kind, type_of_code, type_at, types_in, front, signed, body_at, bodies_at}
use Rattle.eng_record.specs.Spelling.{varint_len, integer_len}
use Rattle.eng_record.specs.declared.serial_type.SerialType.TheVariants as types
use Rattle.eng_record.proofs.Steps.{read, step_ok, passes, goes_on, same_read}
use Rattle.eng_record.proofs.WritingLoops.{integer_len_le}
use borrow.Rule.Slice.PartMut.{put_mid}

-- ---- faults

-- a function's error is the fault of the whole where it is that of a part
pub fault_of : {A B : Type 0} (e : RecordErr) (part : Read A) (whole : Read B) → IsFault e part → ((fault : RecordErr) → part ≡ Err fault → whole ≡ Err fault) → IsFault e whole
fault_of errors.Mem part whole is fails = tt
fault_of errors.Short part whole is fails = fails errors.Short is
fault_of errors.BadKind part whole is fails = fails errors.BadKind is
fault_of errors.BadText part whole is fails = fails errors.BadText is
fault_of errors.Trailing part whole is fails = fails errors.Trailing is
fault_of errors.NotShortest part whole is fails = fails errors.NotShortest is

-- the same steps after one step
same_after : {A B : Type 0} (first : Read A) (f g : A → Read B) → ((x : A) → first ≡ Ok x → f x ≡ g x) → (first >>= f) ≡ (first >>= g)
same_after (Ok x) f g same = same x refl
same_after (Err fault) f g same = refl

-- ---- numbers

-- what fewer than nine bytes give fits
pub high_fits : (i high : ℕ) → i ≤ 8 → high < 128 ^ i → high < 2 ^ 56
high_fits i high le lt =
    let most : 128 ^ i ≤ 128 ^ 8 = pow-le-pow_right (omega arith) le in
    let is : 128 ^ 8 ≡ 2 ^ 56 = refl in
    omega arith

pub high_more : (i high b : ℕ) → high < 128 ^ i → b < 128 → 128 * high + b < 128 ^ (i + 1)
high_more i high b lt small =
    let e : 128 ^ (i + 1) ≡ 128 ^ i * 128 = rw add-one (pow-suc 128 i) in
    omega arith

pub high_more_fits : (i high b : ℕ) → i < 8 → high < 128 ^ i → b < 128 → 128 * high + b < 2 ^ 56
high_more_fits i high b le lt small = high_fits (i + 1) (128 * high + b) (omega arith) (high_more i high b lt small)

pub number_nothing : (most high : ℕ) (bytes : List ℕ) → length bytes < 1 → number_from most high bytes ≡ Err errors.Short
number_nothing zero high [] lt = refl
number_nothing (suc most) high [] lt = refl
number_nothing most high (b ∷ bytes) lt = absurd (omega arith)

pub number_ends : (i high b : ℕ) (bytes rest : List ℕ) → i < 8 → 1 ≤ length bytes → b ≡ get_or bytes 0 0 → rest ≡ drop 1 bytes → b < 128
    → number_from (8 - i) high bytes ≡ Ok (128 * high + b, rest)
number_ends i high b [] rest lt some b-is rest-is small = absurd (omega arith)
number_ends i high b (c ∷ bytes) rest lt some b-is rest-is small =
    let e : 8 - i ≡ suc (8 - (i + 1)) = omega arith in
    rw (e, ← b-is, ← rest-is, lt-ltb b 128 small) refl

pub number_goes_on : (i high b : ℕ) (bytes rest : List ℕ) → i < 8 → 1 ≤ length bytes → b ≡ get_or bytes 0 0 → rest ≡ drop 1 bytes → 128 ≤ b
    → number_from (8 - i) high bytes ≡ number_from (8 - (i + 1)) (128 * high + (b - 128)) rest
number_goes_on i high b [] rest lt some b-is rest-is large = absurd (omega arith)
number_goes_on i high b (c ∷ bytes) rest lt some b-is rest-is large =
    let e : 8 - i ≡ suc (8 - (i + 1)) = omega arith in
    rw (e, ← b-is, ← rest-is, le-ltb b 128 large) refl

pub number_last : (i high b : ℕ) (bytes rest : List ℕ) → 8 ≤ i → 1 ≤ length bytes → b ≡ get_or bytes 0 0 → rest ≡ drop 1 bytes
    → number_from (8 - i) high bytes ≡ Ok (256 * high + b, rest)
number_last i high b [] rest le some b-is rest-is = absurd (omega arith)
number_last i high b (c ∷ bytes) rest le some b-is rest-is =
    let e : 8 - i ≡ 0 = omega arith in
    rw (e, ← b-is, ← rest-is) refl

-- a number takes a byte at least
number_from_shorter : (most high : ℕ) (bytes : List ℕ) (x : ℕ × List ℕ) → number_from most high bytes ≡ Ok x → length x.1 < length bytes
number_from_shorter zero high [] x is = absurd cc
number_from_shorter (suc most) high [] x is = absurd cc
number_from_shorter zero high (b ∷ bytes) x is = rw (← (same_read (256 * high + b, bytes) x is)) (omega arith)
number_from_shorter (suc most) high (b ∷ bytes) x is =
    cond_both (ltb b 128) (read (128 * high + b, bytes)) (number_from most (128 * high + (b - 128)) bytes) (λ r. r ≡ Ok x → length x.1 < suc (length bytes))
    (λ _ ends. rw (← (same_read (128 * high + b, bytes) x ends)) (omega arith))
    (λ _ goes. omega (arith, number_from_shorter most (128 * high + (b - 128)) bytes x goes))
    is

or_bad_kind_rest : (kind : Option SerialType) (rest : List ℕ) (x : SerialType × List ℕ) → or_bad_kind kind rest ≡ Ok x → rest ≡ x.1
or_bad_kind_rest None rest x is = absurd cc
or_bad_kind_rest (Some kind) rest x is = ap (λ (y : SerialType × List ℕ). y.1) (same_read (kind, rest) x is)

pub type_shorter : (bytes : List ℕ) (x : SerialType × List ℕ) → type_at bytes ≡ Ok x → length x.1 < length bytes
unfolding number_at varint_at type_at
type_shorter bytes x is =
    let code = step_ok (varint_at bytes) (λ n. or_bad_kind (type_of_code n.0) n.1) x is in
    let n = step_ok (number_at bytes) (λ n. cond (eqb (used bytes n.1) (varint_len n.0)) (Ok n) (Err errors.NotShortest)) code.0 code.1 in
    let same = passes (eqb (used bytes n.0.1) (varint_len n.0.0)) errors.NotShortest n.0 code.0 n.2 in
    let lt = number_from_shorter 8 0 bytes n.0 n.1 in
    rw (← (or_bad_kind_rest (type_of_code code.0.0) code.0.1 x code.2), ← same.1) lt

-- ---- types

-- more than as many types as bytes change nothing
pub types_in_enough : (m k : ℕ) (bytes : List ℕ) → length bytes ≤ m → length bytes ≤ k → types_in m bytes ≡ types_in k bytes
types_in_enough zero zero bytes le le' = refl
types_in_enough zero (suc k) [] le le' = refl
types_in_enough (suc m) zero [] le le' = refl
types_in_enough (suc m) (suc k) [] le le' = refl
types_in_enough zero (suc k) (b ∷ bytes) le le' = absurd (omega arith)
types_in_enough (suc m) zero (b ∷ bytes) le le' = absurd (omega arith)
types_in_enough (suc m) (suc k) (b ∷ bytes) le le' =
    same_after (type_at (b ∷ bytes)) _ _ (λ first is.
    let lt = type_shorter (b ∷ bytes) first is in
    ap (λ (others : Read (List SerialType)). others >>= λ kinds. Ok (first.0 ∷ kinds)) (types_in_enough m k first.1 (omega arith) (omega arith)))

-- what was read before, and what is still read
abbrev pub with_types : List SerialType → Read (List SerialType) → Read (List SerialType)
with_types front others = others >>= λ kinds. Ok (front ++ kinds)

pub with_no_types : (others : Read (List SerialType)) → with_types [] others ≡ others
with_no_types (Ok kinds) = refl
with_no_types (Err fault) = refl

with_one_type : (front : List SerialType) (kind : SerialType) (others : Read (List SerialType)) → with_types front (others >>= λ kinds. Ok (kind ∷ kinds)) ≡ with_types (front ++ kind ∷ []) others
with_one_type front kind (Ok kinds) = ap read (sym (append_assoc front (kind ∷ []) kinds))
with_one_type front kind (Err fault) = refl

-- the types of some bytes begin with that at the front
types_first : (bytes : List ℕ) (kind : SerialType) (after : List ℕ) → type_at bytes ≡ Ok (kind, after) → types_in (length bytes) bytes ≡ (types_in (length after) after >>= λ kinds. Ok (kind ∷ kinds))
types_first [] kind after is = absurd (omega (arith, type_shorter [] (kind, after) is))
types_first (b ∷ bytes) kind after is =
    let lt = type_shorter (b ∷ bytes) (kind, after) is in
    rw is (ap (λ (others : Read (List SerialType)). others >>= λ kinds. Ok (kind ∷ kinds)) (types_in_enough (length bytes) (length after) after (omega arith) (omega arith)))

pub types_go_on : (front : List SerialType) (bytes : List ℕ) (kind : SerialType) (after : List ℕ) (total : Read (List SerialType)) → type_at bytes ≡ Ok (kind, after)
    → with_types front (types_in (length bytes) bytes) ≡ total → with_types (front ++ kind ∷ []) (types_in (length after) after) ≡ total
types_go_on front bytes kind after total is so_far =
    sym (with_one_type front kind (types_in (length after) after)) ∙ ap (with_types front) (sym (types_first bytes kind after is)) ∙ so_far

types_fail : (bytes : List ℕ) (fault : RecordErr) → 0 < length bytes → type_at bytes ≡ Err fault → types_in (length bytes) bytes ≡ Err fault
types_fail [] fault some is = absurd (omega arith)
types_fail (b ∷ bytes) fault some is = rw is refl

pub types_end : (e : RecordErr) (front : List SerialType) (bytes : List ℕ) (total : Read (List SerialType)) → 0 < length bytes → IsFault e (type_at bytes)
    → with_types front (types_in (length bytes) bytes) ≡ total → IsFault e total
types_end e front bytes total some is so_far =
    fault_of e (type_at bytes) total is (λ fault at. sym so_far ∙ ap (with_types front) (types_fail bytes fault some at))

pub types_done : (front : List SerialType) (bytes : List ℕ) (total : Read (List SerialType)) → length bytes ≡ 0
    → with_types front (types_in (length bytes) bytes) ≡ total → total ≡ Ok front
types_done front [] total none so_far = sym so_far ∙ ap read (append-nil front)
types_done front (b ∷ bytes) total none so_far = absurd (omega arith)

-- ---- bodies

abbrev pub with_values : List Value → Read (List Value × List ℕ) → Read (List Value × List ℕ)
with_values front others = others >>= λ x. Ok (front ++ x.0, x.1)

pub with_no_values : (others : Read (List Value × List ℕ)) → with_values [] others ≡ others
with_no_values (Ok x) = refl
with_no_values (Err fault) = refl

with_one_value : (front : List Value) (v : Value) (others : Read (List Value × List ℕ)) → with_values front (others >>= λ x. Ok (v ∷ x.0, x.1)) ≡ with_values (front ++ v ∷ []) others
with_one_value front v (Ok x) = ap (λ (vs : List Value). read (vs, x.1)) (sym (append_assoc front (v ∷ []) x.0))
with_one_value front v (Err fault) = refl

pub bodies_go_on : (front : List Value) (kinds : List SerialType) (i : ℕ) (kind : SerialType) (bytes : List ℕ) (v : Value) (after : List ℕ) (total : Read (List Value × List ℕ))
    → i < length kinds → kind ≡ get_or kinds i types.Null → body_at kind bytes ≡ Ok (v, after)
    → with_values front (bodies_at (drop i kinds) bytes) ≡ total → with_values (front ++ v ∷ []) (bodies_at (drop (i + 1) kinds) after) ≡ total
unfolding bodies_at
bodies_go_on front kinds i kind bytes v after total lt kind-is is so_far =
    let one : bodies_at (drop i kinds) bytes ≡ (bodies_at (drop (i + 1) kinds) after >>= λ x. Ok (v ∷ x.0, x.1)) = rw (drop_more kinds i types.Null lt, ← kind-is, is) refl in
    sym (with_one_value front v (bodies_at (drop (i + 1) kinds) after)) ∙ ap (with_values front) (sym one) ∙ so_far

pub bodies_end : (e : RecordErr) (front : List Value) (kinds : List SerialType) (i : ℕ) (kind : SerialType) (bytes : List ℕ) (total : Read (List Value × List ℕ))
    → i < length kinds → kind ≡ get_or kinds i types.Null → IsFault e (body_at kind bytes)
    → with_values front (bodies_at (drop i kinds) bytes) ≡ total → IsFault e total
unfolding bodies_at
bodies_end e front kinds i kind bytes total lt kind-is is so_far =
    let fails = λ (fault : RecordErr) (at : body_at kind bytes ≡ Err fault).
    let one : bodies_at (drop i kinds) bytes ≡ Err fault = rw (drop_more kinds i types.Null lt, ← kind-is, at) refl in
    sym so_far ∙ ap (with_values front) one in
    fault_of e (body_at kind bytes) total is fails

pub bodies_done : (front : List Value) (kinds : List SerialType) (i : ℕ) (bytes : List ℕ) (total : Read (List Value × List ℕ)) → length kinds ≤ i
    → with_values front (bodies_at (drop i kinds) bytes) ≡ total → total ≡ Ok (front, bytes)
unfolding bodies_at
bodies_done front kinds i bytes total le so_far =
    let one : with_values front (bodies_at (drop i kinds) bytes) ≡ Ok (front, bytes) = rw (drop_all i kinds le) (ap (λ (vs : List Value). read (vs, bytes)) (append-nil front)) in
    sym so_far ∙ one

-- ---- headers

-- the types of the bytes that are there
pub region_types : (n m : ℕ) (rest : List ℕ) → m ≡ min n (length rest) → types_in (length (take m rest)) (take m rest) ≡ types_in n (take n rest)
region_types n m rest is =
    let same : take m rest ≡ take n rest = ap (λ (k : ℕ). take k rest) is ∙ take_min n rest in
    ap (λ (region : List ℕ). types_in (length region) region) same ∙ types_in_enough (length (take n rest)) n (take n rest) (omega arith) (omega (arith, length-take n rest))

-- ---- integers

front_len : (n : ℕ) (bytes body rest : List ℕ) → front n bytes ≡ Ok (body, rest) → length body ≡ n
unfolding front
front_len n bytes body rest is =
    let found = goes_on (ltb (length bytes) n) errors.Short (read (take n bytes, drop n bytes)) (body, rest) is in
    let same = ap (λ (x : List ℕ × List ℕ). length x.0) (same_read (take n bytes, drop n bytes) (body, rest) found.1) in
    omega (arith, ltb-false (length bytes) n found.0, length-take n bytes)

pub other_len : (len : ℕ) (bytes body rest : List ℕ) → front len bytes ≡ Ok (body, rest) → (integer_len (signed body) ≡ len → ⊥) → body_at (types.Integer len) bytes ≡ Err errors.NotShortest
unfolding body_at
other_len len bytes body rest is not = rw (is, ne_eqb (integer_len (signed body)) len not) refl

-- no integer needs more than eight bytes
pub long_body : (len : ℕ) (bytes body rest : List ℕ) → front len bytes ≡ Ok (body, rest) → (length body ≤ 8 → ⊥) → body_at (types.Integer len) bytes ≡ Err errors.NotShortest
long_body len bytes body rest is long =
    other_len len bytes body rest is (λ same. long (omega (arith, front_len len bytes body rest is, integer_len_le (signed body))))

-- an array that begins with the sign and ends in the bytes
pub padded : (k sign : ℕ) (bytes : List ℕ) → length bytes ≤ 8 → k ≡ 8 - length bytes → put_mid k (8 - k) (replicate 8 sign) bytes ≡ replicate (8 - length bytes) sign ++ bytes
padded k sign bytes le is =
    let front : take k (replicate 8 sign) ≡ replicate (8 - length bytes) sign = take-replicate k 8 sign (omega arith) ∙ ap (λ (n : ℕ). replicate n sign) is in
    let none : drop (8 - k) (drop k (replicate 8 sign)) ≡ [] = drop_all (8 - k) (drop k (replicate 8 sign)) (omega (arith, length-drop k (replicate 8 sign), length-replicate 8 sign)) in
    ap (λ (xs : List ℕ). xs ++ (bytes ++ drop (8 - k) (drop k (replicate 8 sign)))) front ∙ ap (λ (xs : List ℕ). replicate (8 - length bytes) sign ++ (bytes ++ xs)) none ∙ ap (λ (xs : List ℕ). replicate (8 - length bytes) sign ++ xs) (append-nil bytes)

-- ---- texts

not_utf8_by : (b : Bool) (bytes : List ℕ) → is_utf8 bytes ≡ b → (IsUtf8 bytes → ⊥) → is_utf8 bytes ≡ false
not_utf8_by true bytes is not = absurd (not (IsUtf8-from_is_utf8 bytes is))
not_utf8_by false bytes is not = is

pub not_utf8 : (bytes : List ℕ) → (IsUtf8 bytes → ⊥) → is_utf8 bytes ≡ false
not_utf8 bytes not = not_utf8_by (is_utf8 bytes) bytes refl not
