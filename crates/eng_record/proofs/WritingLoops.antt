-- What loops and shifts write.
use Rattle.std.proofs.Common.{◌≡◌, ℕ, zero, suc, ◌+◌, ◌-◌, ◌*◌, ◌/◌, ◌%◌, ◌^◌, ◌<◌, ◌≤◌, cond, leb, List, [], ◌∷◌, ◌++◌, length, get_or, take, drop, refl, sym, ap, ◌∙◌, append_assoc, add-one, arith, ℤ, Result, Ok, Err}
use Rattle.std.proofs.Math.Nat.{pow-suc}
use Rattle.std.specs.Prelude.{OnOk}
use Rattle.std.specs.Result.{is_ok}
use Rattle.std.specs.List.{AllByRecursion, flat_map}
use Rattle.std.specs.Int.{bytes_high_first}
use Rattle.std.proofs.lemmas.Bool.{cond_both, lt-ltb, le-ltb, le-leb, lt-leb}
use Rattle.std.proofs.lemmas.List.{take_more, flat_map_more, length-append}
use Rattle.std.proofs.lemmas.Slice.{between_to_end}
use Rattle.std.proofs.lemmas.Nat.{pow-add, field_of, mod-pow-add, mod_low, mod_below, pow_pos}
use Rattle.eng_value.specs.declared.value.Value.{Value}
use Rattle.eng_value.specs.declared.value.Value.TheVariants as value
use Rattle.eng_record.specs.Spelling.{leading, integer_len, integer_type, own_len_from, varint, varint_len, type_of, types_spelled, body, header_len, spelling}
use Rattle.eng_record.specs.Columns.{body_len}
use Rattle.eng_record.proofs.Varints.{length-varint}
use Rattle.eng_record.proofs.Headers.{header_len_is}

-- ---- varints

seven_bits : (k : ℕ) → 128 ^ k ≡ 2 ^ (7 * k)
seven_bits zero = refl
seven_bits (suc k) =
    let same : 7 * suc k ≡ 7 * k + 7 = omega arith in
    pow-suc 128 k ∙ ap (λ (x : ℕ). x * 128) (seven_bits k) ∙ sym (pow-add 2 (7 * k) 7) ∙ ap (λ (x : ℕ). 2 ^ x) (sym same)

mod_of_more : (n k : ℕ) → n % 128 ^ suc k % 128 ^ k ≡ n % 128 ^ k
mod_of_more n k =
    let e : 7 * suc k ≡ 7 + 7 * k = omega arith in
    let lt : n % 2 ^ (7 * k) < 2 ^ (7 * k) = mod_below n (2 ^ (7 * k)) (pow_pos (7 * k)) in
    rw (seven_bits (suc k), seven_bits k, e, mod-pow-add n 7 (7 * k)) (mod_low (n / 2 ^ (7 * k) % 2 ^ 7) (7 * k) (n % 2 ^ (7 * k)) lt)

highest_of : (n k : ℕ) → n % 128 ^ suc k / 128 ^ k ≡ n / 2 ^ (7 * k) % 128
highest_of n k =
    let e : 7 * suc k ≡ 7 + 7 * k = omega arith in
    rw (seven_bits (suc k), seven_bits k, e) (field_of n 7 (7 * k))

-- the highest of suc k groups of bits, and the others
pub leading_step : (n k : ℕ) → leading (suc k) (n % 128 ^ suc k) ≡ (128 + n / 2 ^ (7 * k) % 128) ∷ leading k (n % 128 ^ k)
leading_step n k = rw (highest_of n k, mod_of_more n k) refl

pub leading_goes_on : (count i n b : ℕ) (out more total : List ℕ) → i < count → b ≡ 128 + n / 2 ^ (7 * (count - 1 - i)) % 128 → more ≡ out ++ b ∷ []
    → out ++ leading (count - i) (n % 128 ^ (count - i)) ≡ total → more ++ leading (count - (i + 1)) (n % 128 ^ (count - (i + 1))) ≡ total
leading_goes_on count i n b out more total lt byte pushed so_far =
    let k : count - (i + 1) ≡ count - 1 - i = omega arith in
    let suc_k : count - i ≡ suc (count - 1 - i) = omega arith in
    let step : leading (count - i) (n % 128 ^ (count - i)) ≡ b ∷ leading (count - 1 - i) (n % 128 ^ (count - 1 - i)) = rw (suc_k, leading_step n (count - 1 - i), byte) refl in
    rw (k, pushed) (append_assoc out (b ∷ []) _ ∙ ap (λ (bytes : List ℕ). out ++ bytes) (sym step) ∙ so_far)

pub varint_short : (n : ℕ) → n < 2 ^ 56 → varint n ≡ leading (varint_len n - 1) (n / 128) ++ n % 128 ∷ []
unfolding varint
varint_short n lt = rw (lt-ltb n (2 ^ 56) lt) refl

pub varint_long : (n : ℕ) → 2 ^ 56 ≤ n → varint n ≡ leading 8 (n / 256) ++ n % 256 ∷ []
unfolding varint
varint_long n le = rw (le-ltb n (2 ^ 56) le) refl

-- ---- headers

-- the search begins at k
pub own_len_from-ge : (more k s : ℕ) → k ≤ own_len_from more k s
own_len_from-ge zero k s = omega arith
own_len_from-ge (suc more) k s =
    cond_both (leb (varint_len (s + k)) k) k (own_len_from more (suc k) s) (λ x. k ≤ x) (λ _. omega arith) (λ _. omega (arith, own_len_from-ge more (suc k) s))

-- where it stops, and where it does not
pub own_len_stops : (k s : ℕ) → k < 9 → varint_len (s + k) ≤ k → own_len_from (9 - k) k s ≡ k
own_len_stops k s lt le =
    let e : 9 - k ≡ suc (8 - k) = omega arith in
    rw (e, le-leb (varint_len (s + k)) k le) refl

pub own_len_goes_on : (k s : ℕ) → k < 9 → k < varint_len (s + k) → own_len_from (9 - k) k s ≡ own_len_from (9 - (k + 1)) (k + 1) s
own_len_goes_on k s lt above =
    let e : 9 - k ≡ suc (9 - (k + 1)) = omega arith in
    rw (e, lt-leb (varint_len (s + k)) k above, add-one) refl

pub own_len_last : (k s : ℕ) → 9 ≤ k → own_len_from (9 - k) k s ≡ k
own_len_last k s le =
    let e : 9 - k ≡ 0 = omega arith in
    rw e refl

-- ---- bodies

pub integer_len_le : (n : ℤ) → integer_len n ≤ 8
unfolding integer_len
integer_len_le n = grind arith

-- the last k bytes are the lowest
pub drop-bytes_high_first : (j k m n : ℕ) → m ≡ j + k → drop j (bytes_high_first m n) ≡ bytes_high_first k n
drop-bytes_high_first zero k m n is = ap (λ (i : ℕ). bytes_high_first i n) (omega arith)
drop-bytes_high_first (suc j) k zero n is = absurd (omega arith)
drop-bytes_high_first (suc j) k (suc m) n is = drop-bytes_high_first j k m n (omega arith)

length-bytes_high_first : (k n : ℕ) → length (bytes_high_first k n) ≡ k
length-bytes_high_first zero n = refl
length-bytes_high_first (suc k) n = ap suc (length-bytes_high_first k n)

-- as a slice of all eight
pub lowest_bytes : (k n : ℕ) (bytes : List ℕ) → k ≤ 8 → bytes ≡ bytes_high_first 8 n → take (8 - (8 - k)) (drop (8 - k) bytes) ≡ bytes_high_first k n
lowest_bytes k n bytes le is =
    let len : length bytes ≡ 8 = ap length is in
    between_to_end bytes (8 - k) 8 (omega arith) ∙ ap (drop (8 - k)) is ∙ drop-bytes_high_first (8 - k) k 8 n (omega arith)

integer_body_len : (n : ℤ) (k : ℕ) → body_len (integer_type n k) ≡ k
integer_body_len n zero = grind arith
integer_body_len n (suc k) = refl

pub length-body : (v : Value) → length (body v) ≡ body_len (type_of v)
length-body value.Null = refl
length-body (value.Integer n) = length-bytes_high_first (integer_len n) _ ∙ sym (integer_body_len n (integer_len n))
length-body (value.Text bytes) = refl
length-body (value.Blob bytes) = refl

-- ---- rows

-- the bytes of one more of the values in front
pub flat_map_more_len : {X : Type 0} (f : X → List ℕ) (xs : List X) (i : ℕ) (d : X) → i < length xs → length (flat_map f (take (i + 1) xs)) ≡ length (flat_map f (take i xs)) + length (f (get_or xs i d))
flat_map_more_len f xs i d lt =
    ap (λ ys. length (flat_map f ys)) (take_more xs i d lt) ∙ ap length (sym (flat_map_more f [] (take i xs) (get_or xs i d))) ∙ length-append (flat_map f (take i xs)) (f (get_or xs i d))

pub appended : {T E : Type 0} (r : Result T E) (old new xs ys : List ℕ) → new ≡ cond (is_ok r) (old ++ xs) old → xs ≡ ys → OnOk r (new ≡ old ++ ys)
appended (Ok x) old new xs ys is same = is ∙ ap (λ (t : List ℕ). old ++ t) same
appended (Err e) old new xs ys is same = tt

all_push : {X : Type 0} (P : X → Type 0) (xs : List X) (x : X) → AllByRecursion P xs → P x → AllByRecursion P (xs ++ x ∷ [])
all_push P [] x all one = (one, tt)
all_push P (y ∷ xs) x all one = (all.0, all_push P xs x all.1 one)

-- one more of the values in front
pub all_more : {X : Type 0} (P : X → Type 0) (xs : List X) (i : ℕ) (d : X) → i < length xs → AllByRecursion P (take i xs) → P (get_or xs i d) → AllByRecursion P (take (i + 1) xs)
all_more P xs i d lt all one = rw (take_more xs i d lt) (all_push P (take i xs) (get_or xs i d) all one)

-- the header, which counts its own number, and the bodies
pub spelling_len : (row : List Value) → length (spelling row) ≡ header_len (length (types_spelled row)) + length (flat_map body row)
spelling_len row =
    let types_len = length (types_spelled row) in
    let number = varint (header_len types_len) in
    omega (arith, length-append (number ++ types_spelled row) (flat_map body row), length-append number (types_spelled row), length-varint (header_len types_len), header_len_is types_len)
