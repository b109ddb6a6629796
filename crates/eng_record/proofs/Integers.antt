-- An integer's body says the integer, and is the only one of its length that does.
use Rattle.std.proofs.Common.{◌≡◌, ℕ, zero, suc, ◌+◌, ◌-◌, ◌*◌, ◌^◌, ◌<◌, ◌≤◌, Bool, true, false, ltb, List, [], ◌∷◌, ◌++◌, length, drop, replicate, refl, sym, ap, inl, inr, ◌∙◌, arith}
use Rattle.std.specs.Prelude.{ℤ, pos, negsuc, neg_ℤ, int_le, ◌&&◌}
use Rattle.std.specs.Int.{w64, from_be_bytes, byte_at, bytes_high_first, cast_signed, cast_unsigned}
use Rattle.std.proofs.lemmas.Bool.{cases_lt, and_from, le-leb, cond_both, ltb-true, leb-true, lt-ltb, le-ltb, and_parts}
use Rattle.std.proofs.lemmas.List.{length-append, length-replicate, drop_at}
use Rattle.std.proofs.lemmas.Nat.{pow_pos, be_bytes_8, from_be_bytes-to_be_bytes_8}
use Rattle.std.proofs.lemmas.Int.{ints, to_z-of_z, of_z-to_z}
use Rattle.eng_record.specs.Spelling.{fits_in, integer_len}
use Rattle.eng_record.specs.Reading.{sign_of, signed}
use Rattle.eng_record.proofs.Steps.{IsBytes, IsBytes-fill}

-- ---- widths

-- the lengths of the types with bodies
pub data IsWidth : ℕ → Type 0 where
  one : IsWidth 1
  two : IsWidth 2
  three : IsWidth 3
  four : IsWidth 4
  six : IsWidth 6
  eight : IsWidth 8

-- all eight bytes of the number that these say
abbrev filled : List ℕ → List ℕ
filled bytes = replicate (8 - length bytes) (sign_of bytes) ++ bytes

-- ---- what is written is read again

filled_low : (k n : ℕ) → IsWidth k → n < 2 ^ (8 * k - 1) → from_be_bytes w64 (filled (bytes_high_first k n)) ≡ n
filled_low k n one h = let top : ltb (byte_at 0 n) 128 ≡ true = lt-ltb _ _ (omega arith) in rw top (omega arith)
filled_low k n two h = let top : ltb (byte_at 1 n) 128 ≡ true = lt-ltb _ _ (omega arith) in rw top (omega arith)
filled_low k n three h = let top : ltb (byte_at 2 n) 128 ≡ true = lt-ltb _ _ (omega arith) in rw top (omega arith)
filled_low k n four h = let top : ltb (byte_at 3 n) 128 ≡ true = lt-ltb _ _ (omega arith) in rw top (omega arith)
filled_low k n six h = let top : ltb (byte_at 5 n) 128 ≡ true = lt-ltb _ _ (omega arith) in rw top (omega arith)
filled_low k n eight h = from_be_bytes-to_be_bytes_8 n (omega arith)

filled_high : (k n : ℕ) → IsWidth k → 2 ^ 64 - 2 ^ (8 * k - 1) ≤ n → n < 2 ^ 64 → from_be_bytes w64 (filled (bytes_high_first k n)) ≡ n
filled_high k n one h fits = let top : ltb (byte_at 0 n) 128 ≡ false = le-ltb _ _ (omega arith) in rw top (omega arith)
filled_high k n two h fits = let top : ltb (byte_at 1 n) 128 ≡ false = le-ltb _ _ (omega arith) in rw top (omega arith)
filled_high k n three h fits = let top : ltb (byte_at 2 n) 128 ≡ false = le-ltb _ _ (omega arith) in rw top (omega arith)
filled_high k n four h fits = let top : ltb (byte_at 3 n) 128 ≡ false = le-ltb _ _ (omega arith) in rw top (omega arith)
filled_high k n six h fits = let top : ltb (byte_at 5 n) 128 ≡ false = le-ltb _ _ (omega arith) in rw top (omega arith)
filled_high k n eight h fits = from_be_bytes-to_be_bytes_8 n fits

le_below : (n limit : ℕ) → 0 < limit → int_le (neg_ℤ (pos limit)) (negsuc n) ≡ true → n < limit
le_below n zero some e = absurd (omega arith)
le_below n (suc limit) some e = grind (arith, ints)

fits_pos : (k n : ℕ) → fits_in k (pos n) ≡ true → n < 2 ^ (8 * k - 1)
fits_pos k n e = ltb-true _ _ (and_parts _ _ e).1

fits_negsuc : (k n : ℕ) → fits_in k (negsuc n) ≡ true → n < 2 ^ (8 * k - 1)
fits_negsuc k n e = le_below n (2 ^ (8 * k - 1)) (pow_pos (8 * k - 1)) (and_parts _ _ e).0

back_pos : (n : ℕ) → n < 2 ^ 63 → cast_signed w64 n ≡ pos n
back_pos n h = omega (arith, ints)

back_negsuc : (n : ℕ) → n < 2 ^ 63 → cast_signed w64 (2 ^ 64 - suc n) ≡ negsuc n
back_negsuc n h = to_z-of_z w64 (negsuc n) (record { sfits = omega arith })

limit_small : (k : ℕ) → IsWidth k → 2 ^ (8 * k - 1) ≤ 2 ^ 63
limit_small k one = omega arith
limit_small k two = omega arith
limit_small k three = omega arith
limit_small k four = omega arith
limit_small k six = omega arith
limit_small k eight = omega arith

pub signed_again : (k : ℕ) (n : ℤ) → IsWidth k → fits_in k n ≡ true → signed (bytes_high_first k (cast_unsigned w64 n)) ≡ n
unfolding signed
signed_again k (pos n) width fits =
    let small = fits_pos k n fits in
    ap (cast_signed w64) (filled_low k n width small) ∙ back_pos n (omega (arith, limit_small k width))
signed_again k (negsuc n) width fits =
    let small = fits_negsuc k n fits in
    ap (cast_signed w64) (filled_high k (2 ^ 64 - suc n) width (omega (arith, limit_small k width)) (omega arith)) ∙ back_negsuc n (omega (arith, limit_small k width))

-- ---- what is read would be written so

pub length-high : (k n : ℕ) → length (bytes_high_first k n) ≡ k
length-high zero n = refl
length-high (suc k) n = ap suc (length-high k n)

drop-high : (j k all n : ℕ) → all ≡ j + k → drop j (bytes_high_first all n) ≡ bytes_high_first k n
drop-high zero k all n e = ap (λ m. bytes_high_first m n) (omega (arith, e))
drop-high (suc j) k zero n e = absurd (omega (arith, e))
drop-high (suc j) k (suc all) n e = drop-high j k all n (omega (arith, e))

sign_fits : (bytes : List ℕ) → sign_of bytes < 256
sign_fits [] = omega arith
sign_fits (b ∷ bytes) = cond_both (ltb b 128) 0 255 (λ s. s < 256) (λ _. omega arith) (λ _. omega arith)

filled_len : (bytes : List ℕ) → length bytes ≤ 8 → length (filled bytes) ≡ 8
filled_len bytes most = omega (arith, length-append (replicate (8 - length bytes) (sign_of bytes)) bytes, length-replicate (8 - length bytes) (sign_of bytes))

filled_fits : (bytes : List ℕ) → IsBytes bytes → IsBytes (filled bytes)
filled_fits bytes fits = IsBytes-fill (8 - length bytes) (sign_of bytes) bytes (sign_fits bytes) fits

eight_bytes_small : (bytes : List ℕ) → IsBytes bytes → from_be_bytes w64 bytes < 2 ^ 64
eight_bytes_small bytes fits = omega (arith, fits 0, fits 1, fits 2, fits 3, fits 4, fits 5, fits 6, fits 7)

pub signed_written : (k : ℕ) (bytes : List ℕ) → k ≤ 8 → length bytes ≡ k → IsBytes bytes → bytes_high_first k (cast_unsigned w64 (signed bytes)) ≡ bytes
unfolding signed
signed_written k bytes most len fits =
    let all = filled bytes in
    let all_fit = filled_fits bytes fits in
    let missing = 8 - length bytes in
    let signs = replicate missing (sign_of bytes) in
    let n = from_be_bytes w64 all in
    ap (bytes_high_first k) (of_z-to_z w64 n (eight_bytes_small all all_fit))
    ∙ sym (drop-high missing k 8 n (omega arith))
    ∙ ap (drop missing) (be_bytes_8 all n (filled_len bytes (omega arith)) all_fit refl)
    ∙ drop_at signs bytes missing (length-replicate missing (sign_of bytes))

cast_fits : (n : ℕ) → n < 2 ^ 64 → fits_in 8 (cast_signed w64 n) ≡ true
cast_fits n small =
    elim (cases_lt n (2 ^ 63)) [
      | inl lt ↦ rw (back_pos n lt) (lt-ltb n (2 ^ 63) lt)
      | inr ge ↦
          let m = 2 ^ 64 - suc n in
          let same : 2 ^ 64 - suc m ≡ n = omega arith in
          let value : cast_signed w64 n ≡ negsuc m = ap (cast_signed w64) (sym same) ∙ back_negsuc m (omega arith) in
          rw value (and_from _ _ (le-leb m (2 ^ 63 - 1) (omega arith)) refl)
    ]

-- what is read has 64 bits
pub signed_fits : (bytes : List ℕ) → IsBytes bytes → fits_in 8 (signed bytes) ≡ true
unfolding signed
signed_fits bytes fits = cast_fits (from_be_bytes w64 (filled bytes)) (eight_bytes_small (filled bytes) (filled_fits bytes fits))

-- ---- how many bytes an integer takes

pub data IsLenOf (n : ℤ) : ℕ → Type 0 where
  zero_len : n ≡ pos 0 → IsLenOf n 0
  one_len : n ≡ pos 1 → IsLenOf n 0
  width_len : {k : ℕ} → IsWidth k → fits_in k n ≡ true → IsLenOf n k

not_larger : (n : ℤ) → int_le (pos 0) n && int_le n (pos 1) ≡ true → IsLenOf n 0
not_larger (pos zero) e = zero_len refl
not_larger (pos (suc zero)) e = one_len refl
not_larger (pos (suc (suc n))) e =
    let parts = and_parts (int_le (pos 0) (pos (suc (suc n)))) (int_le (pos (suc (suc n))) (pos 1)) e in
    absurd (omega (arith, leb-true (suc (suc n)) 1 parts.1))
not_larger (negsuc n) e = absurd cc

pub integer_len_is : (n : ℤ) → fits_in 8 n ≡ true → IsLenOf n (integer_len n)
unfolding integer_len
integer_len_is n fits =
    let next = λ (b : Bool) (x y : ℕ). cond_both b x y (IsLenOf n) in
    next _ _ _ (λ e. next _ _ _ (λ none. not_larger n none) (λ _. width_len one e)) (λ _.
    next _ _ _ (λ e. width_len two e) (λ _.
    next _ _ _ (λ e. width_len three e) (λ _.
    next _ _ _ (λ e. width_len four e) (λ _.
    next _ _ _ (λ e. width_len six e) (λ _. width_len eight fits)))))
