-- The bytes of numbers, high first: bytes they are, and they stand to one another as the numbers.
use Rattle.std.proofs.Common.{◌≡◌, ℕ, zero, suc, ◌+◌, ◌*◌, ◌/◌, ◌%◌, ◌^◌, ◌<◌, ◌≤◌, get_or, nat_cmp, refl, ap, ◌∙◌, arith}
use Rattle.std.proofs.Math.Arith.{mod-mul}
use Rattle.std.proofs.Math.Nat.{pow-suc, mul_comm, mul-le-mul_right, pow-le-pow_right}
use Rattle.std.proofs.lemmas.Bool.Decides.{nat_tests}
use Rattle.std.specs.declared.cmp.Ordering.TheVariants.{Less, Greater}
use Rattle.std.proofs.lemmas.Nat.{mod_below}
use Rattle.std.proofs.lemmas.Cmp.{ranked, by_ranked}
use Rattle.std.specs.Cmp.{nat_cmp_is}
use Rattle.std.specs.Int.{byte_at, bytes_high_first}
use Rattle.std.specs.Ordering.{ordering_then}
use Rattle.std.specs.Cmp.Lexicographic.{slice_cmp}

byte_at-below : (k n : ℕ) → byte_at k n < 256
byte_at-below zero n = omega arith
byte_at-below (suc k) n = mod_below (n / 256 ^ suc k) 256 (omega arith)

-- each place holds a byte, and 0 is read behind the end
pub bytes_high_first-bytes : (k n i : ℕ) → get_or (bytes_high_first k n) i 0 < 256
bytes_high_first-bytes zero n i = omega arith
bytes_high_first-bytes (suc k) n zero = byte_at-below k n
bytes_high_first-bytes (suc k) n (suc i) = bytes_high_first-bytes k n i

nat_cmp-add : (n r s : ℕ) → nat_cmp r s ≡ nat_cmp (n + r) (n + s)
nat_cmp-add n r s = grind (arith, nat_tests)

digits_less : (base a b r s : ℕ) → a < b → r < base → a * base + r < b * base + s
digits_less base a b r s less h = let row : suc a * base ≤ b * base = mul-le-mul_right base less in omega (arith, row)

-- the high digits decide, and else the low ones, to any base
nat_cmp-digits : (base a b r s : ℕ) → r < base → s < base → ordering_then (nat_cmp a b) (nat_cmp r s) ≡ nat_cmp (a * base + r) (b * base + s)
nat_cmp-digits base a b r s h k =
    by_ranked _ _ _ (nat_cmp a b) (ranked a b _ refl)
    (λ is less. ap (λ o. ordering_then o (nat_cmp r s)) is ∙ nat_cmp_is _ _ Less (digits_less base a b r s less h))
    (λ is same. ap (λ o. ordering_then o (nat_cmp r s)) is ∙ rw same (nat_cmp-add (b * base) r s))
    (λ is greater. ap (λ o. ordering_then o (nat_cmp r s)) is ∙ nat_cmp_is _ _ Greater (digits_less base b a s r greater k))

some_unit : (k : ℕ) → 0 < 256 ^ k
some_unit k = pow-le-pow_right {n = 256} (omega arith) {i = 0} {j = k} (omega arith)

-- the low k + 1 bytes are the byte in front and the low k bytes
mod-byte : (k n : ℕ) → n % 256 ^ suc k ≡ byte_at k n * 256 ^ k + n % 256 ^ k
mod-byte zero n = omega arith
mod-byte (suc k) n = rw (pow-suc 256 (suc k), mul_comm (256 ^ suc k) 256) (mod-mul n {m = 256} {c = 256 ^ suc k} (omega arith) (some_unit (suc k)))

pub slice_cmp-bytes_high_first : (k m n : ℕ) → slice_cmp nat_cmp (bytes_high_first k m) (bytes_high_first k n) ≡ nat_cmp (m % 256 ^ k) (n % 256 ^ k)
slice_cmp-bytes_high_first zero m n = let low : (i : ℕ) → i % 256 ^ 0 ≡ 0 = (λ i. omega arith) in rw (low m, low n) refl
slice_cmp-bytes_high_first (suc k) m n =
    ap (ordering_then (nat_cmp (byte_at k m) (byte_at k n))) (slice_cmp-bytes_high_first k m n)
    ∙ nat_cmp-digits (256 ^ k) (byte_at k m) (byte_at k n) (m % 256 ^ k) (n % 256 ^ k) (mod_below m (256 ^ k) (some_unit k)) (mod_below n (256 ^ k) (some_unit k))
    ∙ rw (mod-byte k m, mod-byte k n) refl
