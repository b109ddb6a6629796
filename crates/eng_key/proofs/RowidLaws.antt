-- Laws of the keys of rowids.
use Rattle.std.proofs.Common.{◌≡◌, ℕ, List, ℤ, pos, ◌+ℤ◌, ◌<◌, ◌^◌, ◌%◌, Some, length, ◌==◌, subst, get_or, nat_cmp, refl, sym, ap, ◌∙◌, arith}
use Rattle.std.proofs.lemmas.Int.{ints}
use Rattle.std.proofs.lemmas.Nat.{be_bytes_8, from_be_bytes-to_be_bytes_8}
use Rattle.std.specs.Ordering.{int_cmp}
use Rattle.std.specs.Cmp.Lexicographic.{slice_cmp}
use Rattle.std.proofs.lemmas.Cmp.{ranked, by_ranked}
use Rattle.std.specs.Cmp.{int_cmp_is}
use Rattle.std.proofs.lemmas.Bool.{eqb-true}
use Rattle.std.proofs.lemmas.Option.{cond_some}
use Rattle.std.specs.Int.{w64, from_be_bytes}
use Rattle.std.specs.declared.cmp.Ordering.TheVariants.{Less, Equal, Greater}
use Rattle.eng_key.specs.Rowids.{IsRowid, distance_of, rowid_at, rowid_key, rowid_of}
use Rattle.eng_key.proofs.ByteOrder.{bytes_high_first-bytes, slice_cmp-bytes_high_first}

distance_is : (n : ℤ) → IsRowid n → pos (distance_of n) ≡ n +ℤ pos (2 ^ 63)
distance_is n fits = omega (arith, ints)

distance_fits : (n : ℤ) → IsRowid n → distance_of n < 2 ^ 64
distance_fits n fits = omega (arith, ints)

distance_mod : (n : ℤ) → IsRowid n → distance_of n % 256 ^ 8 ≡ distance_of n
distance_mod n fits = omega (arith, distance_fits n fits)

nat_cmp-distance : (a b : ℤ) → IsRowid a → IsRowid b → nat_cmp (distance_of a) (distance_of b) ≡ int_cmp a b
nat_cmp-distance a b fits_a fits_b =
    let is_a = distance_is a fits_a in
    let is_b = distance_is b fits_b in
    by_ranked _ _ _ (nat_cmp (distance_of a) (distance_of b)) (ranked (distance_of a) (distance_of b) _ refl)
    (λ is less. is ∙ int_cmp_is a b Less (omega (arith, ints, is_a, is_b)))
    (λ is same. is ∙ int_cmp_is a b Equal (omega (arith, ints, is_a, is_b)))
    (λ is greater. is ∙ int_cmp_is a b Greater (omega (arith, ints, is_a, is_b)))

-- a key is eight bytes
pub length-rowid_key : (n : ℤ) → length (rowid_key n) ≡ 8
unfolding rowid_key
length-rowid_key n = refl

pub rowid_key-bytes : (n : ℤ) (i : ℕ) → get_or (rowid_key n) i 0 < 256
unfolding rowid_key
rowid_key-bytes n i = bytes_high_first-bytes 8 (distance_of n) i

-- keys stand to one another as their rowids
pub keys_keep_the_order : (a b : ℤ) → IsRowid a → IsRowid b → slice_cmp nat_cmp (rowid_key a) (rowid_key b) ≡ int_cmp a b
unfolding rowid_key
keys_keep_the_order a b fits_a fits_b =
    slice_cmp-bytes_high_first 8 (distance_of a) (distance_of b)
    ∙ rw (distance_mod a fits_a, distance_mod b fits_b) (nat_cmp-distance a b fits_a fits_b)

rowid_at-distance_of : (n : ℤ) → IsRowid n → rowid_at (distance_of n) ≡ n
rowid_at-distance_of n fits = omega (arith, ints)

-- the key of a rowid gives the rowid back
pub rowid_comes_back : (n : ℤ) → IsRowid n → rowid_of (rowid_key n) ≡ Some n
unfolding rowid_key rowid_of
rowid_comes_back n fits =
    ap (λ distance. Some (rowid_at distance)) (from_be_bytes-to_be_bytes_8 (distance_of n) (distance_fits n fits))
    ∙ ap Some (rowid_at-distance_of n fits)

distance_of-rowid_at : (distance : ℕ) → distance_of (rowid_at distance) ≡ distance
distance_of-rowid_at distance = omega (arith, ints)

IsRowid-rowid_at : (distance : ℕ) → distance < 2 ^ 64 → IsRowid (rowid_at distance)
IsRowid-rowid_at distance fits = omega (arith, ints)

from_be_bytes-fits : (key : List ℕ) → ((i : ℕ) → get_or key i 0 < 256) → from_be_bytes w64 key < 2 ^ 64
from_be_bytes-fits key bytes = omega (arith, bytes 0, bytes 1, bytes 2, bytes 3, bytes 4, bytes 5, bytes 6, bytes 7)

-- only the key of a rowid gives a rowid
pub keys_are_of_rowids : (key : List ℕ) (n : ℤ) → ((i : ℕ) → get_or key i 0 < 256) → rowid_of key ≡ Some n → (key ≡ rowid_key n) × IsRowid n
unfolding rowid_key rowid_of
keys_are_of_rowids key n bytes is =
    let distance = from_be_bytes w64 key in
    let split = cond_some (length key == 8) (rowid_at distance) n is in
    let far : distance_of n ≡ distance = ap distance_of (sym split.1) ∙ distance_of-rowid_at distance in
    (sym (be_bytes_8 key (distance_of n) (eqb-true _ _ split.0) bytes far), subst IsRowid split.1 (IsRowid-rowid_at distance (from_be_bytes-fits key bytes)))
