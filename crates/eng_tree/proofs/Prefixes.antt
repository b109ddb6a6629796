-- Keys stand to one another as their first bytes, read as numbers, and else as what is left of them.
use Rattle.std.proofs.Common.{◌≡◌, ℕ, zero, suc, ◌+◌, ◌*◌, ◌^◌, ◌<◌, ◌≤◌, List, [], ◌∷◌, length, get_or, nat_cmp, refl, sym, ap, ◌∙◌, arith}
use Rattle.std.specs.Prelude.{◌-◌, drop, take}
use Rattle.std.proofs.Math.Nat.{pow-suc, mul_comm, mul-le-mul_right, pow-le-pow_right}
use Rattle.std.proofs.lemmas.Bool.Decides.{nat_tests}
use Rattle.std.specs.declared.cmp.Ordering.{Ordering}
use Rattle.std.specs.declared.cmp.Ordering.TheVariants.{Less, Equal, Greater}
use Rattle.std.proofs.Math.Seq.{take-length}
use Rattle.std.proofs.lemmas.List.{length-drop}
use Rattle.std.proofs.lemmas.Cmp.{ranked, by_ranked}
use Rattle.std.specs.Cmp.{nat_cmp_is}
use Rattle.std.specs.Ordering.{ordering_then}
use Rattle.std.specs.Cmp.Lexicographic.{slice_cmp}
use Rattle.eng_tree.specs.Prefix.{worth}

abbrev AreBytes : List ℕ → Type 0
AreBytes xs = (i : ℕ) → get_or xs i 0 < 256

tail_bytes : (x : ℕ) (xs : List ℕ) → AreBytes (x ∷ xs) → AreBytes xs
tail_bytes x xs bytes i = bytes (suc i)

some_unit : (k : ℕ) → 0 < 256 ^ k
some_unit k = pow-le-pow_right {n = 256} (omega arith) {i = 0} {j = k} (omega arith)

nat_cmp-add : (n r s : ℕ) → nat_cmp r s ≡ nat_cmp (n + r) (n + s)
nat_cmp-add n r s = grind (arith, nat_tests)

digits_less : (base a b r s : ℕ) → a < b → r < base → a * base + r < b * base + s
digits_less base a b r s less h = let row : suc a * base ≤ b * base = mul-le-mul_right base less in omega (arith, row)

-- the high digits decide, and else the low ones, to any base
nat_cmp-digits : (base a b r s : ℕ) → r < base → s < base → ordering_then (nat_cmp a b) (nat_cmp r s) ≡ nat_cmp (a * base + r) (b * base + s)
nat_cmp-digits base a b r s h k =
    by_ranked _ _ _ (nat_cmp a b) (ranked a b _ refl)
    (λ is less. ap (λ o. ordering_then o (nat_cmp r s)) is ∙ nat_cmp_is _ _ Less (digits_less base a b r s less h))
    (λ is same. ap (λ o. ordering_then o (nat_cmp r s)) is ∙ rw same (nat_cmp-add (b * base) r s))
    (λ is greater. ap (λ o. ordering_then o (nat_cmp r s)) is ∙ nat_cmp_is _ _ Greater (digits_less base b a s r greater k))

worth-below : (n : ℕ) (xs : List ℕ) → AreBytes xs → worth n xs < 256 ^ n
worth-below zero xs bytes = omega arith
worth-below (suc n) [] bytes = some_unit (suc n)
worth-below (suc n) (x ∷ xs) bytes =
    let rest = worth-below n xs (tail_bytes x xs bytes) in
    let row : suc x * 256 ^ n ≤ 256 * 256 ^ n = mul-le-mul_right (256 ^ n) (bytes 0) in
    let whole : 256 ^ suc n ≡ 256 * 256 ^ n = pow-suc 256 n ∙ mul_comm (256 ^ n) 256 in
    omega (arith, rest, row, whole)

then_assoc : (a b c : Ordering) → ordering_then a (ordering_then b c) ≡ ordering_then (ordering_then a b) c
then_assoc Less b c = refl
then_assoc Equal b c = refl
then_assoc Greater b c = refl

pub by_prefix : (n : ℕ) (xs ys : List ℕ) → AreBytes xs → AreBytes ys → n ≤ length xs → n ≤ length ys → slice_cmp nat_cmp xs ys ≡ ordering_then (nat_cmp (worth n xs) (worth n ys)) (slice_cmp nat_cmp (drop n xs) (drop n ys))
by_prefix zero xs ys bx by hx hy = refl
by_prefix (suc n) [] ys bx by hx hy = absurd (omega (arith, hx))
by_prefix (suc n) (x ∷ xs) [] bx by hx hy = absurd (omega (arith, hy))
by_prefix (suc n) (x ∷ xs) (y ∷ ys) bx by hx hy =
    ap (ordering_then (nat_cmp x y)) (by_prefix n xs ys (tail_bytes x xs bx) (tail_bytes y ys by) (omega (arith, hx)) (omega (arith, hy)))
    ∙ then_assoc (nat_cmp x y) (nat_cmp (worth n xs) (worth n ys)) (slice_cmp nat_cmp (drop n xs) (drop n ys))
    ∙ ap (λ o. ordering_then o (slice_cmp nat_cmp (drop n xs) (drop n ys))) (nat_cmp-digits (256 ^ n) x y (worth n xs) (worth n ys) (worth-below n xs (tail_bytes x xs bx)) (worth-below n ys (tail_bytes y ys by)))

-- what is left behind so many
pub left_behind : (n : ℕ) (xs : List ℕ) → take (length xs - n) (drop n xs) ≡ drop n xs
left_behind n xs = ap (λ k. take k (drop n xs)) (sym (length-drop n xs)) ∙ take-length (drop n xs)
