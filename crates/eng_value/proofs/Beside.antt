use Rattle.std.proofs.Common.{◌≡◌, ℕ, List, [], ◌∷◌, length, map, drop, get_or, min, suc, false, true, refl, sym, ◌∙◌, ◌+◌, ◌-◌, ◌<◌, add-one, arith}
use Rattle.std.proofs.Math.Seq.{drop-cons}
use Rattle.std.specs.Ordering.{nat_cmp, is_ne, ordering_then}
use Rattle.std.specs.Cmp.{nat_cmp_is}
use Rattle.std.specs.declared.cmp.Ordering.{Ordering}
use Rattle.std.specs.declared.cmp.Ordering.TheVariants.{Less, Equal, Greater}
use Rattle.eng_value.specs.Compare.{bytes_cmp}

nat_cmp-suc : (m n : ℕ) → nat_cmp m n ≡ nat_cmp (suc m) (suc n)
nat_cmp-suc m n = grind arith

-- behind the front that both have, the lengths decide
pub bytes_cmp-end : (f : ℕ → ℕ) (xs ys : List ℕ) (n : ℕ) → n ≡ min (length xs) (length ys) → bytes_cmp (map f (drop n xs)) (map f (drop n ys)) ≡ nat_cmp (length xs) (length ys)
bytes_cmp-end f [] [] n e = let none : n ≡ 0 = omega (arith, e) in rw none refl
bytes_cmp-end f [] (y ∷ ys) n e = let none : n ≡ 0 = omega (arith, e) in rw none (nat_cmp_is 0 (length (y ∷ ys)) Less (omega arith))
bytes_cmp-end f (x ∷ xs) [] n e = let none : n ≡ 0 = omega (arith, e) in rw none (nat_cmp_is (length (x ∷ xs)) 0 Greater (omega arith))
bytes_cmp-end f (x ∷ xs) (y ∷ ys) n e =
    let more : n ≡ suc (n - 1) = omega (arith, e) in
    rw more (bytes_cmp-end f xs ys (n - 1) (omega (arith, e)) ∙ nat_cmp-suc (length xs) (length ys))

-- the first bytes decide, or else the bytes behind them
bytes_cmp-step : (f : ℕ → ℕ) (xs ys : List ℕ) (n x y : ℕ) → n < length xs → n < length ys → x ≡ get_or xs n 0 → y ≡ get_or ys n 0 → bytes_cmp (map f (drop n xs)) (map f (drop n ys)) ≡ ordering_then (nat_cmp (f x) (f y)) (bytes_cmp (map f (drop (n + 1) xs)) (map f (drop (n + 1) ys)))
bytes_cmp-step f xs ys n x y p q e d = rw (add-one, drop-cons xs n 0, drop-cons ys n 0, e, d) refl

then-same : (o rest : Ordering) → is_ne o ≡ false → ordering_then o rest ≡ rest
then-same Less rest e = absurd (cc)
then-same Equal rest e = refl
then-same Greater rest e = absurd (cc)

then-other : (o rest : Ordering) → is_ne o ≡ true → ordering_then o rest ≡ o
then-other Less rest e = refl
then-other Equal rest e = absurd (cc)
then-other Greater rest e = refl

pub bytes_cmp-same : (f : ℕ → ℕ) (xs ys : List ℕ) (n x y : ℕ) → n < length xs → n < length ys → x ≡ get_or xs n 0 → y ≡ get_or ys n 0 → is_ne (nat_cmp (f x) (f y)) ≡ false → bytes_cmp (map f (drop (n + 1) xs)) (map f (drop (n + 1) ys)) ≡ bytes_cmp (map f (drop n xs)) (map f (drop n ys))
bytes_cmp-same f xs ys n x y p q e d same = sym (bytes_cmp-step f xs ys n x y p q e d ∙ then-same _ _ same)

pub bytes_cmp-other : (f : ℕ → ℕ) (xs ys : List ℕ) (n x y : ℕ) → n < length xs → n < length ys → x ≡ get_or xs n 0 → y ≡ get_or ys n 0 → is_ne (nat_cmp (f x) (f y)) ≡ true → nat_cmp (f x) (f y) ≡ bytes_cmp (map f (drop n xs)) (map f (drop n ys))
bytes_cmp-other f xs ys n x y p q e d other = sym (bytes_cmp-step f xs ys n x y p q e d ∙ then-other _ _ other)
