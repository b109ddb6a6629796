-- A part by places is what stands between two numbers of elements.
use Rattle.std.proofs.Common.{◌≡◌, ℕ, zero, suc, ◌-◌, true, false, List, [], ◌∷◌, None, length, take, drop, min, inl, inr, refl, sym, ap, ◌∙◌, arith, length-drop}
use Rattle.std.proofs.lemmas.Bool.{cases_lt, lt-ltb, le-ltb, le-leb, lt-leb}
use Rattle.std.proofs.lemmas.Int.{ints}
use Rattle.std.proofs.lemmas.List.{take_min, drop_min}
use Rattle.std.specs.Prelude.{ℤ, pos, negsuc, int_lt, int_le, nat_le, nat_lt, ◌+ℤ◌}
use Rattle.eng_value.specs.Functions.{part, start_of, substr_in}
use Rattle.eng_scalar.specs.Parts.{between, in_front, substr_from}

from_here : (from : ℤ) (k : ℕ) → int_le from (pos (suc k)) ≡ nat_le (in_front from) k
from_here (pos zero) k = grind arith
from_here (pos (suc m)) k = grind arith
from_here (negsuc m) k = grind arith

here_to : (to : ℤ) (k : ℕ) → int_lt (pos (suc k)) to ≡ nat_lt k (in_front to)
here_to (pos zero) k = grind arith
here_to (pos (suc m)) k = grind arith
here_to (negsuc m) k = grind arith

drop-nil : (n : ℕ) → drop {A = ℕ} n [] ≡ []
drop-nil zero = refl
drop-nil (suc n) = refl

take-nil : (n : ℕ) → take {A = ℕ} n [] ≡ []
take-nil zero = refl
take-nil (suc n) = refl

-- one element further on
next_place : (k : ℕ) → pos (suc k) +ℤ pos 1 ≡ pos (suc (suc k))
next_place k = omega (arith, ints)

-- where k elements stand in front
part_at : (from to : ℤ) (k : ℕ) (xs : List ℕ) → part from to (pos (suc k)) xs ≡ take (in_front to - k - (in_front from - k)) (drop (in_front from - k) xs)
part_at from to k [] = sym (ap (take (in_front to - k - (in_front from - k))) (drop-nil (in_front from - k)) ∙ take-nil (in_front to - k - (in_front from - k)))
part_at from to k (x ∷ xs) =
    let f = in_front from in
    let t = in_front to in
    let next : part from to (pos (suc k) +ℤ pos 1) xs ≡ take (t - suc k - (f - suc k)) (drop (f - suc k) xs) = ap (λ (here : ℤ). part from to here xs) (next_place k) ∙ part_at from to (suc k) xs in
    elim (cases_lt k f) [
      | inl before ↦
          let skip : f - k ≡ suc (f - suc k) = omega arith in
          let end : t - k - suc (f - suc k) ≡ t - suc k - (f - suc k) = omega arith in
          rw (from_here from k, lt-leb f k before, skip, end) next
      | inr begun ↦ elim (cases_lt k t) [
        | inl within ↦
            let none : f - k ≡ 0 = omega arith in
            let none_later : f - suc k ≡ 0 = omega arith in
            let more : t - k - 0 ≡ suc (t - suc k - 0) = omega arith in
            rw (from_here from k, le-leb f k begun, here_to to k, lt-ltb k t within, none, more) (ap (λ (r : List ℕ). x ∷ r) (rw none_later at next))
        | inr ended ↦
            let none : t - k - (f - k) ≡ 0 = omega arith in
            let none_later : t - suc k - (f - suc k) ≡ 0 = omega arith in
            rw (from_here from k, le-leb f k begun, here_to to k, le-ltb k t ended, none) (rw none_later at next)
      ]
    ]

-- no more than the list has need be counted
between-min : (f t n : ℕ) (xs : List ℕ) → length xs ≡ n → take (t - f) (drop f xs) ≡ between (min f n) (min t n) xs
between-min f t n xs len =
    let ys = drop f xs in
    let start : drop (min f n) xs ≡ ys = ap (λ (m : ℕ). drop (min f m) xs) (sym len) ∙ drop_min f xs in
    let size : min (t - f) (length ys) ≡ min (min t n - min f n) (length ys) = omega (arith, length-drop f xs) in
    rw start (sym (take_min (t - f) ys) ∙ ap (λ (m : ℕ). take m ys) size ∙ take_min (min t n - min f n) ys)

pub part_between : (from to : ℤ) (n : ℕ) (xs : List ℕ) → length xs ≡ n → part from to (pos 1) xs ≡ between (min (in_front from) n) (min (in_front to) n) xs
part_between from to n xs len =
    let f = in_front from in
    let t = in_front to in
    let start : f - 0 ≡ f = omega arith in
    let size : t - 0 - f ≡ t - f = omega arith in
    (rw (start, size) at (part_at from to 0 xs)) ∙ between-min f t n xs len

pub substr-negative : (from z : ℤ) (n start end : ℕ) → int_lt z (pos 0) ≡ true → start ≡ min (in_front (from +ℤ z)) n → end ≡ min (in_front from) n → (xs : List ℕ) → length xs ≡ n → substr_from from z xs ≡ between start end xs
substr-negative from z n start end below first last xs len = rw (below, first, last) (part_between (from +ℤ z) from n xs len)

pub substr-on : (from z : ℤ) (n start end : ℕ) → int_lt z (pos 0) ≡ false → start ≡ min (in_front from) n → end ≡ min (in_front (from +ℤ z)) n → (xs : List ℕ) → length xs ≡ n → substr_from from z xs ≡ between start end xs
substr-on from z n start end above first last xs len = rw (above, first, last) (part_between from (from +ℤ z) n xs len)

pub substr-rest : (y : ℤ) (n start end : ℕ) → start ≡ min (in_front (start_of n y)) n → end ≡ min (in_front (pos n +ℤ pos 1)) n → (xs : List ℕ) → length xs ≡ n → substr_in y None xs ≡ between start end xs
substr-rest y n start end first last xs len = rw (len, first, last) (part_between (start_of n y) (pos n +ℤ pos 1) n xs len)
