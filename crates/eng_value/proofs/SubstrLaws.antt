-- A part of a text or blob by its places, as a front of an end.
use Rattle.std.proofs.Common.{◌≡◌, ℕ, suc, ◌+◌, ◌-◌, ◌<◌, ◌≤◌, true, false, List, [], ◌∷◌, ◌++◌, length, take, drop, Some, None, ℤ, pos, negsuc, ◌+ℤ◌, int_lt, int_le, refl, sym, ap, ◌∙◌, inl, inr, arith, length-drop}
use Rattle.std.proofs.Math.Seq.{drop-nil, take-nil}
use Rattle.std.proofs.lemmas.Bool.{cases_lt, le-leb, le-ltb, lt-leb, lt-ltb}
use Rattle.std.proofs.lemmas.Bool.Decides.{nat_tests}
use Rattle.std.proofs.lemmas.Int.{ints}
use Rattle.std.proofs.lemmas.List.{drop-take, take-append-drop, take_all}
use Rattle.eng_value.specs.Functions.{part, start_of, substr_in}

-- ---- parts

later : (from : ℤ) (here : ℕ) → int_le from (pos here) ≡ true → int_le from (pos (here + 1)) ≡ true
later (pos a) here le = grind (arith, nat_tests)
later (negsuc a) here le = refl

-- from a place that is not ahead: a front
part-front : (from : ℤ) (to here : ℕ) (xs : List ℕ) → int_le from (pos here) ≡ true → part from (pos to) (pos here) xs ≡ take (to - here) xs
part-front from to here [] le = sym (take-nil (to - here))
part-front from to here (x ∷ xs) le =
    let rest = part-front from to (here + 1) xs (later from here le) in
    elim (cases_lt here to) [
      | inl inside ↦ let size : to - here ≡ suc (to - (here + 1)) = omega arith in rw (le, lt-ltb here to inside, size) (ap (λ ys. x ∷ ys) rest)
      | inr outside ↦
          let none : to - here ≡ 0 = omega arith in
          let none_behind : to - (here + 1) ≡ 0 = omega arith in
          rw (le, le-ltb here to outside, none) (rw none_behind at rest)
    ]

-- from a place that is: a front of what begins there
part-behind : (from to here : ℕ) (xs : List ℕ) → here ≤ from → part (pos from) (pos to) (pos here) xs ≡ take (to - from) (drop (from - here) xs)
part-behind from to here [] le = sym (ap (take (to - from)) (drop-nil (from - here)) ∙ take-nil (to - from))
part-behind from to here (x ∷ xs) le =
    elim (cases_lt here from) [
      | inl ahead ↦ let behind : from - here ≡ suc (from - (here + 1)) = omega arith in rw (lt-leb from here ahead, behind) (part-behind from to (here + 1) xs (omega arith))
      | inr reached ↦
          let none : from - here ≡ 0 = omega arith in
          let size : to - from ≡ to - here = omega arith in
          rw (none, size) (part-front (pos from) to here (x ∷ xs) (le-leb from here reached))
    ]

part-rest : (y : ℕ) (xs : List ℕ) → part (pos (y + 1)) (pos (length xs + 1)) (pos 1) xs ≡ drop y xs
part-rest y xs =
    let front : y + 1 - 1 ≡ y = omega arith in
    part-behind (y + 1) (length xs + 1) 1 xs (omega arith) ∙ rw front (take_all _ (drop y xs) (omega (arith, length-drop y xs)))

part-up_to : (from : ℤ) (y : ℕ) (xs : List ℕ) → int_le from (pos 1) ≡ true → part from (pos (y + 1)) (pos 1) xs ≡ take y xs
part-up_to from y xs le = let size : y + 1 - 1 ≡ y = omega arith in part-front from (y + 1) 1 xs le ∙ rw size refl

-- ---- places

start-positive : (n y : ℕ) → start_of n (pos y) ≡ pos y
start-positive n y = let none : int_lt (pos y) (pos 0) ≡ false = le-ltb y 0 (omega arith) in rw none refl

pub substr_part : (y z : ℕ) (xs : List ℕ) → substr_in (pos (y + 1)) (Some (pos z)) xs ≡ take z (drop y xs)
substr_part y z xs =
    let none : int_lt (pos z) (pos 0) ≡ false = le-ltb z 0 (omega arith) in
    let size : y + 1 + z - (y + 1) ≡ z = omega arith in
    let front : y + 1 - 1 ≡ y = omega arith in
    rw (none, start-positive (length xs) (y + 1)) (part-behind (y + 1) (y + 1 + z) 1 xs (omega arith) ∙ rw (size, front) refl)

pub substr_rest : (y : ℕ) (xs : List ℕ) → substr_in (pos (y + 1)) None xs ≡ drop y xs
substr_rest y xs = rw (start-positive (length xs) (y + 1)) (part-rest y xs)

pub substr_halves : (n : ℕ) (xs : List ℕ) → substr_in (pos 1) (Some (pos n)) xs ++ substr_in (pos (n + 1)) None xs ≡ xs
substr_halves n xs = rw (substr_part 0 n xs, substr_rest n xs) (take-append-drop n xs)

-- ---- places from the end, and lengths to the front

-- n behind the start and k + 1 back
back-within : (n k : ℕ) → k < n → pos n +ℤ negsuc k +ℤ pos 1 ≡ pos (n - suc k + 1)
back-within n k lt = omega (arith, ints)

back-before : (n k : ℕ) → n ≤ k → int_le (pos n +ℤ negsuc k +ℤ pos 1) (pos 1) ≡ true
back-before n k le = grind (arith, ints)

pub substr_end : (k : ℕ) (xs : List ℕ) → substr_in (negsuc k) None xs ≡ drop (length xs - suc k) xs
substr_end k xs =
    elim (cases_lt k (length xs)) [
      | inl within ↦ ap (λ from. part from (pos (length xs + 1)) (pos 1) xs) (back-within (length xs) k within) ∙ part-rest (length xs - suc k) xs
      | inr before ↦
          let none : length xs - suc k ≡ 0 = omega arith in
          part-up_to (pos (length xs) +ℤ negsuc k +ℤ pos 1) (length xs) xs (back-before (length xs) k before) ∙ take_all (length xs) xs (omega arith) ∙ rw none refl
    ]

start-within : (y k : ℕ) → k < y → pos (y + 1) +ℤ negsuc k ≡ pos (y - suc k + 1)
start-within y k lt = omega (arith, ints)

start-before : (y k : ℕ) → y ≤ k → int_le (pos (y + 1) +ℤ negsuc k) (pos 1) ≡ true
start-before y k le = grind (arith, ints)

pub substr_before : (y k : ℕ) (xs : List ℕ) → substr_in (pos (y + 1)) (Some (negsuc k)) xs ≡ drop (y - suc k) (take y xs)
substr_before y k xs =
    rw (start-positive (length xs) (y + 1)) (elim (cases_lt k y) [
      | inl within ↦
          let front : y - suc k + 1 - 1 ≡ y - suc k = omega arith in
          let size : y + 1 - (y - suc k + 1) ≡ suc k = omega arith in
          let whole : y - suc k + suc k ≡ y = omega arith in
          ap (λ from. part from (pos (y + 1)) (pos 1) xs) (start-within y k within) ∙ part-behind (y - suc k + 1) (y + 1) 1 xs (omega arith) ∙ rw (front, size) (sym (rw whole at (drop-take (y - suc k) (suc k) xs)))
      | inr before ↦ let none : y - suc k ≡ 0 = omega arith in part-up_to (pos (y + 1) +ℤ negsuc k) y xs (start-before y k before) ∙ rw none refl
    ])
