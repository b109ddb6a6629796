-- The places of a part, as so many elements in front of it.
use Rattle.std.specs.Prelude.{ℕ, zero, suc, ◌-◌, List, take, drop, ℤ, pos, negsuc, ◌+ℤ◌, int_lt, if◌then◌else◌, FitsSigned}
use Rattle.std.specs.Int.{w64}
use Rattle.eng_value.specs.Functions.{part}

-- how many elements stand in front of a place that is counted from 1 on
abbrev pub in_front : ℤ → ℕ
in_front (pos zero) = 0
in_front (pos (suc n)) = n
in_front (negsuc n) = 0

-- what stands behind the first so many elements, and within the first so many
abbrev pub between : ℕ → ℕ → List ℕ → List ℕ
between start end xs = take (end - start) (drop start xs)

-- from a place on, of this length
abbrev pub substr_from : ℤ → ℤ → List ℕ → List ℕ
substr_from from z xs = if int_lt z (pos 0) then part (from +ℤ z) from (pos 1) xs else part from (from +ℤ z) (pos 1) xs

-- 64 bits hold the place
abbrev pub IsNearby : ℤ → Type 0
IsNearby place = FitsSigned w64 place
