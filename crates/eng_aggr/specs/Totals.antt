-- Exact sums of integers.
use Rattle.std.specs.Prelude.{◌+◌, ◌*◌, ◌^◌, ℕ, ℤ, pos, neg_ℤ, ◌+ℤ◌, ◌≤ℤ◌}

-- the sum of some integers, and how many they are
pub record IntegerTotal : Type 0 where
  pub count : ℕ
  pub total : ℤ

abbrev pub integer_total : ℕ → ℤ → IntegerTotal
integer_total count total = record { count = count; total = total }

-- one integer more
abbrev pub with_integer : ℤ → IntegerTotal → IntegerTotal
with_integer n sum = integer_total (sum.count + 1) (sum.total +ℤ n)

-- so many integers of 64 bits are no further from 0
abbrev pub IsWithin : ℕ → ℤ → Type 0
IsWithin count total = (neg_ℤ (pos (count * 2 ^ 63)) ≤ℤ total) × (total ≤ℤ pos (count * 2 ^ 63))
