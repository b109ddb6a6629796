-- Lists that are walked from left to right, of which no more than so many members count.
use Rattle.std.specs.Prelude.{ℕ, zero, suc, nat_le, nat_lt, List, [], ◌∷◌, length, Ok, Err, if◌then◌else◌}
use Rattle.eng_value.specs.declared.cause.Cause.TheVariants.{Limit}
use Rattle.eng_value.specs.declared.cause.LimitKind.TheVariants as limit
use Rattle.eng_value.specs.declared.limits.TheConstants.{MAX_COLUMNS}
use Rattle.sql_words.specs.Refusals.{◌>>=◌}
use Rattle.sql_bound.specs.Refusals.{Checked}

-- one member after another, and the limit at the first one that is too many
abbrev pub walked : {A B : Type 0} → (A → B → Checked B) → ℕ → List A → B → Checked B
walked f n [] b = Ok b
walked f zero (x ∷ xs) b = Err (Limit limit.Columns)
walked f (suc n) (x ∷ xs) b = f x b >>= λ c. walked f n xs c

-- of columns
abbrev pub by_column : {A B : Type 0} → (A → B → Checked B) → List A → B → Checked B
by_column f xs b = walked f MAX_COLUMNS xs b

abbrev pub within_columns : {A : Type 0} → List A → Checked (List A)
within_columns xs = if nat_le (length xs) MAX_COLUMNS then Ok xs else Err (Limit limit.Columns)

-- one more goes behind these
abbrev pub room_behind : {A : Type 0} → List A → Checked (Unit {0})
room_behind xs = if nat_lt (length xs) MAX_COLUMNS then Ok tt else Err (Limit limit.Columns)

-- how many items a FROM may have, and how deep queries may stand
abbrev pub most_items : ℕ
most_items = 16

abbrev pub most_queries : ℕ
most_queries = 20
