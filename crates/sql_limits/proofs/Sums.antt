-- Each operator is of one outermost expression, and each part of one query.
use Rattle.std.proofs.Common.{◌≡◌, ℕ, ◌+◌, Bool, cond, ◌∷◌, ◌++◌, refl, arith}
use Rattle.std.specs.List.{count_by, sum_by}
use Rattle.std.proofs.lemmas.List.Sums.{sum_by-append, sum_by-cons}
use Rattle.sql_tree.specs.declared.token.Token.{Token}
use Rattle.sql_grammar.specs.Marks.{stays, opens, closes, Marked, marked}
use Rattle.sql_limits.specs.Limits.{operators, first_expression, other_expressions, outermost_expressions, parts, first_query, other_queries, queries, is_operator, is_part}
use Rattle.sql_limits.specs.Nestings.{Single, quiet, operator, outside, fresh, part, Bracket, of_expression, of_others, Nested, nothing, token, bracket, role_of, opening_of, closing_of, flat}

abbrev one_if : (Marked → Bool) → Marked → ℕ
one_if p x = cond (p x) 1 0

abbrev counts_operator : Marked → Bool
counts_operator x = is_operator x.mark

abbrev counts_part : Marked → Bool
counts_part x = is_part x.mark

first_operator : (s : Single) (t : Token) (n : Nested) → count_by counts_operator (flat (token s t n)) ≡ one_if counts_operator (marked (stays (role_of s)) t) + count_by counts_operator (flat n)
first_operator s t n = sum_by-cons (one_if counts_operator) (marked (stays (role_of s)) t) (flat n)

bracket_operators : (b : Bracket) (t : Token) (m : Nested) (z : Token) (n : Nested) → count_by counts_operator (flat (bracket b t m z n)) ≡ count_by counts_operator (flat m) + count_by counts_operator (flat n)
bracket_operators b t m z n =
    let first = sum_by-cons (one_if counts_operator) (marked (opens (opening_of b)) t) (flat m ++ marked (closes (closing_of b)) z ∷ flat n) in
    let both = sum_by-append (one_if counts_operator) (flat m) (marked (closes (closing_of b)) z ∷ flat n) in
    let last = sum_by-cons (one_if counts_operator) (marked (closes (closing_of b)) z) (flat n) in
    omega arith

first_part : (s : Single) (t : Token) (n : Nested) → count_by counts_part (flat (token s t n)) ≡ one_if counts_part (marked (stays (role_of s)) t) + count_by counts_part (flat n)
first_part s t n = sum_by-cons (one_if counts_part) (marked (stays (role_of s)) t) (flat n)

bracket_parts : (b : Bracket) (t : Token) (m : Nested) (z : Token) (n : Nested) → count_by counts_part (flat (bracket b t m z n)) ≡ count_by counts_part (flat m) + count_by counts_part (flat n)
bracket_parts b t m z n =
    let first = sum_by-cons (one_if counts_part) (marked (opens (opening_of b)) t) (flat m ++ marked (closes (closing_of b)) z ∷ flat n) in
    let both = sum_by-append (one_if counts_part) (flat m) (marked (closes (closing_of b)) z ∷ flat n) in
    let last = sum_by-cons (one_if counts_part) (marked (closes (closing_of b)) z) (flat n) in
    omega arith

all_operators : (n : Nested) → operators n ≡ count_by counts_operator (flat n)
all_operators nothing = refl
all_operators (token quiet t n) = let s = first_operator quiet t n in let h = all_operators n in omega arith
all_operators (token operator t n) = let s = first_operator operator t n in let h = all_operators n in omega arith
all_operators (token outside t n) = let s = first_operator outside t n in let h = all_operators n in omega arith
all_operators (token fresh t n) = let s = first_operator fresh t n in let h = all_operators n in omega arith
all_operators (token part t n) = let s = first_operator part t n in let h = all_operators n in omega arith
all_operators (bracket b t m z n) = let s = bracket_operators b t m z n in let h = all_operators m in let k = all_operators n in omega arith

of_one : (n : Nested) → operators (first_expression n) + sum_by operators (other_expressions n) ≡ operators n
of_one nothing = refl
of_one (token quiet t n) = of_one n
of_one (token operator t n) = let h = of_one n in omega arith
of_one (token outside t n) = let h = of_one n in let s = sum_by-cons operators (first_expression n) (other_expressions n) in omega arith
of_one (token fresh t n) = let h = of_one n in let s = sum_by-cons operators (first_expression n) (other_expressions n) in omega arith
of_one (token part t n) = let h = of_one n in let s = sum_by-cons operators (first_expression n) (other_expressions n) in omega arith
of_one (bracket of_expression t m z n) = let h = of_one n in omega arith
of_one (bracket of_others t m z n) =
    let h = of_one m in
    let k = of_one n in
    let s = sum_by-cons operators (first_expression m) (other_expressions m) in
    let r = sum_by-cons operators (first_expression n) (other_expressions n) in
    let both = sum_by-append operators (first_expression m ∷ other_expressions m) (first_expression n ∷ other_expressions n) in
    omega arith

pub operators_of_one : (n : Nested) → sum_by operators (outermost_expressions n) ≡ count_by counts_operator (flat n)
operators_of_one n = let h = of_one n in let k = all_operators n in let s = sum_by-cons operators (first_expression n) (other_expressions n) in omega arith

part_of_one : (n : Nested) → parts (first_query n) + sum_by parts (other_queries n) ≡ count_by counts_part (flat n)
part_of_one nothing = refl
part_of_one (token quiet t n) = let s = first_part quiet t n in let h = part_of_one n in omega arith
part_of_one (token operator t n) = let s = first_part operator t n in let h = part_of_one n in omega arith
part_of_one (token outside t n) = let s = first_part outside t n in let h = part_of_one n in omega arith
part_of_one (token fresh t n) = let s = first_part fresh t n in let h = part_of_one n in let r = sum_by-cons parts (first_query n) (other_queries n) in omega arith
part_of_one (token part t n) = let s = first_part part t n in let h = part_of_one n in omega arith
part_of_one (bracket b t m z n) =
    let s = bracket_parts b t m z n in
    let h = part_of_one m in
    let k = part_of_one n in
    let r = sum_by-cons parts (first_query m) (other_queries m) in
    let both = sum_by-append parts (first_query m ∷ other_queries m) (other_queries n) in
    omega arith

pub parts_of_one : (n : Nested) → sum_by parts (queries n) ≡ count_by counts_part (flat n)
parts_of_one n = let h = part_of_one n in let s = sum_by-cons parts (first_query n) (other_queries n) in omega arith
