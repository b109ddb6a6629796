-- What the limits of a statement mean, said of how its tokens stand in brackets.
use Rattle.std.specs.Prelude.{ℕ, ◌+◌, ◌≤◌, max, Bool, true, false, List, [], ◌∷◌, ◌++◌}
use Rattle.std.specs.List.{All}
use Rattle.sql_grammar.specs.declared.counts.Limit.{Limit}
use Rattle.sql_grammar.specs.declared.counts.Limit.TheVariants as limit
use Rattle.sql_grammar.specs.declared.counts.Role.TheVariants as role
use Rattle.sql_grammar.specs.declared.counts.TheConstants.{MAX_NESTINGS, MAX_OPERATORS, MAX_PARTS}
use Rattle.sql_grammar.specs.Marks.{Mark, stays}
use Rattle.sql_limits.specs.Nestings.{quiet, operator, fresh, part, of_expression, of_others, Nested, nothing, token, bracket}

-- ---- brackets and CASEs that are open at one place

abbrev pub depth : Nested → ℕ
depth nothing = 0
depth (token s t behind) = depth behind
depth (bracket b t inside z behind) = max (1 + depth inside) (depth behind)

-- ---- operators of an outermost expression, with those of the queries in it

-- all operators, in whatever brackets they stand
abbrev pub operators : Nested → ℕ
operators nothing = 0
operators (token operator t behind) = 1 + operators behind
operators (token s t behind) = operators behind
operators (bracket b t inside z behind) = operators inside + operators behind

-- The expression that stands in front: up to the first token, or bracket, that stands in no expression. It may have no token.
abbrev pub first_expression : Nested → Nested
first_expression nothing = nothing
first_expression (token quiet t behind) = token quiet t (first_expression behind)
first_expression (token operator t behind) = token operator t (first_expression behind)
first_expression (token s t behind) = nothing
first_expression (bracket of_expression t inside z behind) = bracket of_expression t inside z (first_expression behind)
first_expression (bracket of_others t inside z behind) = nothing

-- The others. Behind each token that stands in no expression another begins; and so in each bracket that stands in none, and behind it.
abbrev pub other_expressions : Nested → List Nested
other_expressions nothing = []
other_expressions (token quiet t behind) = other_expressions behind
other_expressions (token operator t behind) = other_expressions behind
other_expressions (token s t behind) = first_expression behind ∷ other_expressions behind
other_expressions (bracket of_expression t inside z behind) = other_expressions behind
other_expressions (bracket of_others t inside z behind) = (first_expression inside ∷ other_expressions inside) ++ first_expression behind ∷ other_expressions behind

-- the expressions that stand in no bracket of another one
abbrev pub outermost_expressions : Nested → List Nested
outermost_expressions n = first_expression n ∷ other_expressions n

-- ---- parts of a query

-- those that stand in no bracket of it
abbrev pub parts : Nested → ℕ
parts nothing = 0
parts (token part t behind) = 1 + parts behind
parts (token s t behind) = parts behind
parts (bracket b t inside z behind) = parts behind

-- the query that stands in front: up to the first token behind which none goes on
abbrev pub first_query : Nested → Nested
first_query nothing = nothing
first_query (token fresh t behind) = nothing
first_query (token s t behind) = token s t (first_query behind)
first_query (bracket b t inside z behind) = bracket b t inside z (first_query behind)

-- the others, which begin behind such a token or in a bracket
abbrev pub other_queries : Nested → List Nested
other_queries nothing = []
other_queries (token fresh t behind) = first_query behind ∷ other_queries behind
other_queries (token s t behind) = other_queries behind
other_queries (bracket b t inside z behind) = (first_query inside ∷ other_queries inside) ++ other_queries behind

abbrev pub queries : Nested → List Nested
queries n = first_query n ∷ other_queries n

-- ---- the limits

abbrev pub Keeps : Limit → Nested → Type 0
Keeps limit.Nestings n = depth n ≤ MAX_NESTINGS
Keeps limit.Operators n = All (λ e. operators e ≤ MAX_OPERATORS) (outermost_expressions n)
Keeps limit.Parts n = All (λ q. parts q ≤ MAX_PARTS) (queries n)

abbrev pub KeepsAll : Nested → Type 0
KeepsAll n = (l : Limit) → Keeps l n

-- ---- the tokens that are counted

abbrev pub is_operator : Mark → Bool
is_operator (stays role.Operator) = true
is_operator _ = false

abbrev pub is_part : Mark → Bool
is_part (stays role.Part) = true
is_part _ = false
