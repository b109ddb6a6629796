-- How small texts are nested, and what they count. Each letter in a text is a name.
use Rattle.std.specs.Prelude.{◌≡◌, ℕ, zero, suc, List, [], ◌∷◌, map, None, refl}
use Rattle.sql_tree.specs.declared.token.Token.{Token}
use Rattle.sql_tree.specs.declared.token.TokenKind.TheVariants as kind
use Rattle.sql_grammar.specs.declared.counts.Role.TheVariants as role
use Rattle.sql_grammar.specs.Marks.{marked, stays, opens}
use Rattle.sql_limits.specs.Fronts.{Closed}
use Rattle.sql_limits.specs.Limits.{depth, operators, outermost_expressions, parts, queries}
use Rattle.sql_limits.specs.Nestings.{quiet, operator, outside, fresh, part, of_expression, of_others, Nested, nothing, token, bracket}

-- ---- texts

-- which token it is does not matter
abbrev t : Token
t = record { kind = kind.Word; span = record { start = 0; end = 0 }; parameter = None }

-- one, and what comes behind it
infixr 5 ◌▸◌
abbrev ◌▸◌ : (Nested → Nested) → Nested → Nested
f ▸ n = f n

-- a name, a literal, WHEN ..
abbrev name : Nested → Nested
name n = token quiet t n

abbrev op : Nested → Nested
op n = token operator t n

-- a comma, FROM, UNION ..
abbrev out : Nested → Nested
out n = token outside t n

-- BEGIN of a trigger, and the semicolons in it
abbrev next : Nested → Nested
next n = token fresh t n

-- SELECT and VALUES
abbrev select : Nested → Nested
select n = token part t n

-- the bracket of an expression
abbrev inward : Nested → Nested → Nested
inward m n = bracket of_expression t m t n

-- any other
abbrev other : Nested → Nested → Nested
other m n = bracket of_others t m t n

abbrev operators_of_each : Nested → List ℕ
operators_of_each n = map operators (outermost_expressions n)

abbrev parts_of_each : Nested → List ℕ
parts_of_each n = map parts (queries n)

-- ---- brackets and CASEs

-- (a) + (b)
side_by_side : depth (inward (name ▸ nothing) ▸ op ▸ inward (name ▸ nothing) ▸ nothing) ≡ 1
side_by_side = refl

-- (a + (b))
one_in_another : depth (inward (name ▸ op ▸ inward (name ▸ nothing) ▸ nothing) ▸ nothing) ≡ 2
one_in_another = refl

-- CASE WHEN a THEN (b) END
in_a_case : depth (inward (name ▸ name ▸ name ▸ inward (name ▸ nothing) ▸ nothing) ▸ nothing) ≡ 2
in_a_case = refl

-- SELECT a FROM (SELECT b WHERE (c))
in_a_query : depth (select ▸ name ▸ out ▸ other (select ▸ name ▸ out ▸ inward (name ▸ nothing) ▸ nothing) ▸ nothing) ≡ 2
in_a_query = refl

-- a name in so many parentheses
abbrev enclosed : ℕ → Nested
enclosed zero = name ▸ nothing
enclosed (suc n) = inward (enclosed n) ▸ nothing

a_hundred : depth (enclosed 100) ≡ 100
a_hundred = refl

-- ---- operators

-- a (b + c, d * f) || g
in_arguments : operators_of_each (name ▸ inward (name ▸ op ▸ name ▸ out ▸ name ▸ op ▸ name ▸ nothing) ▸ op ▸ name ▸ nothing) ≡ 3 ∷ []
in_arguments = refl

-- (SELECT a + b, c + d WHERE f OR g) + h
with_a_query : operators_of_each (inward (select ▸ name ▸ op ▸ name ▸ out ▸ name ▸ op ▸ name ▸ out ▸ name ▸ op ▸ name ▸ nothing) ▸ op ▸ name ▸ nothing) ≡ 4 ∷ []
with_a_query = refl

-- a IN (SELECT b FROM (SELECT c + d WHERE f))
with_a_query_in_its_query : operators_of_each (name ▸ op ▸ inward (select ▸ name ▸ out ▸ other (select ▸ name ▸ op ▸ name ▸ out ▸ name ▸ nothing) ▸ nothing) ▸ nothing) ≡ 2 ∷ []
with_a_query_in_its_query = refl

-- SELECT a + b, c * d - f: nothing stands in front of SELECT
of_results : operators_of_each (select ▸ name ▸ op ▸ name ▸ out ▸ name ▸ op ▸ name ▸ op ▸ name ▸ nothing) ≡ 0 ∷ 1 ∷ 2 ∷ []
of_results = refl

-- SELECT a + b FROM (SELECT c * d WHERE f OR g OR h) WHERE NOT i: those of a query in FROM are outermost too
of_a_query_in_from : operators_of_each (select ▸ name ▸ op ▸ name ▸ out ▸ other (select ▸ name ▸ op ▸ name ▸ out ▸ name ▸ op ▸ name ▸ op ▸ name ▸ nothing) ▸ out ▸ op ▸ name ▸ nothing)
    ≡ 0 ∷ 1 ∷ 0 ∷ 0 ∷ 1 ∷ 2 ∷ 0 ∷ 1 ∷ []
of_a_query_in_from = refl

-- ---- parts

-- SELECT a UNION SELECT b UNION ALL VALUES (c): a bracket without a query has no part
three_parts : parts_of_each (select ▸ name ▸ out ▸ select ▸ name ▸ out ▸ out ▸ select ▸ other (name ▸ nothing) ▸ nothing) ≡ 3 ∷ 0 ∷ []
three_parts = refl

-- SELECT a FROM (SELECT b UNION SELECT c UNION SELECT d) UNION SELECT f
each_has_its_own : parts_of_each (select ▸ name ▸ out ▸ other (select ▸ name ▸ out ▸ select ▸ name ▸ out ▸ select ▸ name ▸ nothing) ▸ out ▸ select ▸ name ▸ nothing) ≡ 2 ∷ 3 ∷ []
each_has_its_own = refl

-- CREATE TRIGGER a DELETE ON b BEGIN SELECT c UNION SELECT d; SELECT f; END
of_commands : parts_of_each (out ▸ out ▸ name ▸ out ▸ out ▸ name ▸ next ▸ select ▸ name ▸ out ▸ select ▸ name ▸ next ▸ select ▸ name ▸ next ▸ out ▸ nothing) ≡ 0 ∷ 2 ∷ 1 ∷ 0 ∷ []
of_commands = refl

-- ---- fronts

-- a + (b
an_open_bracket : Closed (marked (stays role.Quiet) t ∷ marked (stays role.Operator) t ∷ marked (opens role.Inward) t ∷ marked (stays role.Quiet) t ∷ []) (name ▸ op ▸ inward (name ▸ nothing) ▸ nothing)
an_open_bracket = ((of_expression, t) ∷ [], refl)
