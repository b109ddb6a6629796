-- What texts count, by the counts behind small ones, and the first token that passes a limit.
use Rattle.std.specs.Prelude.{◌≡◌, ℕ, zero, suc, drop, replicate, slice_index, List, [], ◌∷◌, Option, Some, None, refl}
use Rattle.sql_tree.specs.declared.token.TokenKind.{TokenKind}
use Rattle.sql_tree.specs.declared.token.TokenKind.TheVariants as kind
use Rattle.sql_grammar.specs.declared.counts.Counts.{Counts}
use Rattle.sql_grammar.specs.declared.counts.Limit.TheVariants as limit
use Rattle.sql_grammar.specs.Answers.{TooMuch}
use Rattle.sql_grammar.specs.Bodies.{rules}
use Rattle.sql_grammar.specs.ExampleWords.{tokens_from, expression_of, statement_of}
use Rattle.sql_grammar.specs.Grammar.{Name, expr}
use Rattle.sql_grammar.specs.Marks.{start, count}
use Rattle.sql_grammar.specs.Rules.{Outcome, Done, Stop, reads}
use Rattle.sql_grammar.specs.Statements.{statement, all_statement_rules}

abbrev behind : {A : Type 0} → (Counts → ℕ) → Outcome A → Option ℕ
behind f (Done a c rest) = Some (f c)
behind f (Stop why rest) = None

-- the operators of an expression
abbrev operators : List TokenKind → Option ℕ
operators ks = behind (λ c. c.operators) (reads Name rules 100 expr start (tokens_from 0 ks))

-- the operators of the last expression of a statement
abbrev last_operators : List TokenKind → Option ℕ
last_operators ks = behind (λ c. c.operators) (reads Name rules 100 statement start (tokens_from 0 ks))

-- the parts of the query of a statement
abbrev parts : List TokenKind → Option ℕ
parts ks = behind (λ c. slice_index c.parts 0) (reads Name rules 100 statement start (tokens_from 0 ks))

-- ---- operators

-- a + b * c
one_each : operators (kind.Word ∷ kind.Plus ∷ kind.Word ∷ kind.Star ∷ kind.Word ∷ []) ≡ Some 2
unfolding all_statement_rules count
one_each = refl

-- - + ~ a
signs : operators (kind.Minus ∷ kind.Plus ∷ kind.Tilde ∷ kind.Word ∷ []) ≡ Some 3
unfolding all_statement_rules count
signs = refl

-- NOT NOT a
nots : operators (kind.Not ∷ kind.Not ∷ kind.Word ∷ []) ≡ Some 2
unfolding all_statement_rules count
nots = refl

-- a COLLATE b
collate : operators (kind.Word ∷ kind.Collate ∷ kind.Word ∷ []) ≡ Some 1
unfolding all_statement_rules count
collate = refl

-- a IS NOT DISTINCT FROM b
is_not_distinct : operators (kind.Word ∷ kind.Is ∷ kind.Not ∷ kind.Distinct ∷ kind.From ∷ kind.Word ∷ []) ≡ Some 1
unfolding all_statement_rules count
is_not_distinct = refl

-- a NOT BETWEEN b AND c
not_between : operators (kind.Word ∷ kind.Not ∷ kind.Between ∷ kind.Word ∷ kind.And ∷ kind.Word ∷ []) ≡ Some 1
unfolding all_statement_rules count
not_between = refl

-- a BETWEEN b AND c
between : operators (kind.Word ∷ kind.Between ∷ kind.Word ∷ kind.And ∷ kind.Word ∷ []) ≡ Some 1
unfolding all_statement_rules count
between = refl

-- a NOT LIKE b ESCAPE c
not_like : operators (kind.Word ∷ kind.Not ∷ kind.Like ∷ kind.Word ∷ kind.Escape ∷ kind.Word ∷ []) ≡ Some 1
unfolding all_statement_rules count
not_like = refl

-- a NOT IN (b, c)
not_in : operators (kind.Word ∷ kind.Not ∷ kind.In ∷ kind.LeftParen ∷ kind.Word ∷ kind.Comma ∷ kind.Word ∷ kind.RightParen ∷ []) ≡ Some 1
unfolding all_statement_rules count
not_in = refl

-- a NOT NULL ISNULL
not_null : operators (kind.Word ∷ kind.Not ∷ kind.Null ∷ kind.IsNull ∷ []) ≡ Some 2
unfolding all_statement_rules count
not_null = refl

-- a.b
no_operator : operators (kind.Word ∷ kind.Dot ∷ kind.Word ∷ []) ≡ Some 0
unfolding all_statement_rules count
no_operator = refl

-- (a + b) * c
in_parentheses : operators (kind.LeftParen ∷ kind.Word ∷ kind.Plus ∷ kind.Word ∷ kind.RightParen ∷ kind.Star ∷ kind.Word ∷ []) ≡ Some 2
unfolding all_statement_rules count
in_parentheses = refl

-- a (b + c, d * f) || g
in_arguments : operators (kind.Word ∷ kind.LeftParen ∷ kind.Word ∷ kind.Plus ∷ kind.Word ∷ kind.Comma ∷ kind.Word ∷ kind.Star ∷ kind.Word ∷ kind.RightParen ∷ kind.DoubleBar ∷ kind.Word ∷ []) ≡ Some 3
unfolding all_statement_rules count
in_arguments = refl

-- CASE WHEN a = b THEN c + d END
in_a_case : operators (kind.Case ∷ kind.When ∷ kind.Word ∷ kind.Equal ∷ kind.Word ∷ kind.Then ∷ kind.Word ∷ kind.Plus ∷ kind.Word ∷ kind.End ∷ []) ≡ Some 2
unfolding all_statement_rules count
in_a_case = refl

-- (SELECT a + b, c + d WHERE f OR g) + h
in_a_query : operators (kind.LeftParen ∷ kind.Select ∷ kind.Word ∷ kind.Plus ∷ kind.Word ∷ kind.Comma ∷ kind.Word ∷ kind.Plus ∷ kind.Word ∷ kind.Where ∷ kind.Word ∷ kind.Or ∷ kind.Word ∷ kind.RightParen ∷ kind.Plus ∷ kind.Word ∷ [])
    ≡ Some 4
unfolding all_statement_rules count
in_a_query = refl

-- SELECT a + b, c * d - f
of_the_last_result : last_operators (kind.Select ∷ kind.Word ∷ kind.Plus ∷ kind.Word ∷ kind.Comma ∷ kind.Word ∷ kind.Star ∷ kind.Word ∷ kind.Minus ∷ kind.Word ∷ []) ≡ Some 2
unfolding all_statement_rules count
of_the_last_result = refl

-- SELECT a + b WHERE c
of_the_last_clause : last_operators (kind.Select ∷ kind.Word ∷ kind.Plus ∷ kind.Word ∷ kind.Where ∷ kind.Word ∷ []) ≡ Some 0
unfolding all_statement_rules count
of_the_last_clause = refl

-- ---- parts

-- SELECT a UNION SELECT b UNION ALL VALUES (1)
three_parts : parts (kind.Select ∷ kind.Word ∷ kind.Union ∷ kind.Select ∷ kind.Word ∷ kind.Union ∷ kind.All ∷ kind.Values ∷ kind.LeftParen ∷ kind.Number ∷ kind.RightParen ∷ []) ≡ Some 3
unfolding all_statement_rules count
three_parts = refl

-- SELECT a FROM (SELECT b UNION SELECT c)
parts_in_brackets : parts (kind.Select ∷ kind.Word ∷ kind.From ∷ kind.LeftParen ∷ kind.Select ∷ kind.Word ∷ kind.Union ∷ kind.Select ∷ kind.Word ∷ kind.RightParen ∷ []) ≡ Some 1
unfolding all_statement_rules count
parts_in_brackets = refl

-- WITH a AS (SELECT b UNION SELECT c) SELECT d
parts_of_a_table : parts (kind.With ∷ kind.Word ∷ kind.As ∷ kind.LeftParen ∷ kind.Select ∷ kind.Word ∷ kind.Union ∷ kind.Select ∷ kind.Word ∷ kind.RightParen ∷ kind.Select ∷ kind.Word ∷ []) ≡ Some 1
unfolding all_statement_rules count
parts_of_a_table = refl

-- CREATE TRIGGER a DELETE ON b BEGIN SELECT c UNION SELECT d; SELECT f; END
parts_of_a_command : parts (kind.Create ∷ kind.Trigger ∷ kind.Word ∷ kind.Delete ∷ kind.On ∷ kind.Word ∷ kind.Begin ∷ kind.Select ∷ kind.Word ∷ kind.Union ∷ kind.Select ∷ kind.Word ∷ kind.Semicolon ∷ kind.Select ∷ kind.Word ∷ kind.Semicolon ∷ kind.End ∷ [])
    ≡ Some 0
unfolding all_statement_rules count
parts_of_a_command = refl

-- ---- limits

-- 101 parentheses
a_parenthesis_more : expression_of (replicate 101 kind.LeftParen) ≡ TooMuch limit.Nestings (drop 100 (tokens_from 0 (replicate 101 kind.LeftParen)))
unfolding all_statement_rules count
a_parenthesis_more = refl

-- 1,001 signs
a_sign_more : expression_of (replicate 1001 kind.Minus) ≡ TooMuch limit.Operators (drop 1000 (tokens_from 0 (replicate 1001 kind.Minus)))
unfolding all_statement_rules count
a_sign_more = refl

-- so many parts, and one more
abbrev selects : ℕ → List TokenKind
selects zero = kind.Select ∷ kind.Number ∷ []
selects (suc n) = kind.Select ∷ kind.Number ∷ kind.Union ∷ selects n

-- 501 parts
a_part_more : statement_of (selects 500) ≡ TooMuch limit.Parts (drop 1500 (tokens_from 0 (selects 500)))
unfolding all_statement_rules count
a_part_more = refl
