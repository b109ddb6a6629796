-- Affinities and collations of operands, calls, and what may stand in CHECK and DEFAULT.
use Rattle.std.specs.Prelude.{length, ◌≡◌, ℕ, List, [], ◌∷◌, negsuc, Option, Some, None, codes, refl}
use Rattle.eng_value.specs.declared.affinity.Affinity.TheVariants as affinity
use Rattle.eng_value.specs.declared.affinity.Affinity.{Affinity}
use Rattle.eng_value.specs.declared.built.Built.TheVariants as built
use Rattle.eng_value.specs.declared.cause.Cause.TheVariants.{Arity, Misuse, Unknown}
use Rattle.eng_value.specs.declared.cause.Cause.{Cause}
use Rattle.eng_value.specs.declared.cause.NameKind.TheVariants as kind
use Rattle.eng_value.specs.declared.collation.Collation.TheVariants as collation
use Rattle.eng_value.specs.declared.collation.Collation.{Collation}
use Rattle.eng_value.specs.declared.operators.BinaryOperator.TheVariants as binary
use Rattle.eng_value.specs.declared.operators.BinaryOperator.{BinaryOperator}
use Rattle.eng_value.specs.declared.operators.Sides.{Sides}
use Rattle.eng_value.specs.declared.value.Value.TheVariants as value
use Rattle.sql_grammar.specs.Marks.{count}
use Rattle.sql_grammar.specs.Statements.{all_statement_rules}
use Rattle.sql_lex.specs.Pieces.{word_kind}
use Rattle.sql_lex.specs.Tokens.{tokens_of}
use Rattle.sql_tree.specs.declared.expr.BinaryOp.TheVariants as op
use Rattle.sql_tree.specs.declared.expr.UnaryOp.TheVariants as sign
use Rattle.sql_tree.specs.declared.token.Token.{Token}
use Rattle.sql_words.specs.Spelled.{the_text_test}
use Rattle.sql_words.specs.declared.literal.Literal.TheVariants as literal
use Rattle.bound_tree.specs.Exprs as e
use Rattle.bound_tree.specs.Exprs.{BoundExpr}
use Rattle.bound_tree.specs.declared.units.BoundSource.TheVariants.{Given}
use Rattle.sql_bound.specs.Carriers.{Expression}
use Rattle.sql_bound.specs.Froms.{plain_source, scope_item}
use Rattle.sql_bound.specs.Samples.{around_of, between, both, bound, bound_over, call, call_distinct, call_filtered, col, collate, conjuncts_at, core, dot, in_query, lit, named, nested, parameter, query, raise_ignore, refused, res, res_as, results_at, scalar, starred, tables, unary, why}
use Rattle.sql_bound.specs.Scopes.{Around, Level, begun}
use Rattle.sql_bound.specs.Targets.{constraint_bound, in_check, in_default}
use Rattle.sql_bound.specs.declared.scopes.Allowed.{Allowed}

-- ---- how the sides of a comparison are compared

abbrev sides_in : BinaryOperator → Option Sides
sides_in (binary.Compare o s) = Some s
sides_in other = None

-- of a result that is a comparison, or asks a query for a member
abbrev sides : List BoundExpr → Option Sides
sides (e.Binary o a b ∷ []) = sides_in o
sides (e.InUnit s a u handed ∷ []) = Some s
sides other = None

abbrev between_sides : Affinity → Affinity → Collation → Option Sides
between_sides left right c = Some (record { left = left; right = right; collation = c })

abbrev columns : Around
columns = around_of (codes "CREATE TABLE s(n INTEGER, x TEXT COLLATE NOCASE, y COLLATE RTRIM)" ∷ []) []

-- a written collation comes first, also on the right; of columns the left one's
collations : (sides (results_at 0 (bound_over columns (codes "SELECT x = y FROM s") (λ t. query (core (res t (both op.Equal (col t 1) (col t 3)) 1 3 ∷ []) (named t 5 ∷ []) None)))) ≡ between_sides affinity.Text affinity.Blob (collation.Built built.NoCase))
    × (sides (results_at 0 (bound_over columns (codes "SELECT x = y COLLATE BINARY FROM s") (λ t. query (core (res t (both op.Equal (col t 1) (collate t (col t 3) 5)) 1 5 ∷ []) (named t 7 ∷ []) None)))) ≡ between_sides affinity.Text affinity.Blob (collation.Built built.Binary))
unfolding all_statement_rules count tokens_of word_kind the_text_test
collations = (refl, refl)

-- plus takes the affinity off and leaves the column's collation
a_plus : sides (results_at 0 (bound_over columns (codes "SELECT + x = 1 FROM s") (λ t. query (core (res t (both op.Equal (unary sign.Positive (col t 2)) (lit t 4)) 1 4 ∷ []) (named t 6 ∷ []) None)))) ≡ between_sides affinity.None affinity.None (collation.Built built.NoCase)
unfolding all_statement_rules count tokens_of word_kind the_text_test
a_plus = refl

-- a column of a query in FROM carries what it stands for; a scalar query has nothing
of_a_derived_table : sides (results_at 1 (bound_over columns (codes "SELECT z = 1 FROM (SELECT x COLLATE RTRIM AS z FROM s)") (λ t. query (core (res t (both op.Equal (col t 1) (lit t 3)) 1 3 ∷ []) (nested t (query (core (res_as t (collate t (col t 7) 9) 7 9 11 ∷ []) (named t 13 ∷ []) None)) ∷ []) None)))) ≡ between_sides affinity.Text affinity.None (collation.Built built.Rtrim)
unfolding all_statement_rules count tokens_of word_kind the_text_test
of_a_derived_table = refl

of_a_scalar_query : sides (results_at 1 (bound_over columns (codes "SELECT (SELECT x FROM s) = 1") (λ t. query (core (res t (both op.Equal (scalar (query (core (res t (col t 3) 3 3 ∷ []) (named t 5 ∷ []) None))) (lit t 8)) 1 8 ∷ []) [] None)))) ≡ between_sides affinity.None affinity.None (collation.Built built.Binary)
unfolding all_statement_rules count tokens_of word_kind the_text_test
of_a_scalar_query = refl

-- `x IN (SELECT y ..)` compares as `x = y`
of_a_member : sides (results_at 1 (bound_over columns (codes "SELECT x IN (SELECT n COLLATE RTRIM FROM s) FROM s") (λ t. query (core (res t (in_query (col t 1) (query (core (res t (collate t (col t 5) 7) 5 7 ∷ []) (named t 9 ∷ []) None))) 1 10 ∷ []) (named t 12 ∷ []) None)))) ≡ between_sides affinity.Text affinity.Integer (collation.Built built.Rtrim)
unfolding all_statement_rules count tokens_of word_kind the_text_test
of_a_member = refl

-- ---- forms

the_least_integer : results_at 0 (bound (codes "SELECT - 9223372036854775808") (λ t. query (core (res t (unary sign.Negative (lit t 2)) 1 2 ∷ []) [] None))) ≡ e.Literal (literal.Value (value.Integer (negsuc 9223372036854775807))) ∷ []
unfolding all_statement_rules count tokens_of word_kind the_text_test
the_least_integer = refl

-- a WHERE is split at AND, and not at BETWEEN
abbrev how_many : List BoundExpr → ℕ
how_many conjuncts = length conjuncts

conjuncts : how_many (conjuncts_at 0 (bound (codes "SELECT 1 FROM t WHERE a AND (a AND a) AND a BETWEEN 1 AND 2") (λ t. query (core (res t (lit t 1) 1 1 ∷ []) (named t 3 ∷ []) (Some (both op.And (both op.And (col t 5) (both op.And (col t 8) (col t 10))) (between (col t 13) (lit t 15) (lit t 17)))))))) ≡ 4
unfolding all_statement_rules count tokens_of word_kind the_text_test
conjuncts = refl

-- ---- calls

calls : (refused (codes "SELECT nosuch(x)") (λ t. query (core (res t (call t 1 (col t 3 ∷ [])) 1 4 ∷ []) [] None)) ≡ Some (Unknown kind.Function (codes "nosuch")))
    × (refused (codes "SELECT ABS(x, y)") (λ t. query (core (res t (call t 1 (col t 3 ∷ col t 5 ∷ [])) 1 6 ∷ []) [] None)) ≡ Some (Arity (codes "abs")))
    × (refused (codes "SELECT max(*)") (λ t. query (core (res t (starred t 1) 1 4 ∷ []) [] None)) ≡ Some (Arity (codes "max")))
    × (refused (codes "SELECT abs(DISTINCT x)") (λ t. query (core (res t (call_distinct t 1 (col t 4 ∷ [])) 1 5 ∷ []) [] None)) ≡ Some (Misuse (codes "abs")))
    × (refused (codes "SELECT count(DISTINCT 1, 2)") (λ t. query (core (res t (call_distinct t 1 (lit t 4 ∷ lit t 6 ∷ [])) 1 7 ∷ []) [] None)) ≡ Some (Misuse (codes "count")))
    × (refused (codes "SELECT abs(1) FILTER (WHERE x)") (λ t. query (core (res t (call_filtered t 1 (lit t 3 ∷ []) (col t 8)) 1 9 ∷ []) [] None)) ≡ Some (Misuse (codes "abs")))
    × (refused (codes "SELECT 1 COLLATE nosuch") (λ t. query (core (res t (collate t (lit t 1) 3) 1 3 ∷ []) [] None)) ≡ Some (Unknown kind.Collation (codes "nosuch")))
unfolding all_statement_rules count tokens_of word_kind the_text_test
calls = (refl, refl, refl, refl, refl, refl, refl)

raises : refused (codes "SELECT RAISE(IGNORE)") (λ t. query (core (res t raise_ignore 1 4 ∷ []) [] None)) ≡ Some (Misuse (codes "RAISE"))
unfolding all_statement_rules count tokens_of word_kind the_text_test
raises = refl

-- ---- CHECK and DEFAULT

-- a table x(A, b)
abbrev own : Level
own = scope_item 0 (Some (codes "x")) (plain_source (Some (codes "x")) Given (record { name = codes "A"; affinity = affinity.Blob; collation = collation.Built built.Binary } ∷ record { name = codes "b"; affinity = affinity.Blob; collation = collation.Built built.Binary } ∷ [])) ∷ []

abbrev constrained : List ℕ → Allowed → (List Token → Expression) → Option Cause
constrained text allowed x = why (constraint_bound tables text own allowed (x (tokens_of text)) (begun []))

checks : (constrained (codes "x.a = b") in_check (λ t. both op.Equal (dot t 0 2) (col t 4)) ≡ None)
    × (constrained (codes "c") in_check (λ t. col t 0) ≡ Some (Unknown kind.Column (codes "c")))
    × (constrained (codes "(SELECT nosuch)") in_check (λ t. scalar (query (core (res t (col t 2) 2 2 ∷ []) [] None))) ≡ Some (Misuse (codes "SELECT")))
    × (constrained (codes "count(*)") in_check (λ t. starred t 0) ≡ Some (Misuse (codes "count")))
    × (constrained (codes "?") in_check (λ t. parameter) ≡ Some (Misuse (codes "?")))
unfolding all_statement_rules count tokens_of word_kind the_text_test
checks = (refl, refl, refl, refl, refl)

-- a column by its declared name, and any other as it is written
defaults : (constrained (codes "a") in_default (λ t. col t 0) ≡ Some (Misuse (codes "A"))) × (constrained (codes "nosuch") in_default (λ t. col t 0) ≡ Some (Misuse (codes "nosuch"))) × (constrained (codes "abs(1)") in_default (λ t. call t 0 (lit t 2 ∷ [])) ≡ None)
unfolding all_statement_rules count tokens_of word_kind the_text_test
defaults = (refl, refl, refl)
