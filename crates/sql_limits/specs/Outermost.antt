-- What stands where an outermost expression may stand.
use Rattle.std.specs.Prelude.{◌≡◌, ℕ, ◌⊎◌, List, [], ◌∷◌, ◌++◌}
use Rattle.sql_tree.specs.declared.expr.Expr.{Expr}
use Rattle.sql_tree.specs.declared.token.Token.{Token}
use Rattle.sql_grammar.specs.declared.counts.Role.TheVariants as role
use Rattle.sql_grammar.specs.Expressions.{Expression}
use Rattle.sql_grammar.specs.Marks.{stays, Marked, marked}
use Rattle.sql_limits.specs.Nestings.{Nested, flat}

-- tokens that count as nothing, as names
abbrev pub names : List Token → List Marked
names [] = []
names (t ∷ ts) = marked (stays role.Quiet) t ∷ names ts

abbrev pub IsNames : Nested → Type 0
IsNames e = (ts : List Token) × (flat e ≡ names ts)

-- the tokens of one expression, and behind them names alone, as that of a result
abbrev pub IsOneExpression : Nested → Type 0
IsOneExpression e = (depth : ℕ) × (w : List Marked) × (tree : Expr) × (ts : List Token) × Expression depth w tree × (flat e ≡ w ++ names ts)

abbrev pub IsOneAtMost : Nested → Type 0
IsOneAtMost e = IsNames e ⊎ IsOneExpression e
