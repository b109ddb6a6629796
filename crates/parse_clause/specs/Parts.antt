-- Parts of rules that functions of their own parse.
use Rattle.std.specs.Prelude.{List, [], ◌∷◌, Option}
use Rattle.sql_tree.specs.declared.expr.Expr.{Expr}
use Rattle.sql_tree.specs.declared.query.FromItem.{FromItem}
use Rattle.sql_tree.specs.declared.query.Query.{Query}
use Rattle.sql_tree.specs.declared.query.ResultColumn.{ResultColumn}
use Rattle.sql_tree.specs.declared.query.SpannedExpr.{SpannedExpr, roll-SpannedExpr}
use Rattle.sql_tree.specs.declared.token.Span.{Span}
use Rattle.sql_tree.specs.declared.token.Token.{Token}
use Rattle.sql_tree.specs.declared.token.TokenKind.{TokenKind}
use Rattle.sql_grammar.specs.declared.counts.Role.TheVariants as role
use Rattle.sql_grammar.specs.Rules.{many, to, Outcome, Done, ◌>>=◌}
use Rattle.sql_grammar.specs.Grammar.{Of, maybe, after, or_none, in_brackets, last_end, expr, exprs, subquery, table_arguments}
use Rattle.sql_grammar.specs.Queries.{joined_item}

-- ---- in brackets

-- "(" query ")"
unfoldable pub in_query : Of Query
in_query = in_brackets subquery

-- [expr {"," expr}]
unfoldable pub inside_table_arguments : Of (List Expr)
inside_table_arguments = to or_none (maybe exprs)

-- ["(" [expr {"," expr}] ")"]
unfoldable pub maybe_table_arguments : Of (Option (List Expr))
maybe_table_arguments = maybe (in_brackets table_arguments)

-- ---- a word and an expression

-- [word expr]
unfoldable pub expr_after : TokenKind → Of (Option Expr)
expr_after k = maybe (after role.Outside k expr)

-- ---- lists

-- {join item [on]}
unfoldable pub joined_items : Of (List FromItem)
joined_items = many joined_item

-- ---- results

-- a front, and tokens behind it
abbrev pub longer : Span → List Token → Span
longer front [] = front
longer front (t ∷ ts) = record { start = front.start; end = last_end t ts }

-- from one token to another
abbrev pub from_to : Token → Token → Span
from_to t u = record { start = t.span.start; end = u.span.end }

-- an operand at these bytes, and what goes on behind it
abbrev pub goes_on : Expr → Span → Outcome ((Expr → Expr) × List Token) → Outcome SpannedExpr
goes_on x front o = o >>= λ p c rest. Done (roll-SpannedExpr (record { expr = p.0 x; text = longer front p.1 })) c rest

-- what begins with the name of a function
abbrev pub called : Token → Outcome ((Token → Expr) × List Token) → Outcome SpannedExpr
called t o = o >>= λ p c rest. Done (roll-SpannedExpr (record { expr = p.0 t; text = longer t.span p.1 })) c rest

-- what begins with a name
abbrev pub of_name : Token → Outcome (Token → ResultColumn) → Outcome ResultColumn
of_name t o = o >>= λ f c rest. Done (f t) c rest
