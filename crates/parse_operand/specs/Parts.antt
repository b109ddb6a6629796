-- Parts of rules that functions of their own parse.
use Rattle.std.specs.Prelude.{List, [], ◌∷◌, Option}
use Rattle.sql_tree.specs.declared.token.TokenKind.{TokenKind}
use Rattle.sql_tree.specs.declared.token.TokenKind.TheVariants as kind
use Rattle.sql_tree.specs.declared.expr.Arguments.{Arguments}
use Rattle.sql_tree.specs.declared.expr.Expr.{Expr}
use Rattle.sql_tree.specs.declared.expr.Expr.TheVariants as tree
use Rattle.sql_tree.specs.declared.expr.TypeName.{TypeName}
use Rattle.sql_tree.specs.declared.query.Query.{Query}
use Rattle.sql_grammar.specs.declared.counts.Role.TheVariants as role
use Rattle.sql_grammar.specs.Rules.{Kinds, seq, to}
use Rattle.sql_grammar.specs.Grammar.{Of, after, maybe, or_none, in_parentheses, parenthesized, subquery, arguments, condition, cast, members, raise, expr, exprs, arms, otherwise}
use Rattle.sql_grammar.specs.Bodies.{rules}

-- what tells that an expression of a list ends
abbrev pub list_ends : Kinds
list_ends = kind.Comma ∷ kind.RightParen ∷ []

-- "(" ["*" | [DISTINCT] expr {"," expr}] ")"
unfoldable pub in_arguments : Of (Arguments × List Expr)
in_arguments = in_parentheses arguments

unfoldable pub inside_arguments : Of (Arguments × List Expr)
inside_arguments = rules _ arguments

-- "(" WHERE expr ")"
unfoldable pub in_condition : Of Expr
in_condition = in_parentheses condition

-- "(" expr AS type ")"
unfoldable pub in_cast : Of (Expr × TypeName)
in_cast = in_parentheses cast

unfoldable pub inside_cast : Of (Expr × TypeName)
inside_cast = rules _ cast

-- "(" query ")"
unfoldable pub in_query : Of Query
in_query = in_parentheses subquery

-- query | expr
unfoldable pub inside_parentheses : Of Expr
inside_parentheses = rules _ parenthesized

-- "(" query | [expr {"," expr}] ")"
unfoldable pub in_members : Of (Expr → Expr)
in_members = in_parentheses members

unfoldable pub inside_members : Of (Expr → Expr)
inside_members = rules _ members

-- [expr {"," expr}]
unfoldable pub listed_members : Of (List Expr)
listed_members = to or_none (maybe exprs)

-- "(" IGNORE | ABORT "," text ")"
unfoldable pub in_raise : Of Expr
in_raise = in_parentheses raise

-- word expr
unfoldable pub behind : TokenKind → Of Expr
behind k = after role.Quiet k expr

-- arm {arm} [ELSE expr], behind its operand
unfoldable pub branches : Option Expr → Of Expr
branches operand = to (λ p. tree.Case operand p.0 p.1) (seq arms otherwise)
