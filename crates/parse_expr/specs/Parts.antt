-- Parts of rules that functions of their own parse.
use Rattle.std.specs.Prelude.{ℕ, zero, suc, [], ◌∷◌, List, Option}
use Rattle.sql_tree.specs.declared.token.Token.{Token}
use Rattle.sql_tree.specs.declared.token.TokenKind.{TokenKind}
use Rattle.sql_tree.specs.declared.token.TokenKind.TheVariants as kind
use Rattle.sql_tree.specs.declared.expr.BinaryOp.{BinaryOp}
use Rattle.sql_tree.specs.declared.expr.Expr.{Expr}
use Rattle.sql_grammar.specs.declared.counts.Role.{Role}
use Rattle.sql_grammar.specs.declared.counts.Role.TheVariants as role
use Rattle.sql_grammar.specs.Rules.{Kinds, Parser, many, tok, reads, ◌>>=◌}
use Rattle.sql_grammar.specs.Grammar.{Name, Of, maybe, after, suffixed, infix_by, collations, collated, concatenation_op, product_op, sum_op, bits_op, relation_op, relation, negated}
use Rattle.sql_grammar.specs.Bodies.{rules}
use Rattle.parse_cursor.specs.Gives.{apply_to}

-- [NOT]
unfoldable pub opposite : Of (Option Token)
opposite = maybe (tok role.Quiet (kind.Not ∷ []))

-- word rel
unfoldable pub relation_behind : Role → TokenKind → Of Expr
relation_behind m k = after m k relation

-- [ESCAPE rel]
unfoldable pub escape : Of (Option Expr)
escape = maybe (after role.Quiet kind.Escape relation)

-- NOT in front of a test or NULL
unfoldable pub opposed : Of (Expr → Expr)
opposed = after role.Operator kind.Not negated

-- any number of these operators
unfoldable pub prefixes : Kinds → Of (List Token)
prefixes ks = many (tok role.Operator ks)

-- ---- operators, level by level, from the tightest on

abbrev pub operators : ℕ → Kinds
operators zero = kind.DoubleBar ∷ []
operators (suc zero) = kind.Star ∷ kind.Slash ∷ kind.Percent ∷ []
operators (suc (suc zero)) = kind.Plus ∷ kind.Minus ∷ []
operators (suc (suc (suc zero))) = kind.Ampersand ∷ kind.Bar ∷ kind.ShiftLeft ∷ kind.ShiftRight ∷ []
operators _ = kind.Less ∷ kind.LessEqual ∷ kind.Greater ∷ kind.GreaterEqual ∷ []

abbrev pub operator : ℕ → TokenKind → BinaryOp
operator zero k = concatenation_op k
operator (suc zero) k = product_op k
operator (suc (suc zero)) k = sum_op k
operator (suc (suc (suc zero))) k = bits_op k
operator _ k = relation_op k

-- an operand of a level, with the operators below the level
unfoldable pub operand : ℕ → Of Expr
operand zero = collated
operand (suc n) = suffixed (operand n) (many (infix_by (operators n) (operator n) (operand n)))

-- the operators of a level with their right operands
unfoldable pub joined : ℕ → Of (List (Expr → Expr))
joined n = many (infix_by (operators n) (operator n) (operand n))

-- a signed primary with what stands behind it, up to a level
unfoldable pub behind : ℕ → ℕ → Expr → Parser Expr
behind d zero x c ts = apply_to x (reads Name rules d collations c ts)
behind d (suc n) x c ts = behind d n x c ts >>= λ a e rest. apply_to a (reads Name rules d (joined n) e rest)
