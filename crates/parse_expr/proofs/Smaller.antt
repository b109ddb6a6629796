-- Loops over tokens come to an end.
use Rattle.std.proofs.Common.{◌≡◌, ℕ, ◌<◌, length, List, [], ◌∷◌, arith}
use Rattle.sql_tree.specs.declared.token.Token.{Token}
use Rattle.sql_tree.specs.declared.token.TokenKind.TheVariants as kind
use Rattle.sql_tree.specs.declared.expr.Expr.{Expr}
use Rattle.sql_grammar.specs.declared.counts.Counts.{Counts}
use Rattle.sql_grammar.specs.declared.counts.Role.TheVariants as role
use Rattle.sql_grammar.specs.Rules.{reads, one, Done}
use Rattle.sql_grammar.specs.Grammar.{Name, conjunction, negation}
use Rattle.sql_grammar.specs.Bodies.{rules}
use Rattle.parse_expr.proofs.Suffixed.{conjunction_shorter, negation_shorter}
use Rattle.parse_cursor.proofs.Steps.{one_shorter}

pub and_shorter : (d : ℕ) (c e f : Counts) (ts mid rest : List Token) (t : Token) (a : Expr) → one role.Operator (kind.And ∷ []) c ts ≡ Done t e mid → reads Name rules d negation e mid ≡ Done a f rest → length rest < length ts
and_shorter d c e f ts mid rest t a g h = omega (arith, one_shorter role.Operator (kind.And ∷ []) c e ts mid t g, negation_shorter d e f mid rest a h)

pub or_shorter : (d : ℕ) (c e f : Counts) (ts mid rest : List Token) (t : Token) (a : Expr) → one role.Operator (kind.Or ∷ []) c ts ≡ Done t e mid → reads Name rules d conjunction e mid ≡ Done a f rest → length rest < length ts
or_shorter d c e f ts mid rest t a g h = omega (arith, one_shorter role.Operator (kind.Or ∷ []) c e ts mid t g, conjunction_shorter d e f mid rest a h)
