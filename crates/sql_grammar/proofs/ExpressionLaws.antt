-- The grammar of expressions is read exactly.
use Rattle.std.proofs.Common.{◌≡◌, ℕ, List}
use Rattle.sql_tree.specs.declared.expr.Expr.{Expr}
use Rattle.sql_tree.specs.declared.token.Token.{Token}
use Rattle.sql_grammar.specs.declared.counts.TheConstants.{MAX_NESTINGS}
use Rattle.sql_grammar.specs.Answers.{Answer, whole}
use Rattle.sql_grammar.specs.Expressions.{Expression, AnswersAs, HasTree, read_expr}
use Rattle.sql_grammar.specs.Grammar.{Name, expr}
use Rattle.sql_grammar.specs.Bodies.{rules}
use Rattle.sql_grammar.specs.Marks.{Marked, plain, start}
use Rattle.sql_grammar.proofs.Clear.{clear, rich, expr_clear}
use Rattle.sql_grammar.proofs.Whole.{one_tree, only_meets, some_answer}

pub an_answer : (tokens : List Token) → (x : Answer Expr) × AnswersAs tokens x
an_answer tokens = some_answer Name rules clear rich expr expr_clear MAX_NESTINGS start tokens

pub one_expression : (tokens : List Token) (a b : Expr) → HasTree tokens a → (e : ℕ) (w : List Marked) → tokens ≡ plain w → Expression e w b → a ≡ b
one_expression tokens a b t e w same l = one_tree Name rules clear rich expr expr_clear MAX_NESTINGS start tokens a b t e w same l

pub read_as_answered : (tokens : List Token) (x : Answer Expr) → AnswersAs tokens x → whole (read_expr start tokens) ≡ x
read_as_answered tokens x m = only_meets Name rules clear rich expr expr_clear MAX_NESTINGS start tokens x m
