-- What tokens are read as where they are one expression.
use Rattle.std.specs.Prelude.{ℕ, List}
use Rattle.sql_tree.specs.declared.expr.Expr.{Expr}
use Rattle.sql_tree.specs.declared.token.Token.{Token}
use Rattle.sql_grammar.specs.declared.counts.TheConstants.{MAX_NESTINGS}
use Rattle.sql_grammar.specs.Answers.{Answer, IsTree, Meets}
use Rattle.sql_grammar.specs.Grammar.{Name, expr}
use Rattle.sql_grammar.specs.Bodies.{rules}
use Rattle.sql_grammar.specs.Marks.{start}
use Rattle.sql_grammar.specs.Rules.{Lang, Parser, derives, reads}

-- the trees of marked tokens, with so many nestings at most
abbrev pub Expression : ℕ → Lang Expr
Expression depth = derives Name rules depth expr

-- the one answer: the tree, the first wrong token, or the first that passes a limit
abbrev pub AnswersAs : List Token → Answer Expr → Type 0
AnswersAs tokens x = Meets Expression MAX_NESTINGS start tokens x

abbrev pub HasTree : List Token → Expr → Type 0
HasTree tokens tree = IsTree Expression MAX_NESTINGS start tokens tree

-- what one token of look-ahead reads
abbrev pub read_expr : Parser Expr
read_expr counts tokens = reads Name rules MAX_NESTINGS expr counts tokens
