-- What tokens are read as where they are one statement.
use Rattle.std.specs.Prelude.{ℕ, List}
use Rattle.sql_tree.specs.declared.statement.Statement.{Statement}
use Rattle.sql_tree.specs.declared.token.Token.{Token}
use Rattle.sql_grammar.specs.declared.counts.TheConstants.{MAX_NESTINGS}
use Rattle.sql_grammar.specs.Answers.{Answer, IsTree, Meets}
use Rattle.sql_grammar.specs.Grammar.{Name}
use Rattle.sql_grammar.specs.Bodies.{rules}
use Rattle.sql_grammar.specs.Marks.{start}
use Rattle.sql_grammar.specs.Rules.{Lang, Parser, derives, reads}
use Rattle.sql_grammar.specs.Statements.{statement}

-- the trees of marked tokens, with so many nestings at most
abbrev pub IsStatement : ℕ → Lang Statement
IsStatement depth = derives Name rules depth statement

-- the one answer: the tree, the first wrong token, or the first that passes a limit
abbrev pub AnswersAs : List Token → Answer Statement → Type 0
AnswersAs tokens x = Meets IsStatement MAX_NESTINGS start tokens x

abbrev pub HasTree : List Token → Statement → Type 0
HasTree tokens tree = IsTree IsStatement MAX_NESTINGS start tokens tree

-- what one token of look-ahead reads
abbrev pub read_statement : Parser Statement
read_statement counts tokens = reads Name rules MAX_NESTINGS statement counts tokens
