-- Parts of rules that functions of their own parse.
use Rattle.std.specs.Prelude.{Option}
use Rattle.sql_tree.specs.declared.statement.Statement.{Statement}
use Rattle.sql_tree.specs.declared.token.Token.{Token}
use Rattle.sql_grammar.specs.Rules.{Outcome, Done, ◌>>=◌}
use Rattle.sql_grammar.specs.Grammar.{Of, maybe, in_brackets, word}
use Rattle.sql_grammar.specs.Statements.{pragma_value}

-- "(" word ")"
unfoldable pub in_word : Of Token
in_word = in_brackets word

-- ["=" word | "(" word ")"]
unfoldable pub some_value : Of (Option Token)
some_value = maybe pragma_value

-- this statement, where its end is read
abbrev pub ended : Statement → Outcome (Option Token) → Outcome Statement
ended found o = o >>= λ s c rest. Done found c rest
