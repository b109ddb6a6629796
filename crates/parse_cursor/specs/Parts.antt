-- Parts of rules that functions of their own parse.
use Rattle.std.specs.Prelude.{Bool, List, [], ◌∷◌, Option}
use Rattle.sql_tree.specs.declared.token.Token.{Token}
use Rattle.sql_tree.specs.declared.token.TokenKind.{TokenKind}
use Rattle.sql_tree.specs.declared.token.TokenKind.TheVariants as kind
use Rattle.sql_tree.specs.declared.expr.SignedNumber.{SignedNumber}
use Rattle.sql_grammar.specs.declared.counts.Role.TheVariants as role
use Rattle.sql_grammar.specs.Kinds.{all_words}
use Rattle.sql_grammar.specs.Rules.{tok}
use Rattle.sql_grammar.specs.Grammar.{Of, maybe, after, in_brackets, name_list, signed}
use Rattle.sql_grammar.specs.Queries.{given}

-- [+ | -]
unfoldable pub sign : Of (Option Token)
sign = maybe (tok role.Outside (kind.Plus ∷ kind.Minus ∷ []))

-- ["," signed]
unfoldable pub second_size : Of (Option SignedNumber)
second_size = maybe (after role.Outside kind.Comma signed)

-- "(" name {"," name} ")"
unfoldable pub in_names : Of (List Token)
in_names = in_brackets name_list

-- a word, reserved or not
unfoldable pub any_word : Of Token
any_word = tok role.Outside all_words

-- [word], as whether it stands there
unfoldable pub given_word : TokenKind → Of Bool
given_word k = given (tok role.Outside (k ∷ []))
