-- Kinds of tokens, compared by their tags.
use Rattle.std.specs.Prelude.{Bool, ◌&&◌, true, false, List, [], ◌∷◌}
use denote.Enum.Bare.{sameb}
use Rattle.sql_tree.specs.contracts.token.TokenKind.{the_type}
use Rattle.sql_tree.specs.declared.token.TokenKind.{TokenKind}

-- `==` on kinds
abbrev pub same_kind : TokenKind → TokenKind → Bool
same_kind = sameb the_type

-- the tokens begin with these kinds
abbrev pub begins : List TokenKind → List TokenKind → Bool
begins kinds [] = true
begins [] (wanted ∷ more) = false
begins (kind ∷ kinds) (wanted ∷ more) = same_kind kind wanted && begins kinds more
