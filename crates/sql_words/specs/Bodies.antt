-- Which bytes of a text are its statement, and what the grammar makes of its tokens.
use Rattle.std.specs.Prelude.{ℕ, ◌-◌, Bool, false, List, [], ◌∷◌, length, Option, Some, None, slice_get, take, if◌then◌else◌}
use Rattle.sql_grammar.specs.Answers.{Answer, whole}
use Rattle.sql_grammar.specs.Marks.{start}
use Rattle.sql_grammar.specs.StatementTexts.{read_statement}
use Rattle.sql_lex.specs.Tokens.{tokens_of}
use Rattle.sql_tree.specs.declared.statement.Statement.{Statement}
use Rattle.sql_tree.specs.declared.token.Token.{Token}
use Rattle.sql_tree.specs.declared.token.TokenKind.TheVariants as kind
use Rattle.sql_tree.specs.Kinds.{same_kind}

abbrev pub is_semicolon : Option Token → Bool
is_semicolon None = false
is_semicolon (Some t) = same_kind t.kind kind.Semicolon

-- without a `;` behind the others
abbrev pub without_end : List Token → List Token
without_end tokens = if is_semicolon (slice_get tokens (length tokens - 1)) then take (length tokens - 1) tokens else tokens

-- the byte behind the last token
abbrev pub end_of : List Token → ℕ
end_of [] = 0
end_of (t ∷ []) = t.span.end
end_of (t ∷ u ∷ tokens) = end_of (u ∷ tokens)

-- a text up to its last token, without a `;` there
abbrev pub body_of : List ℕ → List ℕ
body_of text = take (end_of (without_end (tokens_of text))) text

-- the answer of a text's tokens
abbrev pub answer_of : List ℕ → Answer Statement
answer_of text = whole (read_statement start (tokens_of text))
