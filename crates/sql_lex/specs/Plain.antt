-- The end of a statement that creates no trigger, and bytes that may be passed over where it is looked for.
use Rattle.std.specs.Prelude.{ℕ, Bool, not, ◌||◌, ◌==◌, List, [], ◌∷◌, Option, Some, None, if◌then◌else◌}
use Rattle.sql_tree.specs.declared.token.Token.{Token}
use Rattle.sql_lex.specs.declared.reading.Reading.{Reading}
use Rattle.sql_lex.specs.declared.reading.Reading.TheVariants as reading
use Rattle.sql_lex.specs.Reading.{after, ends}
use Rattle.sql_lex.specs.Tokens.{lexed}

-- none of `'`, `"`, a backtick, `[`, `-`, `/`, `;`
abbrev pub is_plain : ℕ → Bool
is_plain b = not (b == 39 || b == 34 || b == 96 || b == 91 || b == 45 || b == 47 || b == 59)

-- the byte where the token that ends the statement starts
abbrev pub end_from : Reading → List Token → Option ℕ
end_from read [] = None
end_from read (t ∷ tokens) = if ends read t.kind then Some t.span.start else end_from (after read t.kind) tokens

-- the end of the statement whose rest is this, from a place on
abbrev pub end_at : Reading → ℕ → List ℕ → Option ℕ
end_at read from bytes = end_from read (lexed from 0 0 bytes)

-- the same where it creates no trigger
abbrev pub plain_end : ℕ → List ℕ → Option ℕ
plain_end from bytes = end_at reading.Other from bytes
