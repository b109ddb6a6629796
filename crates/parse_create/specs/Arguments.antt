-- Parts of the arguments of a module that functions of their own parse.
use Rattle.std.specs.Prelude.{List, [], ◌∷◌, Option, Some, None}
use Rattle.sql_tree.specs.declared.token.Span.{Span}
use Rattle.sql_tree.specs.declared.token.TokenKind.TheVariants as kind
use Rattle.sql_grammar.specs.declared.counts.Role.TheVariants as role
use Rattle.sql_grammar.specs.Kinds.{argument_kinds}
use Rattle.sql_grammar.specs.Rules.{Kinds, tok, many, to, Outcome, Done, one, ◌>>=◌}
use Rattle.sql_grammar.specs.Grammar.{Of, maybe, in_brackets, or_none, module_arguments}
use Rattle.sql_grammar.specs.Definitions.{argument_piece}

-- what an argument is made of, beside words and what stands in parentheses
abbrev pub marks : Kinds
marks = kind.QuotedName ∷ kind.Text ∷ kind.Blob ∷ kind.Number ∷ kind.Parameter ∷ kind.Dot ∷ kind.Star ∷ kind.Plus ∷ kind.Minus ∷ kind.Slash ∷ kind.Percent ∷ kind.Ampersand ∷ kind.Bar ∷ kind.Tilde ∷ kind.ShiftLeft ∷ kind.ShiftRight ∷ kind.DoubleBar ∷ kind.Less ∷ kind.LessEqual ∷ kind.Greater ∷ kind.GreaterEqual ∷ kind.Equal ∷ kind.DoubleEqual ∷ kind.LessGreater ∷ kind.BangEqual ∷ []

-- a token that an argument is made of
unfoldable pub argument_token : Of (Unit {0})
argument_token = to (λ t. tt) (tok role.Outside argument_kinds)

-- what is read, up to the closing parenthesis
abbrev pub closed : Outcome (Unit {0}) → Outcome (Unit {0})
closed o = o >>= λ x c rest. one role.Closing (kind.RightParen ∷ []) c rest >>= λ z e end. Done x e end

-- {piece}
unfoldable pub pieces : Of (Unit {0})
pieces = to (λ x. tt) (many argument_piece)

-- nothing between the parentheses is no argument
abbrev pub without_nothing : List (Option Span) → List (Option Span)
without_nothing [] = []
without_nothing (None ∷ []) = []
without_nothing (None ∷ a ∷ more) = None ∷ a ∷ more
without_nothing (Some a ∷ more) = Some a ∷ more

-- "(" argument {"," argument} ")"
unfoldable pub in_arguments : Of (List (Option Span))
in_arguments = in_brackets module_arguments

-- ["(" argument {"," argument} ")"]
unfoldable pub some_arguments : Of (List (Option Span))
some_arguments = to or_none (maybe (in_brackets module_arguments))
