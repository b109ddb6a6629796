-- What stands between the tokens of a text.
use Rattle.std.specs.Prelude.{◌≡◌, ◌<◌, ℕ, ◌+◌, List, [], ◌∷◌, length, drop, Some}
use Rattle.sql_tree.specs.declared.token.Token.{Token}
use Rattle.sql_lex.specs.Cutting.{blank_width}
use Rattle.sql_lex.specs.Pieces.{piece}
use Rattle.sql_lex.specs.Tokens.{token_in}

-- from one byte to another a text has white space and comments, one behind another, and nothing else
pub data AreBlanks (text : List ℕ) : ℕ → ℕ → Type 0 where
  none : (from : ℕ) → AreBlanks text from from
  one_more : (from end : ℕ) → 0 < blank_width (drop from text) → AreBlanks text (from + blank_width (drop from text)) end → AreBlanks text from end

-- the token is what the text goes on with at the byte where it starts; a parameter without a number is behind some largest one
abbrev pub StandsIn : List ℕ → Token → Type 0
StandsIn text t = (largest b : ℕ) × (bytes : List ℕ) × (drop t.span.start text ≡ b ∷ bytes) × (token_in t.span.start largest (piece b bytes) ≡ Some t)

-- from a byte on the text is made up of these tokens, in their order, with blanks in front of them and behind the last
abbrev pub MakeUp : List ℕ → ℕ → List Token → Type 0
MakeUp text from [] = AreBlanks text from (length text)
MakeUp text from (t ∷ tokens) = AreBlanks text from t.span.start × StandsIn text t × MakeUp text t.span.end tokens
