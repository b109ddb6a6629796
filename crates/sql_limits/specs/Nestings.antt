-- How marked tokens stand in brackets.
use Rattle.std.specs.Prelude.{List, [], ◌∷◌, ◌++◌}
use Rattle.sql_tree.specs.declared.token.Token.{Token}
use Rattle.sql_grammar.specs.declared.counts.Role.{Role}
use Rattle.sql_grammar.specs.declared.counts.Role.TheVariants as role
use Rattle.sql_grammar.specs.Marks.{stays, opens, closes, Marked, marked}

-- a token that opens and closes nothing
pub data Single : Type 0 where
  -- a name, a literal, or any other word within an expression
  quiet : Single
  -- the first token of an operator
  operator : Single
  -- a token that stands in no expression, unless in one of its brackets
  outside : Single
  -- as that, and no query goes on after it
  fresh : Single
  -- SELECT or VALUES, with which a part of a query begins
  part : Single

pub data Bracket : Type 0 where
  -- a bracket of an expression; CASE and END are one
  of_expression : Bracket
  -- any other, as that of a query in FROM, or of the columns of a table
  of_others : Bracket

-- What stands in one bracket, or in none, in its order: single tokens, and brackets with what stands in them.
pub data Nested : Type 0 where
  nothing : Nested
  -- a token, and what comes behind it
  token : Single → Token → Nested → Nested
  -- a bracket between its two tokens, and what comes behind it
  bracket : Bracket → Token → Nested → Token → Nested → Nested

-- ---- the marked tokens

abbrev pub role_of : Single → Role
role_of quiet = role.Quiet
role_of operator = role.Operator
role_of outside = role.Outside
role_of fresh = role.Fresh
role_of part = role.Part

abbrev pub opening_of : Bracket → Role
opening_of of_expression = role.Inward
opening_of of_others = role.Opening

abbrev pub closing_of : Bracket → Role
closing_of of_expression = role.Outward
closing_of of_others = role.Closing

abbrev pub flat : Nested → List Marked
flat nothing = []
flat (token s t behind) = marked (stays (role_of s)) t ∷ flat behind
flat (bracket b t inside z behind) = marked (opens (opening_of b)) t ∷ (flat inside ++ marked (closes (closing_of b)) z ∷ flat behind)
