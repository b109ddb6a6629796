-- The tokens of a derivation up to some place: what is open there, and where a limit is passed.
use Rattle.std.specs.Prelude.{◌≡◌, List, [], ◌∷◌, ◌++◌}
use Rattle.sql_tree.specs.declared.token.Token.{Token}
use Rattle.sql_grammar.specs.declared.counts.Limit.{Limit}
use Rattle.sql_grammar.specs.Marks.{closes, Marked, marked}
use Rattle.sql_limits.specs.Limits.{Keeps, KeepsAll}
use Rattle.sql_limits.specs.Nestings.{Bracket, closing_of, Nested, flat}

-- closing tokens, one after another
abbrev pub closed_by : List (Bracket × Token) → List Marked
closed_by [] = []
closed_by (x ∷ more) = marked (closes (closing_of x.0)) x.1 ∷ closed_by more

-- these tokens, with the brackets that are open at their end closed there
abbrev pub Closed : List Marked → Nested → Type 0
Closed v n = (closings : List (Bracket × Token)) × (v ++ closed_by closings ≡ flat n)

abbrev pub FrontKeepsAll : List Marked → Type 0
FrontKeepsAll v = (n : Nested) × Closed v n × KeepsAll n

abbrev pub FrontBreaks : Limit → List Marked → Type 0
FrontBreaks l v = (n : Nested) × Closed v n × (Keeps l n → ⊥)

-- up to this token all limits are kept, and with it this one is not
abbrev pub PassedAt : Limit → List Marked → Marked → Type 0
PassedAt l v x = FrontKeepsAll v × FrontBreaks l (v ++ x ∷ [])
