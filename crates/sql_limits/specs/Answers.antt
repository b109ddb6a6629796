-- The answer that tokens have, in the words of the limits.
use Rattle.std.specs.Prelude.{◌≡◌, ℕ, List, [], ◌∷◌, ◌++◌}
use Rattle.sql_tree.specs.declared.token.Token.{Token}
use Rattle.sql_grammar.specs.Answers.{Answer, Tree, Syntax, TooMuch, NoneBegins}
use Rattle.sql_grammar.specs.Exact.{Begins}
use Rattle.sql_grammar.specs.Marks.{Mark, Marked, marked, plain}
use Rattle.sql_grammar.specs.Rules.{Lang}
use Rattle.sql_limits.specs.Fronts.{FrontKeepsAll, PassedAt}
use Rattle.sql_limits.specs.Limits.{KeepsAll}
use Rattle.sql_limits.specs.Nestings.{Nested, flat}

-- A tree is derived from the tokens, which keep all limits. Or the tokens up to the rest begin something that is derived, and keep them,
-- and with the first of the rest nothing begins so. Or they begin so with it as well, and it is the first to pass a limit.
abbrev pub IsAnswer : {A : Type 0} → (ℕ → Lang A) → List Token → Answer A → Type 0
IsAnswer L ts (Tree a) = (d : ℕ) × (n : Nested) × (ts ≡ plain (flat n)) × L d (flat n) a × KeepsAll n
IsAnswer L ts (Syntax rest) = (v : List Marked) × (ts ≡ plain v ++ rest) × Begins L v × FrontKeepsAll v × NoneBegins L (plain v) rest
IsAnswer L ts (TooMuch l []) = ⊥
IsAnswer L ts (TooMuch l (t ∷ rest)) = (v : List Marked) × (m : Mark) × (ts ≡ plain v ++ t ∷ rest) × Begins L (v ++ marked m t ∷ []) × PassedAt l v (marked m t)
