-- What stands in brackets reads, in the steps of the code.
use Rattle.std.proofs.Common.{◌≡◌, ℕ, ◌-◌, true, false, List, [], ◌∷◌, Some, None, refl, ap, ◌∙◌}
use Rattle.sql_tree.specs.declared.token.Token.{Token}
use Rattle.sql_tree.specs.declared.token.TokenKind.TheVariants as kind
use Rattle.sql_tree.specs.declared.expr.Expr.{Expr}
use Rattle.sql_grammar.specs.declared.counts.Counts.{Counts}
use Rattle.sql_grammar.specs.declared.counts.Role.TheVariants as role
use Rattle.sql_grammar.specs.Rules.{starts, first, reads, one, opening, Outcome, Done, Stop, ◌>>=◌}
use Rattle.sql_grammar.specs.Bodies.{rules}
use Rattle.sql_grammar.proofs.ReadingLaws.{chosen, other}
use Rattle.sql_grammar.specs.Grammar.{Name, exprs, subquery, table_arguments}
use Rattle.sql_grammar.specs.Queries.{query}
use Rattle.sql_grammar.proofs.Whole.{nest_is}
use Rattle.parse_cursor.proofs.Steps.{or_none_some, or_none_none}
use Rattle.parse_clause.specs.Parts.{in_query, inside_table_arguments, maybe_table_arguments}

pub in_query_is : (d : ℕ) (c : Counts) (ts : List Token) → reads Name rules d in_query c ts ≡ (opening d role.Opening (kind.LeftParen ∷ []) c ts >>= λ t e rest. reads Name rules (d - 1) query e rest >>= λ a f mid. one role.Closing (kind.RightParen ∷ []) f mid >>= λ z g end. Done a g end)
unfolding in_query
in_query_is d c ts = nest_is Name rules role.Opening (kind.LeftParen ∷ []) subquery role.Closing (kind.RightParen ∷ []) d c ts

-- ---- arguments of a table

pub inside_some : (d : ℕ) (c : Counts) (ts : List Token) → starts (first exprs) ts ≡ true → reads Name rules d inside_table_arguments c ts ≡ reads Name rules d exprs c ts
unfolding inside_table_arguments
inside_some d c ts here = or_none_some exprs d c ts here

pub inside_none : (d : ℕ) (c : Counts) (ts : List Token) → starts (first exprs) ts ≡ false → reads Name rules d inside_table_arguments c ts ≡ Done [] c ts
unfolding inside_table_arguments
inside_none d c ts none = or_none_none exprs d c ts none

pub ruleset inside_table_arguments_steps = (inside_some, inside_none)

pub arguments_some : (d : ℕ) (c : Counts) (ts : List Token) → starts (kind.LeftParen ∷ []) ts ≡ true → reads Name rules d maybe_table_arguments c ts ≡ (opening d role.Opening (kind.LeftParen ∷ []) c ts >>= λ t e rest. reads Name rules (d - 1) inside_table_arguments e rest >>= λ a f mid. one role.Closing (kind.RightParen ∷ []) f mid >>= λ z g end. Done (Some a) g end)
unfolding maybe_table_arguments inside_table_arguments
arguments_some d c ts here = chosen _ _ _ here ∙ ap (λ o. o >>= λ a e rest. Done (Some a) e rest) (nest_is Name rules role.Opening (kind.LeftParen ∷ []) table_arguments role.Closing (kind.RightParen ∷ []) d c ts) ∙ opened (opening d role.Opening (kind.LeftParen ∷ []) c ts) where
  closed : (a : List Expr) (o : Outcome Token) → ((o >>= λ z g end. Done a g end) >>= λ a e rest. Done (Some a) e rest) ≡ (o >>= λ z g end. Done (Some a) g end)
  closed a (Done z g end) = refl
  closed a (Stop w end) = refl

  inside : (o : Outcome (List Expr)) → ((o >>= λ a f mid. one role.Closing (kind.RightParen ∷ []) f mid >>= λ z g end. Done a g end) >>= λ a e rest. Done (Some a) e rest) ≡ (o >>= λ a f mid. one role.Closing (kind.RightParen ∷ []) f mid >>= λ z g end. Done (Some a) g end)
  inside (Done a f mid) = closed a (one role.Closing (kind.RightParen ∷ []) f mid)
  inside (Stop w end) = refl

  opened : (o : Outcome Token) → ((o >>= λ t e rest. reads Name rules (d - 1) inside_table_arguments e rest >>= λ a f mid. one role.Closing (kind.RightParen ∷ []) f mid >>= λ z g end. Done a g end) >>= λ a e rest. Done (Some a) e rest) ≡ (o >>= λ t e rest. reads Name rules (d - 1) inside_table_arguments e rest >>= λ a f mid. one role.Closing (kind.RightParen ∷ []) f mid >>= λ z g end. Done (Some a) g end)
  opened (Done t e rest) = inside (reads Name rules (d - 1) inside_table_arguments e rest)
  opened (Stop w rest) = refl

pub arguments_none : (d : ℕ) (c : Counts) (ts : List Token) → starts (kind.LeftParen ∷ []) ts ≡ false → reads Name rules d maybe_table_arguments c ts ≡ Done None c ts
unfolding maybe_table_arguments
arguments_none d c ts none = other _ _ _ none

pub ruleset maybe_table_arguments_steps = (arguments_some, arguments_none)
