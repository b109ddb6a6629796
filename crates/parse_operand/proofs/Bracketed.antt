-- What stands between an opening and a closing token, in the steps of the code.
use Rattle.std.proofs.Common.{◌≡◌, ℕ, ◌-◌, List, [], ◌∷◌, refl, ap, ◌∙◌}
use Rattle.sql_tree.specs.declared.token.Token.{Token}
use Rattle.sql_tree.specs.declared.token.TokenKind.TheVariants as kind
use Rattle.sql_tree.specs.declared.expr.Expr.{Expr}
use Rattle.sql_grammar.specs.declared.counts.Counts.{Counts}
use Rattle.sql_grammar.specs.declared.counts.Role.TheVariants as role
use Rattle.sql_grammar.specs.Rules.{reads, opening, one, Outcome, Done, Stop, ◌>>=◌}
use Rattle.sql_grammar.specs.Grammar.{Name, parenthesized, subquery, arguments, condition, cast, choice, members, raise, enclosed, choosing, case, raise_what}
use Rattle.sql_grammar.specs.Bodies.{rules}
use Rattle.sql_grammar.specs.Queries.{query}
use Rattle.sql_grammar.proofs.Whole.{nest_is}
use Rattle.parse_cursor.specs.Gives.{apply_one}
use Rattle.parse_operand.specs.Parts.{in_query, inside_parentheses, in_arguments, inside_arguments, in_condition, in_cast, inside_cast, in_members, inside_members, in_raise, behind}

pub enclosed_is : (d : ℕ) (c : Counts) (ts : List Token) → reads Name rules d enclosed c ts ≡ (opening d role.Inward (kind.LeftParen ∷ []) c ts >>= λ t e rest. reads Name rules (d - 1) inside_parentheses e rest >>= λ a f mid. one role.Outward (kind.RightParen ∷ []) f mid >>= λ z g end. Done a g end)
unfolding enclosed inside_parentheses
enclosed_is d c ts = nest_is Name rules role.Inward (kind.LeftParen ∷ []) parenthesized role.Outward (kind.RightParen ∷ []) d c ts

pub in_arguments_is : (d : ℕ) (c : Counts) (ts : List Token) → reads Name rules d in_arguments c ts ≡ (opening d role.Inward (kind.LeftParen ∷ []) c ts >>= λ t e rest. reads Name rules (d - 1) inside_arguments e rest >>= λ a f mid. one role.Outward (kind.RightParen ∷ []) f mid >>= λ z g end. Done a g end)
unfolding in_arguments inside_arguments
in_arguments_is d c ts = nest_is Name rules role.Inward (kind.LeftParen ∷ []) arguments role.Outward (kind.RightParen ∷ []) d c ts

pub in_cast_is : (d : ℕ) (c : Counts) (ts : List Token) → reads Name rules d in_cast c ts ≡ (opening d role.Inward (kind.LeftParen ∷ []) c ts >>= λ t e rest. reads Name rules (d - 1) inside_cast e rest >>= λ a f mid. one role.Outward (kind.RightParen ∷ []) f mid >>= λ z g end. Done a g end)
unfolding in_cast inside_cast
in_cast_is d c ts = nest_is Name rules role.Inward (kind.LeftParen ∷ []) cast role.Outward (kind.RightParen ∷ []) d c ts

pub choosing_is : (d : ℕ) (c : Counts) (ts : List Token) → reads Name rules d choosing c ts ≡ (opening d role.Inward (kind.Case ∷ []) c ts >>= λ t e rest. reads Name rules (d - 1) case e rest >>= λ a f mid. one role.Outward (kind.End ∷ []) f mid >>= λ z g end. Done a g end)
unfolding choosing
choosing_is d c ts = nest_is Name rules role.Inward (kind.Case ∷ []) choice role.Outward (kind.End ∷ []) d c ts

pub in_query_is : (d : ℕ) (c : Counts) (ts : List Token) → reads Name rules d in_query c ts ≡ (opening d role.Inward (kind.LeftParen ∷ []) c ts >>= λ t e rest. reads Name rules (d - 1) query e rest >>= λ a f mid. one role.Outward (kind.RightParen ∷ []) f mid >>= λ z g end. Done a g end)
unfolding in_query
in_query_is d c ts = nest_is Name rules role.Inward (kind.LeftParen ∷ []) subquery role.Outward (kind.RightParen ∷ []) d c ts

pub in_members_is : (left : Expr) (d : ℕ) (c : Counts) (ts : List Token) → apply_one left (reads Name rules d in_members c ts) ≡ (opening d role.Inward (kind.LeftParen ∷ []) c ts >>= λ t e rest. apply_one left (reads Name rules (d - 1) inside_members e rest) >>= λ a f mid. one role.Outward (kind.RightParen ∷ []) f mid >>= λ z g end. Done a g end)
unfolding in_members inside_members
in_members_is left d c ts = ap (apply_one left) (nest_is Name rules role.Inward (kind.LeftParen ∷ []) members role.Outward (kind.RightParen ∷ []) d c ts) ∙ word (opening d role.Inward (kind.LeftParen ∷ []) c ts) where
  closed : (f : Expr → Expr) (o : Outcome Token) → apply_one left (o >>= λ z g end. Done f g end) ≡ (o >>= λ z g end. Done (f left) g end)
  closed f (Done z g end) = refl
  closed f (Stop w end) = refl

  inner : (o : Outcome (Expr → Expr)) → apply_one left (o >>= λ a f mid. one role.Outward (kind.RightParen ∷ []) f mid >>= λ z g end. Done a g end) ≡ (apply_one left o >>= λ a f mid. one role.Outward (kind.RightParen ∷ []) f mid >>= λ z g end. Done a g end)
  inner (Done a f mid) = closed a (one role.Outward (kind.RightParen ∷ []) f mid)
  inner (Stop w mid) = refl

  word : (o : Outcome Token) → apply_one left (o >>= λ t e rest. reads Name rules (d - 1) inside_members e rest >>= λ a f mid. one role.Outward (kind.RightParen ∷ []) f mid >>= λ z g end. Done a g end) ≡ (o >>= λ t e rest. apply_one left (reads Name rules (d - 1) inside_members e rest) >>= λ a f mid. one role.Outward (kind.RightParen ∷ []) f mid >>= λ z g end. Done a g end)
  word (Done t e rest) = inner (reads Name rules (d - 1) inside_members e rest)
  word (Stop w rest) = refl

pub in_raise_is : (d : ℕ) (c : Counts) (ts : List Token) → reads Name rules d in_raise c ts ≡ (opening d role.Inward (kind.LeftParen ∷ []) c ts >>= λ t e rest. reads Name rules (d - 1) raise_what e rest >>= λ a f mid. one role.Outward (kind.RightParen ∷ []) f mid >>= λ z g end. Done a g end)
unfolding in_raise
in_raise_is d c ts = nest_is Name rules role.Inward (kind.LeftParen ∷ []) raise role.Outward (kind.RightParen ∷ []) d c ts

pub in_condition_is : (d : ℕ) (c : Counts) (ts : List Token) → reads Name rules d in_condition c ts ≡ (opening d role.Inward (kind.LeftParen ∷ []) c ts >>= λ t e rest. reads Name rules (d - 1) (behind kind.Where) e rest >>= λ a f mid. one role.Outward (kind.RightParen ∷ []) f mid >>= λ z g end. Done a g end)
unfolding in_condition behind
in_condition_is d c ts = nest_is Name rules role.Inward (kind.LeftParen ∷ []) condition role.Outward (kind.RightParen ∷ []) d c ts
