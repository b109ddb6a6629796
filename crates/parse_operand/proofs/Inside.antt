-- What may stand between brackets or be missing, in the steps of the code.
use Rattle.std.proofs.Common.{◌≡◌, ℕ, true, false, List, [], ◌∷◌, Option, Some, None, refl, ap, ◌∙◌}
use Rattle.sql_tree.specs.declared.token.Token.{Token}
use Rattle.sql_tree.specs.declared.token.TokenKind.TheVariants as kind
use Rattle.sql_tree.specs.declared.expr.Arguments.{Arguments}
use Rattle.sql_tree.specs.declared.expr.Arguments.TheVariants as arguments_are
use Rattle.sql_tree.specs.declared.expr.Arm.{roll-Arm}
use Rattle.sql_tree.specs.declared.expr.Expr.{Expr}
use Rattle.sql_tree.specs.declared.expr.Expr.TheVariants as tree
use Rattle.sql_grammar.specs.declared.counts.Counts.{Counts}
use Rattle.sql_grammar.specs.Rules.{seq, starts, first, reads, Outcome, Done, Stop, ◌>>=◌}
use Rattle.sql_grammar.specs.Grammar.{Name, maybe, or_none, or_no_arguments, expr, exprs, some_arguments, arm, arms, otherwise, case}
use Rattle.sql_grammar.specs.Bodies.{rules}
use Rattle.sql_grammar.specs.Queries.{query}
use Rattle.sql_grammar.proofs.ReadingLaws.{chosen, other}
use Rattle.parse_cursor.specs.Gives.{apply_one}
use Rattle.parse_cursor.proofs.Steps.{both_to, or_none_some, or_none_none, apply_done}
use Rattle.parse_operand.specs.Parts.{inside_arguments, inside_parentheses, inside_members, listed_members, behind, branches}
use Rattle.parse_operand.proofs.Clear.{first_branches}

-- ---- a query, or else

pub parentheses_query : (d : ℕ) (c : Counts) (ts : List Token) → starts (first query) ts ≡ true → reads Name rules d inside_parentheses c ts ≡ (reads Name rules d query c ts >>= λ q e rest. Done (tree.Subquery q) e rest)
unfolding inside_parentheses
parentheses_query d c ts here = chosen _ _ _ here

pub parentheses_expr : (d : ℕ) (c : Counts) (ts : List Token) → starts (first query) ts ≡ false → reads Name rules d inside_parentheses c ts ≡ reads Name rules d expr c ts
unfolding inside_parentheses
parentheses_expr d c ts none = other _ _ _ none

pub ruleset parentheses_steps = (parentheses_query, parentheses_expr)

-- ---- members of IN

pub listed_some : (d : ℕ) (c : Counts) (ts : List Token) → starts (first exprs) ts ≡ true → reads Name rules d listed_members c ts ≡ reads Name rules d exprs c ts
unfolding listed_members
listed_some d c ts here = or_none_some exprs d c ts here

pub listed_none : (d : ℕ) (c : Counts) (ts : List Token) → starts (first exprs) ts ≡ false → reads Name rules d listed_members c ts ≡ Done [] c ts
unfolding listed_members
listed_none d c ts none = or_none_none exprs d c ts none

pub ruleset listed_steps = (listed_some, listed_none)

pub members_query : (left : Expr) (d : ℕ) (c : Counts) (ts : List Token) → starts (first query) ts ≡ true → apply_one left (reads Name rules d inside_members c ts) ≡ (reads Name rules d query c ts >>= λ q e rest. Done (tree.InQuery left q) e rest)
unfolding inside_members
members_query left d c ts here = ap (apply_one left) (chosen _ _ _ here) ∙ apply_done (λ q x. tree.InQuery x q) left (reads Name rules d query c ts)

pub members_listed : (left : Expr) (d : ℕ) (c : Counts) (ts : List Token) → starts (first query) ts ≡ false → apply_one left (reads Name rules d inside_members c ts) ≡ (reads Name rules d listed_members c ts >>= λ es e rest. Done (tree.In left es) e rest)
unfolding inside_members listed_members
members_listed left d c ts none = ap (apply_one left) (other _ _ _ none) ∙ given (reads Name rules d (maybe exprs) c ts) where
  given : (o : Outcome (Option (List Expr))) → apply_one left (o >>= λ es e rest. Done (λ x. tree.In x (or_none es)) e rest) ≡ ((o >>= λ es e rest. Done (or_none es) e rest) >>= λ es e rest. Done (tree.In left es) e rest)
  given (Done es e rest) = refl
  given (Stop w rest) = refl

pub ruleset members_steps = (members_query, members_listed)

-- ---- arguments of a call

given_arguments : (o : Outcome (Arguments × List Expr)) → ((o >>= λ a e rest. Done (Some a) e rest) >>= λ x e rest. Done (or_no_arguments x) e rest) ≡ o
given_arguments (Done a e rest) = refl
given_arguments (Stop w rest) = refl

pub arguments_some : (d : ℕ) (c : Counts) (ts : List Token) → starts (first some_arguments) ts ≡ true → reads Name rules d inside_arguments c ts ≡ reads Name rules d some_arguments c ts
unfolding inside_arguments
arguments_some d c ts here = ap (λ o. o >>= λ x e rest. Done (or_no_arguments x) e rest) (chosen _ _ _ here) ∙ given_arguments (reads Name rules d some_arguments c ts)

pub arguments_none : (d : ℕ) (c : Counts) (ts : List Token) → starts (first some_arguments) ts ≡ false → reads Name rules d inside_arguments c ts ≡ Done (arguments_are.All, []) c ts
unfolding inside_arguments
arguments_none d c ts none = ap (λ o. o >>= λ x e rest. Done (or_no_arguments x) e rest) (other _ _ _ none)

pub ruleset arguments_steps = (arguments_some, arguments_none)

-- ---- CASE

pub arm_is : (d : ℕ) (c : Counts) (ts : List Token) → reads Name rules d arm c ts ≡ (reads Name rules d (behind kind.When) c ts >>= λ a e rest. reads Name rules d (behind kind.Then) e rest >>= λ b f end. Done (roll-Arm (record { condition = a; value = b })) f end)
unfolding arm behind
arm_is d c ts = both_to (reads Name rules d (behind kind.When)) (reads Name rules d (behind kind.Then)) (λ p. roll-Arm (record { condition = p.0; value = p.1 })) c ts

pub otherwise_some : (d : ℕ) (c : Counts) (ts : List Token) → starts (kind.Else ∷ []) ts ≡ true → reads Name rules d otherwise c ts ≡ (reads Name rules d (behind kind.Else) c ts >>= λ a e rest. Done (Some a) e rest)
unfolding otherwise behind
otherwise_some d c ts here = chosen _ _ _ here

pub otherwise_none : (d : ℕ) (c : Counts) (ts : List Token) → starts (kind.Else ∷ []) ts ≡ false → reads Name rules d otherwise c ts ≡ Done None c ts
unfolding otherwise
otherwise_none d c ts none = other _ _ _ none

pub ruleset otherwise_steps = (otherwise_some, otherwise_none)

pub branches_are : (operand : Option Expr) (d : ℕ) (c : Counts) (ts : List Token) → reads Name rules d (branches operand) c ts ≡ (reads Name rules d arms c ts >>= λ a e rest. reads Name rules d otherwise e rest >>= λ b f end. Done (tree.Case operand a b) f end)
unfolding branches
branches_are operand d c ts = both_to (reads Name rules d arms) (reads Name rules d otherwise) (λ p. tree.Case operand p.0 p.1) c ts

pub case_bare : (d : ℕ) (c : Counts) (ts : List Token) → starts (kind.When ∷ []) ts ≡ true → reads Name rules d case c ts ≡ reads Name rules d (branches None) c ts
unfolding case branches
case_bare d c ts here = chosen _ _ _ (ap (λ ks. starts ks ts) first_branches ∙ here)

pub case_of : (d : ℕ) (c : Counts) (ts : List Token) → starts (kind.When ∷ []) ts ≡ false → reads Name rules d case c ts ≡ (reads Name rules d expr c ts >>= λ x e rest. reads Name rules d (branches (Some x)) e rest)
unfolding case branches
case_of d c ts none = other _ _ _ (ap (λ ks. starts ks ts) first_branches ∙ none) ∙ both_to (reads Name rules d expr) (reads Name rules d (seq arms otherwise)) (λ p. tree.Case (Some p.0) p.1.0 p.1.1) c ts

pub ruleset case_steps = (case_bare, case_of)
