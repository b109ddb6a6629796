-- Constraints of joins, by their trees.
use Rattle.std.proofs.Common.{◌≡◌, ℕ, List, true, Result, Err, codes, refl, ap, sym, ◌∙◌, rules}
use Rattle.bind_with.proofs.AnswerLaws.{comes-by, comes-refuses, comes-units}
use Rattle.eng_value.specs.declared.cause.Cause.TheVariants.{Misuse}
use Rattle.eng_value.specs.declared.cause.Cause.{Cause}
use Rattle.sql_bound.specs.Answers.{Answers, Comes, Refuses}
use Rattle.sql_bound.specs.Carriers as parts
use Rattle.sql_bound.specs.Froms.{Inside, common_names, constrained, using_all, with_units}
use Rattle.sql_bound.specs.Scopes.{Level, is_shown}
use Rattle.sql_bound.specs.Trees.{of_constraint, of_expr}
use Rattle.sql_bound.specs.declared.froms.Joining.{Joining}
use Rattle.sql_bound.specs.declared.scopes.Work.{Work}
use Rattle.sql_tree.specs.declared.expr.Expr.{Expr, the_lemmas}
use Rattle.sql_tree.specs.declared.query.JoinConstraint.TheVariants as tree
use Rattle.sql_tree.specs.declared.query.JoinConstraint.{JoinConstraint}
use Rattle.sql_tree.specs.declared.token.Token.{Token}

pub unconstrained-is : of_constraint tree.Unconstrained ≡ parts.Unconstrained
unconstrained-is = search (rules, the_lemmas)

pub on-is : (x : Expr) → of_constraint (tree.On x) ≡ parts.On (of_expr x)
on-is x = search (rules, the_lemmas)

pub using-is : (names : List Token) → of_constraint (tree.Using names) ≡ parts.Using names
using-is names = search (rules, the_lemmas)

module _ (i : Inside) (left : Level) (j : Joining) (w : Work) (c : JoinConstraint) (r : Result Joining Cause) where
  pub natural-plain : c ≡ tree.Unconstrained → Answers (using_all is_shown left (common_names left j.right) j) r → Comes (constrained i left true (of_constraint c) j w) r w
  natural-plain is answers =
      comes-by (constrained i left true (of_constraint c) j w) (with_units (using_all is_shown left (common_names left j.right) j) w) r w
      (ap (λ p. constrained i left true p j w) (ap of_constraint is ∙ unconstrained-is))
      (comes-units (using_all is_shown left (common_names left j.right) j) r w answers)

  pub natural-on : (x : Expr) → c ≡ tree.On x → Refuses (Misuse (codes "NATURAL")) r → Comes (constrained i left true (of_constraint c) j w) r w
  natural-on x is refused =
      comes-by (constrained i left true (of_constraint c) j w) (Err (Misuse (codes "NATURAL"))) r w
      (ap (λ p. constrained i left true p j w) (ap of_constraint is ∙ on-is x))
      (comes-refuses (Misuse (codes "NATURAL")) r w refused)

  pub natural-using : (names : List Token) → c ≡ tree.Using names → Refuses (Misuse (codes "NATURAL")) r → Comes (constrained i left true (of_constraint c) j w) r w
  natural-using names is refused =
      comes-by (constrained i left true (of_constraint c) j w) (Err (Misuse (codes "NATURAL"))) r w
      (ap (λ p. constrained i left true p j w) (ap of_constraint is ∙ using-is names))
      (comes-refuses (Misuse (codes "NATURAL")) r w refused)
