-- One after another, each over the state that those in front of it leave.
use Rattle.std.specs.Prelude.{ℕ, List, [], ◌∷◌, ◌++◌, Ok}
use Rattle.bound_tree.specs.Exprs.{BoundExpr}
use Rattle.sql_bound.specs.Refusals.{Checked}
use Rattle.sql_bound.specs.Scopes.{Answer, Around, Level}
use Rattle.sql_bound.specs.Targets.{constraint_bound, in_check}
use Rattle.sql_bound.specs.Trees.{of_expr}
use Rattle.sql_bound.specs.declared.scopes.Work.{Work}
use Rattle.sql_words.specs.Refusals.{◌>>=◌}
use Rattle.sql_tree.specs.declared.expr.Expr.{Expr}

-- what each comes to goes behind what there is so far
abbrev pub in_turn : {A B S : Type 0} → (A → S → Checked (B × S)) → List A → List B → S → Checked (List B × S)
in_turn f [] so_far s = Ok (so_far, s)
in_turn f (x ∷ xs) so_far s = f x s >>= λ a. in_turn f xs (so_far ++ a.0 ∷ []) a.1

-- a CHECK of a table
abbrev pub check_bound : Around → List ℕ → Level → Expr → Work → Answer BoundExpr
check_bound around text level x w = constraint_bound around text level in_check (of_expr x) w
