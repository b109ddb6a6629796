-- What is needed from further out.
use Rattle.std.proofs.Common.{◌≡◌, ◌∙◌, ℕ, ◌+◌, add-one, ap}
use Rattle.bound_tree.specs.Exprs.{BoundExpr}
use Rattle.sql_bound.specs.Scopes.{brought, needed}
use Rattle.sql_bound.specs.declared.scopes.Work.{Work}

pub brought-further : (n up : ℕ) (tree : BoundExpr) (w : Work) → n ≡ up + 1 → brought n tree w ≡ needed (record { up = up; tree = tree }) w
brought-further n up tree w is = ap (λ k. brought k tree w) (is ∙ add-one up)
