use Rattle.std.proofs.Common.{◌≡◌, ℕ, Bool, List, Result, Ok, Err, IfOk, sym, ◌∙◌}
use Rattle.eng_value.specs.declared.cause.Cause.{Cause}
use Rattle.sql_tree.specs.declared.expr.Expr.{Expr}
use Rattle.sql_bound.specs.HostFacts.{facts_of}
use Rattle.sql_bound.specs.Scopes.{Facts, Outer}
use Rattle.sql_bound.specs.Trees.{of_expr}
use Rattle.bind_callee.specs.Told.{told}
use Rattle.bind_callee.proofs.HoldLaws.{holds-told}
use Rattle.bind_callee.proofs.holds.holds_aggregate.Goals as goal

wherever : (e : Expr) (text : List ℕ) (facts : Facts) (r : Result Bool Cause)
    → IfOk r (λ b. b ≡ (of_expr e).aggregates (told text facts))
    → IfOk r (λ b. (o : Outer) → o.text ≡ text → o.around.facts ≡ facts → (of_expr e).aggregates o ≡ b)
wherever e text facts (Ok b) h = λ o t f. holds-told e o text facts t f ∙ sym h
wherever e text facts (Err why) h = tt

pub returns-clause-ok : goal.returns-clause-ok
returns-clause-ok c = wherever c.args.e.now c.args.text.now (facts_of c.args.facts.now) c.holds.result c.holds.ensures.ok
