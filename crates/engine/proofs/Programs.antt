-- Programs of queries whose parameters are known.
use Rattle.std.proofs.Common.{◌≡◌, List, Result, subst}
use Rattle.std.specs.Prelude.{IfOk}
use Rattle.std.proofs.lemmas.Result.{IfOk-weaker}
use Rattle.bound_tree.specs.Exprs.{BoundExpr}
use Rattle.eng_value.specs.declared.value.Value.{Value}
use Rattle.gen_query.specs.Queries.{NamesItsItems, conjuncts_of, query_run, query_steps}
use Rattle.plan_tree.specs.Plans.{AreOver, IsSmall, PlanFits}
use Rattle.plan_tree.specs.declared.access.JoinPlan.{JoinPlan}
use Rattle.sql_meaning.specs.declared.bound.BoundSelect.{BoundSelect}
use Rattle.sql_meaning.specs.declared.bound.FromTable.{FromTable}
use Rattle.vm_code.specs.Accepted.{IsAccepted}
use Rattle.vm_code.specs.Machine.{PerformsWith}
use Rattle.vm_code.specs.declared.program.Program.{Program}

-- what fits the FROM and the conjuncts of a query, fits the query
pub fits_query : (params : List Value) (q : BoundSelect) (from : List FromTable) (conjuncts : List BoundExpr) (plan : JoinPlan) → from ≡ q.from → conjuncts ≡ conjuncts_of q → PlanFits params from conjuncts plan → PlanFits params q.from (conjuncts_of q) plan
fits_query params q from conjuncts plan items split fits =
    subst (λ f. PlanFits params f (conjuncts_of q) plan) items (subst (λ cs. PlanFits params from cs plan) split fits)

-- the program performs the query where its plan fits for the parameters
pub performs_by : {E : Type 0} (params : List Value) (q : BoundSelect) (plan : JoinPlan) (result : Result Program E) → PlanFits params q.from (conjuncts_of q) plan
    → IfOk result (λ p. (given : List Value) → PlanFits given q.from (conjuncts_of q) plan → PerformsWith given p (query_run q) (query_steps q)) → IfOk result (λ p. PerformsWith params p (query_run q) (query_steps q))
performs_by params q plan result fits =
    IfOk-weaker result (λ p. (given : List Value) → PlanFits given q.from (conjuncts_of q) plan → PerformsWith given p (query_run q) (query_steps q)) (λ p. PerformsWith params p (query_run q) (query_steps q)) (λ p performs. performs params fits)

-- it keeps the rules where the query names its items
pub accepted_by : {E : Type 0} (params : List Value) (q : BoundSelect) (plan : JoinPlan) (result : Result Program E) → PlanFits params q.from (conjuncts_of q) plan
    → IfOk result (λ p. AreOver q.from plan.loops → IsSmall q.from (conjuncts_of q) plan → NamesItsItems q → IsAccepted p) → IfOk result (λ p. NamesItsItems q → IsAccepted p)
accepted_by params q plan result fits =
    IfOk-weaker result (λ p. AreOver q.from plan.loops → IsSmall q.from (conjuncts_of q) plan → NamesItsItems q → IsAccepted p) (λ p. NamesItsItems q → IsAccepted p) (λ p accepted. accepted fits.over fits.small)
