use Rattle.std.proofs.Common.{◌≡◌, ℕ, List, ◌≤◌, ◌<◌, length, true, false, sym, ap, ◌∙◌, subst}
use Rattle.std.specs.List.{list_any}
use Rattle.std.specs.Option.{option_map}
use Rattle.sql_tree.specs.declared.expr.Expr.{Expr}
use Rattle.sql_bound.specs.Parameters.{expr_has_parameter, some}
use Rattle.bind_parameter.specs.Held.{arm_has, part_has}
use Rattle.bind_parameter.proofs.HeldLaws.{case-last, found-any, has-part-Values, none-any}
use Rattle.bind_parameter.proofs.+seeking.Goals as goal

pub queries::part_has-returns-then-any_has : goal.queries::part_has-returns-then-any_has
queries::part_has-returns-then-any_has t c =
    let row = list_any expr_has_parameter in
    found-any row c.as_slice-rows.result.now c.loop-row.row-index c.row-item.result c.loop-row-test.true c.loop-row.invariant
    (sym (ap row c.row-item.is) ∙ sym (ap row c.as_slice.ensures) ∙ sym c.any_has.ensures ∙ c.if-any_has.true)
    ∙ ap (list_any row) c.as_slice-rows.ensures ∙ sym (has-part-Values c.in-Values.rows) ∙ sym (ap part_has c.in-Values.is)

pub queries::part_has-returns-after-loop-row : goal.queries::part_has-returns-after-loop-row
queries::part_has-returns-after-loop-row t c =
    let row = list_any expr_has_parameter in
    none-any row c.as_slice-rows.result.now c.loop-row.row-index c.loop-row-test.false c.loop-row.invariant
    ∙ ap (list_any row) c.as_slice-rows.ensures ∙ sym (has-part-Values c.in-Values.rows) ∙ sym (ap part_has c.in-Values.is)

pub expressions::expr_has-returns-else-any_arm_has : goal.expressions::expr_has-returns-else-any_arm_has
expressions::expr_has-returns-else-any_arm_has t c =
    c.boxed_has-in-Case-2.ensures
    ∙ sym (case-last c.in-Case.a c.in-Case.arms c.in-Case.otherwise c.args.e.now c.in-Case.is
    (sym c.boxed_has-in-Case.ensures ∙ c.if-boxed_has.false)
    (sym (ap (list_any arm_has) c.as_slice-in-Case.ensures) ∙ sym c.any_arm_has.ensures ∙ c.if-any_arm_has.false))
