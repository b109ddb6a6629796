use Rattle.std.proofs.Common.{◌≡◌, true, Ok, List, map, arith, ap, sym, ◌++◌, ◌∙◌, subst}
use Rattle.bound_ignored.specs.Erased.{erased, marks_of}
use Rattle.bound_tree.specs.Exprs.{BoundExpr}
use Rattle.bound_tree.specs.declared.units.BoundItem.{BoundItem}
use Rattle.std.proofs.lemmas.Grind.{common_steps}
use Rattle.sql_meaning.specs.Running.{from_of, is_plain_core, rejecting}
use Rattle.sql_meaning.specs.Runnables.{Queries}
use Rattle.bind_stmt.specs.Binds.{AreFrom}
use Rattle.bind_stmt.specs.Steps.{inner_ons}
use Rattle.bind_stmt.proofs.Froms.{query-stands}
use Rattle.bind_stmt.proofs.Steps.{query_over, select-is}
use Rattle.bind_stmt.proofs.querying.select.Goals as goal

pub returns : goal.returns
returns c =
    let tables = c.args.tables.now in
    let core = c.args.core.now in
    let marks = c.in_ok-marks.marks in
    let w = c.in_ok-marks.ensures in
    let u = c.in_ok-from.ensures in
    let plain : is_plain_core core ≡ true = grind (arith, common_steps) in
    let marked : from_of tables core.items ≡ Ok w.0 = ap (from_of tables) (sym c.as_slice.ensures) ∙ w.1 in
    let found : from_of tables core.items ≡ Ok u.0 = ap (from_of tables) (sym c.as_slice-3.ensures) ∙ u.1 in
    let over : AreFrom (marks_of marks) u.0 c.in_ok-from.from = subst (λ (ms : List BoundItem). AreFrom (marks_of ms) u.0 c.in_ok-from.from) c.as_slice-2.ensures u.2 in
    let conjuncts : c.in_ok-conjuncts.conjuncts ≡ map (erased (marks_of marks)) (rejecting core) =
    c.in_ok-conjuncts.ensures
    ∙ ap (λ (ms : List BoundItem). map (erased (marks_of ms)) (inner_ons c.as_slice-5.result.now ++ c.replace-filter.result)) c.as_slice-4.ensures
    ∙ ap (λ (items : List BoundItem). map (erased (marks_of marks)) (inner_ons items ++ c.replace-filter.result)) c.as_slice-5.ensures
    ∙ ap (λ (filter : List BoundExpr). map (erased (marks_of marks)) (inner_ons core.items ++ filter)) c.replace-filter.ensures.value in
    let results : c.in_ok-results.results ≡ map (erased (marks_of marks)) core.results =
    c.in_ok-results.ensures
    ∙ ap (λ (ms : List BoundItem). map (erased (marks_of ms)) c.replace-results.result) c.as_slice-6.ensures
    ∙ ap (map (erased (marks_of marks))) c.replace-results.ensures.value in (
      Queries (query_over core w.0),
      select-is tables core w.0 plain marked,
      query-stands core (marks_of marks) w.0 u.0 (from_of tables core.items) (record { from = c.in_ok-from.from; conjuncts = c.in_ok-conjuncts.conjuncts; results = c.in_ok-results.results }) marked w.2 found over conjuncts results,
    )
