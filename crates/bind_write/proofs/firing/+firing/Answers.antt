use Rattle.std.proofs.Common.{ℕ, rules, length, None, ◌++◌, ◌≡◌, ◌∷◌, [], map, List, Ok, Err, refl, sym, ap, ◌∙◌, arith, subst}
use Rattle.std.proofs.lemmas.Grind.{common_steps}
use Rattle.std.proofs.lemmas.Result.{err_from_is_err_and}
use Rattle.bind_query.specs.Scopes.{around_of, outer_of}
use Rattle.bind_target.specs.Meant.{begun_meant, opened_meant}
use Rattle.bind_write.specs.Turns.{in_turn}
use Rattle.bound_tree.specs.declared.writes.BoundStep.{BoundStep}
use Rattle.bound_tree.specs.declared.writes.BoundTrigger.{BoundTrigger}
use Rattle.eng_entry.specs.declared.entry.Entry.{Entry}
use Rattle.sql_bound.specs.Trees.{of_rows, of_trigger}
use Rattle.sql_bound.specs.Triggers.{header_of, opening_of, step_bound, steps_bound, trigger_at_place, trigger_of}
use Rattle.sql_bound.specs.Writes.{Opened, fired_all, fired_one, fires}
use Rattle.sql_tree.specs.declared.statement.RowCommand.{RowCommand}
use Rattle.bind_write.proofs.OpenLaws.{body-refused, condition-refused, open-next, open-there, query-step, trigger-opened}
use Rattle.bind_write.proofs.StepLaws.{comes-refused}
use Rattle.bind_write.proofs.Folds.{fold-end, fold-passed, fold-refused}
use Rattle.bind_write.proofs.TurnLaws.{steps-turn, turn-end, turn-one, turn-one-refused, turn-passed, turn-refused}
use Rattle.bind_write.proofs.firing.+firing.Goals as goal

pub bind_steps-loop-command-init : goal.bind_steps-loop-command-init
bind_steps-loop-command-init t c =
    let around = around_of c.args.scope.now in
    let op = opening_of trigger_of around c.args.left in
    let out = outer_of c.args.scope.now c.args.levels.now [] in
    let cs = map of_rows c.args.body.now in
    let s = opened_meant c.args.opened.now in
    subst (λ (so_far : List BoundStep). steps_bound op around out cs s ≡ in_turn (step_bound op around out) cs so_far s) (sym c.new-steps.ensures) (steps-turn op around out cs s)

pub bind_steps-loop-command-preserved : goal.bind_steps-loop-command-preserved
bind_steps-loop-command-preserved t c =
    let f = step_bound (opening_of trigger_of (around_of c.args.scope.now) c.args.left) (around_of c.args.scope.now) (outer_of c.args.scope.now c.args.levels.now []) in
    let x = c.command-item.result in
    let so_far = c.loop-command.steps in
    let s = opened_meant c.loop-command.opened in
    let new = opened_meant c.bind_step.new.opened in
    c.loop-command.invariant
    ∙ turn-passed f (map of_rows) (λ y ys. refl) c.args.body.now c.loop-command.command-index x so_far c.put.new.items s new c.loop-command-test.true
    (ap (λ (y : RowCommand). in_turn f (map of_rows (y ∷ [])) so_far s) (sym c.command-item.is)
    ∙ turn-one f (of_rows x) so_far s new c.in_ok-step.step c.in_ok-step.ensures
    ∙ ap (λ (ys : List BoundStep). Ok (ys, new)) (sym c.in_ok-put.ensures.ok))

pub bind_steps-returns-in_err-step : goal.bind_steps-returns-in_err-step
bind_steps-returns-in_err-step t c =
    let f = step_bound (opening_of trigger_of (around_of c.args.scope.now) c.args.left) (around_of c.args.scope.now) (outer_of c.args.scope.now c.args.levels.now []) in
    let x = c.command-item.result in
    let so_far = c.loop-command.steps in
    let s = opened_meant c.loop-command.opened in
    let why = c.in_err-step.field-0.0 in
    let refused : f (of_rows x) s ≡ Err why → steps_bound (opening_of trigger_of (around_of c.args.scope.now) c.args.left) (around_of c.args.scope.now) (outer_of c.args.scope.now c.args.levels.now []) (map of_rows c.args.body.now) (opened_meant c.args.opened.now) ≡ Err why = λ is.
    c.loop-command.invariant
    ∙ turn-refused f (map of_rows) (λ y ys. refl) c.args.body.now c.loop-command.command-index x so_far s why c.loop-command-test.true
    (ap (λ (y : RowCommand). in_turn f (map of_rows (y ∷ [])) so_far s) (sym c.command-item.is) ∙ turn-one-refused f (of_rows x) so_far s why is) in
    grind (arith, common_steps, refused)

pub bind_steps-returns : goal.bind_steps-returns
bind_steps-returns t c =
    let f = step_bound (opening_of trigger_of (around_of c.args.scope.now) c.args.left) (around_of c.args.scope.now) (outer_of c.args.scope.now c.args.levels.now []) in
    c.loop-command.invariant
    ∙ turn-end f (map of_rows) (λ y ys. refl) c.args.body.now c.loop-command.command-index c.loop-command.steps (opened_meant c.loop-command.opened) c.loop-command-test.false refl

-- ---- what is fired

pub fire_all-loop-entry-preserved : goal.fire_all-loop-entry-preserved
fire_all-loop-entry-preserved t c =
    let around = around_of c.args.scope.now in
    let opening = opening_of trigger_of around c.args.left in
    let b = begun_meant c.args.begun.now in
    let step = λ (entry : Entry) (f : List ℕ × Opened). fired_one opening b (fires around b entry) entry f in
    let x = c.entry-item.result in
    let so_far : List ℕ × Opened = (c.loop-entry.fired, opened_meant c.loop-entry.opened) in
    c.loop-entry.invariant
    ∙ fold-passed (fired_all opening around b) step (λ y ys f. refl) c.args.entries.now c.loop-entry.entry-index x so_far (c.fire_one.new.fired, opened_meant c.fire_one.new.opened) c.loop-entry-test.true
    (ap (λ (y : Entry). step y so_far) (sym c.entry-item.is) ∙ c.in_ok-fire_one.ensures)

pub fire_all-returns-in_err-fire_one : goal.fire_all-returns-in_err-fire_one
fire_all-returns-in_err-fire_one t c =
    let around = around_of c.args.scope.now in
    let opening = opening_of trigger_of around c.args.left in
    let b = begun_meant c.args.begun.now in
    let step = λ (entry : Entry) (f : List ℕ × Opened). fired_one opening b (fires around b entry) entry f in
    let x = c.entry-item.result in
    let so_far : List ℕ × Opened = (c.loop-entry.fired, opened_meant c.loop-entry.opened) in
    let why = c.in_err-fire_one.field-0.0 in
    let refused : step x so_far ≡ Err why → fired_all opening around b c.args.entries.now ([], opened_meant c.args.opened.now) ≡ Err why = λ is.
    c.loop-entry.invariant
    ∙ fold-refused (fired_all opening around b) step (λ y ys f. refl) c.args.entries.now c.loop-entry.entry-index x so_far why c.loop-entry-test.true
    (ap (λ (y : Entry). step y so_far) (sym c.entry-item.is) ∙ is) in
    grind (arith, common_steps, refused)

pub fire_all-returns : goal.fire_all-returns
fire_all-returns t c =
    let around = around_of c.args.scope.now in
    let opening = opening_of trigger_of around c.args.left in
    let b = begun_meant c.args.begun.now in
    let step = λ (entry : Entry) (f : List ℕ × Opened). fired_one opening b (fires around b entry) entry f in
    c.loop-entry.invariant
    ∙ fold-end (fired_all opening around b) step (λ y ys f. refl) c.args.entries.now c.loop-entry.entry-index (c.loop-entry.fired, opened_meant c.loop-entry.opened) c.loop-entry-test.false

-- ---- bodies and opening

pub bind_step-returns-in-Query : goal.bind_step-returns-in-Query
bind_step-returns-in-Query t c =
    query-step (opening_of trigger_of (around_of c.args.scope.now) c.args.left) (around_of c.args.scope.now) (outer_of c.args.scope.now c.args.levels.now []) c.args.command.now c.in-Query.query (opened_meant c.args.opened.now) c.in-Query.is c.ask_step.result
    (opened_meant c.ask_step.new.opened) (c.ask_step.ensures c.args.left)

pub open-returns-in-Some : goal.open-returns-in-Some
open-returns-in-Some t c =
    open-there (around_of c.args.scope.now) c.args.s.now c.args.entry.now (opened_meant c.args.opened.now) c.args.left c.in-Some.place (search rules) c.small.result c.small.ensures.ok c.small.ensures.mem

pub open-returns-in-Some-checked_sub : goal.open-returns-in-Some-checked_sub
open-returns-in-Some-checked_sub t c =
    open-next (around_of c.args.scope.now) c.args.s.now c.args.entry.now (opened_meant c.args.opened.now) c.args.left c.in-Some-checked_sub.left (grind (arith, common_steps)) (search rules) c.open_now.result
    (opened_meant c.open_now.new.opened) c.open_now.ensures

pub open_at-returns-in_err-condition : goal.open_at-returns-in_err-condition
open_at-returns-in_err-condition t c =
    comes-refused (trigger_at_place (opening_of trigger_of (around_of c.args.scope.now) c.args.left) (around_of c.args.scope.now) c.args.s.now c.args.entry.now (of_trigger c.args.trigger.now) (length c.args.opened.now.triggers) (opened_meant c.args.opened.now)) c.from_residual-in_err-condition.result (opened_meant c.bind_condition.new.opened) c.in_err-condition.field-0.0 (err_from_is_err_and c.from_residual-in_err-condition.result c.from_residual-in_err-condition.ensures.1)
    (condition-refused c.args.left c.args.scope.now c.args.s.now c.args.entry.now c.args.trigger.now (length c.args.opened.now.triggers) (opened_meant c.args.opened.now) c.put.new.items (c.in_ok-put.ensures.ok
    ∙ ap (λ (h : BoundTrigger). c.args.opened.now.triggers ++ h ∷ [])
    (c.in_ok-header.ensures.ok ∙ ap (λ (b : List BoundStep). record (header_of c.args.entry.now c.args.s.now (of_trigger c.args.trigger.now)) { condition = None; body = b }) c.new.ensures))
    c.of_entry-inside.result (search rules) c.as_slice-levels.result.now (search rules)
    _ c.in_err-condition.ensures)

pub open_at-returns-in_err-body : goal.open_at-returns-in_err-body
open_at-returns-in_err-body t c =
    comes-refused (trigger_at_place (opening_of trigger_of (around_of c.args.scope.now) c.args.left) (around_of c.args.scope.now) c.args.s.now c.args.entry.now (of_trigger c.args.trigger.now) (length c.args.opened.now.triggers) (opened_meant c.args.opened.now)) c.from_residual-in_err-body.result (opened_meant c.bind_steps.new.opened) c.in_err-body.field-0.0 (err_from_is_err_and c.from_residual-in_err-body.result c.from_residual-in_err-body.ensures.1)
    (body-refused c.args.left c.args.scope.now c.args.s.now c.args.entry.now c.args.trigger.now (length c.args.opened.now.triggers) (opened_meant c.args.opened.now) c.put.new.items (c.in_ok-put.ensures.ok
    ∙ ap (λ (h : BoundTrigger). c.args.opened.now.triggers ++ h ∷ [])
    (c.in_ok-header.ensures.ok ∙ ap (λ (b : List BoundStep). record (header_of c.args.entry.now c.args.s.now (of_trigger c.args.trigger.now)) { condition = None; body = b }) c.new.ensures))
    c.of_entry-inside.result (search rules) c.as_slice-levels.result.now (search rules)
    c.in_ok-condition.condition (opened_meant c.bind_condition.new.opened) c.in_ok-condition.ensures c.as_slice.result.now c.as_slice.ensures
    _ c.in_err-body.ensures)

pub open_at-returns : goal.open_at-returns
open_at-returns t c =
    trigger-opened c.args.left c.args.scope.now c.args.s.now c.args.entry.now c.args.trigger.now (length c.args.opened.now.triggers) (opened_meant c.args.opened.now) c.put.new.items (c.in_ok-put.ensures.ok
    ∙ ap (λ (h : BoundTrigger). c.args.opened.now.triggers ++ h ∷ [])
    (c.in_ok-header.ensures.ok ∙ ap (λ (b : List BoundStep). record (header_of c.args.entry.now c.args.s.now (of_trigger c.args.trigger.now)) { condition = None; body = b }) c.new.ensures))
    c.of_entry-inside.result (search rules) c.as_slice-levels.result.now (search rules)
    c.in_ok-condition.condition (opened_meant c.bind_condition.new.opened) c.in_ok-condition.ensures c.as_slice.result.now c.as_slice.ensures
    c.in_ok-body.body (opened_meant c.bind_steps.new.opened) c.in_ok-body.ensures c.in_ok-whole.whole c.in_ok-whole.ensures.ok c.len-place.result c.len-place.ensures c.with_trigger.new.triggers c.with_trigger.ensures
    c.in_ok-number.number c.in_ok-number.ensures.ok
