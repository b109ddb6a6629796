use Rattle.std.proofs.Common.{◌≡◌, ◌+◌, ◌*◌, map, drop, []}
use Rattle.bind_query.specs.Scopes.{around_of, outer_of}
use Rattle.bind_target.specs.Meant.{begun_meant, opened_meant}
use Rattle.bind_write.specs.Turns.{in_turn}
use Rattle.sql_bound.specs.Trees.{of_rows}
use Rattle.sql_bound.specs.Triggers.{opening_of, step_bound, steps_bound, trigger_of}
use Rattle.sql_bound.specs.Writes.{fired_all}
use Rattle.bind_write.proofs.firing.+firing.Given as goal

abbrev pub decreases-open : goal.decreases-open
decreases-open l = l.left * 16 + 6

abbrev pub decreases-fire_one : goal.decreases-fire_one
decreases-fire_one l = l.left * 16 + 8

abbrev pub decreases-fire_all : goal.decreases-fire_all
decreases-fire_all l = l.left * 16 + 9

abbrev pub decreases-fire : goal.decreases-fire
decreases-fire l = l.left * 16 + 10

abbrev pub decreases-insert_with : goal.decreases-insert_with
decreases-insert_with l = l.left * 16 + 11

abbrev pub decreases-update_with : goal.decreases-update_with
decreases-update_with l = l.left * 16 + 11

abbrev pub decreases-delete_with : goal.decreases-delete_with
decreases-delete_with l = l.left * 16 + 11

abbrev pub decreases-bind_step : goal.decreases-bind_step
decreases-bind_step l = l.left * 16 + 12

abbrev pub decreases-bind_steps : goal.decreases-bind_steps
decreases-bind_steps l = l.left * 16 + 13

abbrev pub decreases-open_at : goal.decreases-open_at
decreases-open_at l = l.left * 16 + 14

abbrev pub decreases-open_now : goal.decreases-open_now
decreases-open_now l = l.left * 16 + 15

abbrev pub invariant-fire_all-loop-entry : goal.invariant-fire_all-loop-entry
invariant-fire_all-loop-entry l =
    fired_all (opening_of trigger_of (around_of l.scope) l.left) (around_of l.scope) (begun_meant l.begun) l.entries ([], opened_meant l.fn.opened)
    ≡ fired_all (opening_of trigger_of (around_of l.scope) l.left) (around_of l.scope) (begun_meant l.begun) (drop l.entry-index l.entries) (l.fired, opened_meant l.opened)

abbrev pub invariant-bind_steps-loop-command : goal.invariant-bind_steps-loop-command
invariant-bind_steps-loop-command l =
    steps_bound (opening_of trigger_of (around_of l.scope) l.left) (around_of l.scope) (outer_of l.scope l.levels []) (map of_rows l.body) (opened_meant l.fn.opened)
    ≡ in_turn (step_bound (opening_of trigger_of (around_of l.scope) l.left) (around_of l.scope) (outer_of l.scope l.levels [])) (map of_rows (drop l.command-index l.body)) l.steps (opened_meant l.opened)
