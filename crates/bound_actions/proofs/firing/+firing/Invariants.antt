use Rattle.std.proofs.Common.{◌≡◌, ◌+◌, ◌*◌, length, drop}
use Rattle.bound_actions.specs.Writes.{fired, opened, steps_listed}
use Rattle.bound_actions.proofs.firing.+firing.Given as goal

abbrev pub invariant-list_fired-loop-place : goal.invariant-list_fired-loop-place
invariant-list_fired-loop-place l = fired (opened l.units l.all l.left) l.table l.places l.fn.listed ≡ fired (opened l.units l.all l.left) l.table (drop l.place-index l.places) l.listed

abbrev pub invariant-list_steps-loop-step : goal.invariant-list_steps-loop-step
invariant-list_steps-loop-step l = steps_listed (opened l.units l.all l.left) l.units l.spot l.body l.fn.listed ≡ steps_listed (opened l.units l.all l.left) l.units l.spot (drop l.step-index l.body) l.listed

abbrev pub decreases-list_trigger : goal.decreases-list_trigger
decreases-list_trigger l = length l.left.now * 8 + 0

abbrev pub decreases-list_fired : goal.decreases-list_fired
decreases-list_fired l = length l.left.now * 8 + 1

abbrev pub decreases-list_write : goal.decreases-list_write
decreases-list_write l = length l.left.now * 8 + 2

abbrev pub decreases-list_step : goal.decreases-list_step
decreases-list_step l = length l.left.now * 8 + 3

abbrev pub decreases-list_steps : goal.decreases-list_steps
decreases-list_steps l = length l.left.now * 8 + 4

abbrev pub decreases-list_opened : goal.decreases-list_opened
decreases-list_opened l = length l.left.now * 8 + 5

abbrev pub decreases-list_once : goal.decreases-list_once
decreases-list_once l = length l.left.now * 8 + 6

abbrev pub decreases-list_placed : goal.decreases-list_placed
decreases-list_placed l = length l.left.now * 8 + 7
