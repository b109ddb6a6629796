use Rattle.std.proofs.Common.{◌≡◌, drop}
use Rattle.std.specs.List.{list_any}
use Rattle.bind_target.specs.Meant.{firing_meant}
use Rattle.sql_bound.specs.Targets.{can_fire}
use Rattle.bind_target.proofs.firing.fires_one.Given as goal

abbrev pub invariant-loop-entry : goal.invariant-loop-entry
invariant-loop-entry l =
    list_any (can_fire l.table l.s (firing_meant l.event l.sets)) l.entries
    ≡ list_any (can_fire l.table l.s (firing_meant l.event l.sets)) (drop l.entry-index l.entries)
