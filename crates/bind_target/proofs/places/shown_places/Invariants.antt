use Rattle.std.proofs.Common.{◌≡◌, ◌++◌, drop}
use Rattle.sql_bound.specs.Writes.{shown_places}
use Rattle.bind_target.proofs.places.shown_places.Given as goal

abbrev pub invariant-loop-is_hidden : goal.invariant-loop-is_hidden
invariant-loop-is_hidden l =
    (l.place ≡ l.is_hidden-index) × (shown_places 0 l.hidden ≡ l.places ++ shown_places l.is_hidden-index (drop l.is_hidden-index l.hidden))
