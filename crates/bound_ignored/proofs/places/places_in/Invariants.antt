use Rattle.std.proofs.Common.{◌≡◌, ◌++◌, drop}
use Rattle.bound_ignored.specs.Marked.{places_from, places_in}
use Rattle.bound_ignored.proofs.places.places_in.Given as goal

abbrev pub invariant-loop-k : goal.invariant-loop-k
invariant-loop-k l = places_in l.ignored l.within l.table l.columns ≡ l.places ++ places_from l.ignored l.within l.table l.k (drop l.k l.columns)
