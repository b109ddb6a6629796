use Rattle.std.proofs.Common.{◌≡◌, drop}
use Rattle.eng_index.specs.Doubles.{has_neighbours}
use Rattle.eng_index.proofs.doubles.has_neighbours.Given as goal

abbrev pub invariant-loop-place : goal.invariant-loop-place
invariant-loop-place l = has_neighbours l.tree.pairs ≡ has_neighbours (drop l.place l.tree.pairs)
