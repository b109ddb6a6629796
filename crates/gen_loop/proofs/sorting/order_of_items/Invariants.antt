use Rattle.std.proofs.Common.{◌≡◌}
use Rattle.gen_loop.specs.Sorting.{position_terms}
use Rattle.gen_loop.proofs.sorting.order_of_items.Given as goal

abbrev pub invariant-loop-place : goal.invariant-loop-place
invariant-loop-place l = l.terms ≡ position_terms l.place
