use Rattle.std.proofs.Common.{◌≡◌, take, ◌∷◌}
use Rattle.bind_query.proofs.levels.with_level.Given as goal

abbrev pub invariant-loop-level : goal.invariant-loop-level
invariant-loop-level l = l.all ≡ l.fn.own ∷ take l.level-index l.levels
