use Rattle.std.proofs.Common.{◌≡◌, drop, length}
use Rattle.eng_value.specs.Functions.{best_behind}
use Rattle.eng_scalar.specs.Extremes.{beats}
use Rattle.eng_scalar.proofs.extremes.best_behind.Given as goal

abbrev pub invariant-loop-arg : goal.invariant-loop-arg
invariant-loop-arg l =
    best_behind (beats l.extreme) l.best l.best_key (drop (length l.yielded) l.args) (drop (length l.yielded) l.keys)
    ≡ best_behind (beats l.extreme) l.first l.first_key l.args l.keys
