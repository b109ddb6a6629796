use Rattle.std.proofs.Common.{◌≡◌, take}
use Rattle.std.specs.List.{flat_map}
use Rattle.bound_tree.specs.Conditions.{conditions_of}
use Rattle.plan_tree.proofs.conjuncts.split.Given as goal

abbrev pub invariant-loop-conjunct : goal.invariant-loop-conjunct
invariant-loop-conjunct l = l.all ≡ flat_map conditions_of (take l.conjunct-index l.conjuncts)
